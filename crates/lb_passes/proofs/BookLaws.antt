-- A Book stays that of its whole history where it takes entries and where it is cut.
use Rattle.std.proofs.Common.{◌≡◌, ◌+◌, ℕ, ◌<◌, List, ◌++◌, length, ◌∙◌, arith, length-append}
use Rattle.std.proofs.lemmas.List.{length-map}
use Rattle.lb_model.specs.declared.journal.Entry.{Entry}
use Rattle.lb_book.specs.Ending.{IsCut}
use Rattle.lb_book.specs.Journal.{IsSound, Journal}
use Rattle.lb_book.specs.ToldBooks.{AreNextAt, grown_by}
use Rattle.lb_book.specs.declared.receipt.Receipt.{Receipt}
use Rattle.lb_book.proofs.ToldLaws.{sound_grown}
use Rattle.lb_passes.specs.Turns.{IsBookOf}
use Rattle.lb_passes.specs.declared.pass_view.Origin.{Origin}
use Rattle.lb_book.proofs.HistoryLaws.{cut_of, entries_in, grown_of, uncut_whole}

-- The entries of a call follow the history.
pub book_grown : (o : Origin) (h : List Entry) (b : Journal) (at : ℕ) (gained : List Receipt) → IsBookOf o h b → AreNextAt b at gained
    → IsBookOf o (h ++ entries_in gained) (grown_by b gained)
book_grown o h b at gained is next = record {
  whole = grown_of o.opening h b gained is.whole;
  sound = sound_grown b at gained is.sound next;
  counted =
      let counted : b.added ≡ o.added + length h = is.counted in
      let many : length (entries_in gained) ≡ length gained = length-map gained (λ (r : Receipt). r.entry) in
      let sum : b.added + length gained ≡ o.added + length (h ++ entries_in gained) = omega (arith, counted, many, length-append h (entries_in gained)) in
      sum;
  uncut = is.uncut;
}

-- A cut takes nothing from the history.
pub book_cut : (o : Origin) (h : List Entry) (b new : Journal) → IsBookOf o h b → 0 < o.cut_at → IsSound new → IsCut b new → IsBookOf o h new
book_cut o h b new is cuts sound cut = record {
  whole = cut_of o.opening h b new is.whole is.sound cut;
  sound = sound;
  counted = cut.added ∙ is.counted;
  uncut = λ never. absurd (omega (arith, cuts, never));
}

-- A Book that is never cut has kept all of it.
pub book_entries : (o : Origin) (h : List Entry) (b : Journal) → IsBookOf o h b → o.cut_at ≡ 0 → h ≡ b.entries
book_entries o h b is never = uncut_whole o.opening h b is.whole (is.uncut never)
