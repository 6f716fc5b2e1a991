-- Entries that a segment may keep: none, those before others, and with a further one.
use Rattle.std.proofs.Common.{◌≡◌, ℕ, suc, zero, ◌⊎◌, List, [], ◌∷◌, ◌++◌, Some, None, inl, inr, ⊎_elim, subst}
use Rattle.std.specs.Prelude.{slice_get}
use Rattle.lb_model.specs.Segments.{AreKeptEntries, IsKeptEntry}
use Rattle.lb_model.specs.declared.journal.Entry.{Entry}
use Rattle.journal_text.specs.Ranges.{HasTicket, IsKeptCall}

kept_entry : (v : ℕ) (e : Entry) → HasTicket e.seq e.answer → IsKeptCall v e.call → IsKeptEntry v e
kept_entry v e ticket asked = record {
  ticket = λ m t how probe is. subst (HasTicket e.seq) is ticket;
  bytes = λ t w is. subst (IsKeptCall v) is asked;
  disabled = λ ask one is. (subst (IsKeptCall v) is asked one).0;
  stopped = λ ask one is. (subst (IsKeptCall v) is asked one).1;
}

at_end : (entries : List Entry) (e : Entry) (i : ℕ) (x : Entry) → slice_get (entries ++ e ∷ []) i ≡ Some x → (slice_get entries i ≡ Some x) ⊎ (e ≡ x)
at_end [] e zero x h = inr cc
at_end [] e (suc i) x h = absurd (let none : None ≡ Some x = h in cc)
at_end (y ∷ ys) e zero x h = inl h
at_end (y ∷ ys) e (suc i) x h = at_end ys e i x h

pub kept_more : (v : ℕ) (entries : List Entry) (e : Entry) → AreKeptEntries v entries → HasTicket e.seq e.answer → IsKeptCall v e.call
    → AreKeptEntries v (entries ++ e ∷ [])
kept_more v entries e h ticket asked = record {
  at = λ i x found. ⊎_elim (λ former. h.at i x former) (λ same. subst (IsKeptEntry v) same (kept_entry v e ticket asked)) (at_end entries e i x found);
}

pub kept_none : (v : ℕ) → AreKeptEntries v []
kept_none v = record { at = λ i e found. absurd (let none : None ≡ Some e = found in cc) }

before : (xs ys : List Entry) (i : ℕ) (e : Entry) → slice_get xs i ≡ Some e → slice_get (xs ++ ys) i ≡ Some e
before [] ys i e h = absurd (let none : None ≡ Some e = h in cc)
before (x ∷ xs) ys zero e h = h
before (x ∷ xs) ys (suc i) e h = before xs ys i e h

pub kept_before : (v : ℕ) (xs ys : List Entry) → AreKeptEntries v (xs ++ ys) → AreKeptEntries v xs
kept_before v xs ys h = record { at = λ i e found. h.at i e (before xs ys i e found) }
