use Rattle.std.proofs.Common.{ℕ, List, reverse, sym, ◌∙◌, subst}
use Rattle.lb_model.specs.Segments.{AreKeptEntries}
use Rattle.lb_model.specs.Validity.{IsOpening}
use Rattle.lb_model.proofs.OutFacts.{legal_opening}
use Rattle.lb_model.specs.declared.journal.Entry.{Entry}
use Rattle.lb_model.specs.declared.opening.Opening.{Opening}
use Rattle.lb_rules.specs.RuleNumbers.{rules_number}
use Rattle.lb_book.proofs.SegmentLaws.{kept_entries, are_rules}
use Rattle.lb_book.proofs.book.Book.segment.Goals as goal

pub invariant_of-result : goal.invariant_of-result
invariant_of-result c = record {
  versions = are_rules c.number.result c.self.inside.rules c.number.ensures;
  valid = ∣ subst (λ (o : Opening). IsOpening o) (sym c.in_ok-opening.ensures)
      (legal_opening (rules_number c.self.inside.rules) c.self.inside.opening (reverse c.self.inside.entries.items) c.self.invariant.legal) ∣₁;
  kept = subst (λ (v : ℕ). AreKeptEntries v c.from_vec.result) (sym c.number.ensures)
      (subst (λ (xs : List Entry). AreKeptEntries (rules_number c.self.inside.rules) xs)
      (sym (c.from_vec.ensures ∙ c.in_ok-entries.ensures.items ∙ c.as_slice.ensures.value))
      (kept_entries (rules_number c.self.inside.rules) c.self.inside.opening c.self.inside.entries.items c.self.invariant.legal));
}
