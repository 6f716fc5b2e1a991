use Rattle.std.proofs.Common.{◌≡◌, ℕ, List, [], reverse, sym, ◌∙◌, ap, subst, arith}
use Rattle.std.proofs.lemmas.List.{length-reverse}
use Rattle.lb_model.specs.Present.{IsEnding}
use Rattle.lb_model.specs.Segments.{AreKeptEntries}
use Rattle.lb_model.proofs.OutFacts.{legal_opening}
use Rattle.lb_model.specs.declared.journal.Entry.{Entry}
use Rattle.lb_book.specs.Ending.{IsCut}
use Rattle.lb_book.specs.Journal.{Journal}
use Rattle.lb_rules.specs.RuleNumbers.{rules_number}
use Rattle.lb_book.proofs.EndingLaws.{ending_valid, is_cut, narrow_now, ranges_now}
use Rattle.lb_book.proofs.SegmentLaws.{are_rules, kept_entries}
use Rattle.lb_book.proofs.book.Book.cut.Goals as goal

pub ending-requires-clause-ranges : goal.ending-requires-clause-ranges
ending-requires-clause-ranges c =
    ranges_now (rules_number c.self.inside.rules) c.self.inside.opening (reverse c.self.inside.entries.items) c.self.inside.present
    c.self.invariant.legal c.self.invariant.present

pub ending-requires-clause-narrow : goal.ending-requires-clause-narrow
ending-requires-clause-narrow c =
    narrow_now (rules_number c.self.inside.rules) c.self.inside.opening (reverse c.self.inside.entries.items) c.self.inside.present
    c.self.invariant.legal c.self.invariant.present

pub open-requires : goal.open-requires
open-requires c =
    let ends = rw c.as_slice.ensures.value at c.in_ok-opening.ensures in
    ending_valid (rules_number c.self.inside.rules) c.self.inside.opening (reverse c.self.inside.entries.items) c.in_ok-opening.opening
    (ends (rules_number c.self.inside.rules) c.self.invariant.legal c.self.invariant.present)
    c.self.inside.present c.self.invariant.legal c.self.invariant.present

pub invariant_of-fresh : goal.invariant_of-fresh
invariant_of-fresh c =
    let ends = rw c.as_slice.ensures.value at c.in_ok-opening.ensures in
    let is : IsEnding (rules_number c.self.inside.rules) c.self.inside.opening (reverse c.self.inside.entries.items) c.in_ok-opening.opening =
    ends (rules_number c.self.inside.rules) c.self.invariant.legal c.self.invariant.present in
    let next_is : c.fresh.inside.opening.next ≡ c.in_ok-opening.opening.next =
    ap (λ (b : Journal). b.opening.next) (c.fresh.view_is ∙ c.in_ok-fresh.ensures.opened) in
    record {
      legal = c.fresh.invariant.legal;
      present = c.fresh.invariant.present;
      returns = c.fresh.invariant.returns;
      room = c.fresh.invariant.room;
      returns_room = c.fresh.invariant.returns_room;
      counted = omega (arith, next_is, is.next, c.self.invariant.counted, length-reverse c.self.inside.entries.items);
    }

pub invariant_of-result : goal.invariant_of-result
invariant_of-result c = record {
  versions = are_rules c.number.result c.rules.inside.rules c.number.ensures;
  valid = ∣ legal_opening (rules_number c.rules.inside.rules) c.rules.inside.opening (reverse c.rules.inside.entries.items) c.rules.invariant.legal ∣₁;
  kept = subst (λ (v : ℕ). AreKeptEntries v c.from_vec.result) (sym c.number.ensures)
      (subst (λ (xs : List Entry). AreKeptEntries (rules_number c.rules.inside.rules) xs) (sym c.from_vec.ensures)
      (kept_entries (rules_number c.rules.inside.rules) c.rules.inside.opening c.rules.inside.entries.items c.rules.invariant.legal));
}

pub returns-clause-cut : goal.returns-clause-cut
returns-clause-cut c =
    let ends = rw c.as_slice.ensures.value at c.in_ok-opening.ensures in
    let is : IsEnding (rules_number c.self.inside.rules) c.self.inside.opening (reverse c.self.inside.entries.items) c.in_ok-opening.opening =
    ends (rules_number c.self.inside.rules) c.self.invariant.legal c.self.invariant.present in
    let new : Journal = record {
      rules = rules_number c.self.inside.rules;
      opening = c.in_ok-opening.opening;
      entries = [];
      added = c.self.inside.added;
    } in
    let dest_is : c.replace.new.dest ≡ new =
    c.replace.ensures.after ∙ ap (λ (b : Journal). record b { added = c.self.inside.added }) (c.fresh.view_is ∙ c.in_ok-fresh.ensures.opened) in
    subst (λ (b : Journal). IsCut b c.replace.new.dest) c.self.view_is
    (subst (λ (b : Journal). IsCut (record {
      rules = rules_number c.self.inside.rules;
      opening = c.self.inside.opening;
      entries = c.self.inside.entries.items;
      added = c.self.inside.added;
    }) b) (sym dest_is)
    (is_cut (rules_number c.self.inside.rules) c.self.inside.opening c.self.inside.entries.items c.self.inside.added c.in_ok-opening.opening is))
