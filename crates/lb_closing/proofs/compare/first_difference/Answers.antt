-- The first place at which they differ.
use Rattle.std.proofs.Common.{ℕ, ◌∙◌, sym, ap}
use Rattle.std.specs.Prelude.{Option, slice_get}
use Rattle.lb_model.specs.declared.journal.Entry.{Entry}
use Rattle.lb_closing.specs.Closings.{entry_for, first_number}
use Rattle.lb_closing.proofs.ListLaws.{take_same}
use Rattle.lb_closing.proofs.compare.first_difference.Goals as goal

pub loop-place-preserved : goal.loop-place-preserved
loop-place-preserved g c =
    take_same c.loop-place.place c.args.receipts.now c.args.kept.now c.loop-place.invariant
    (sym c.at-x.ensures ∙ c.differ.ensures.same c.if-differ.false ∙ c.at-y.ensures)

pub returns-then-differ-clause-differ : goal.returns-then-differ-clause-differ
returns-then-differ-clause-differ g c = record {
  place = c.loop-place.place;
  same = c.loop-place.invariant;
  differ = λ is. c.differ.ensures.other c.if-differ.true (c.at-x.ensures ∙ is ∙ sym c.at-y.ensures);
  number = c.discord_of.ensures.number ∙ ap (λ (x : Option (ℕ × Entry)). first_number x c.at-y.result) c.at-x.ensures ∙ ap (λ (y : Option (ℕ × Entry)). first_number (slice_get c.args.receipts.now c.loop-place.place) y) c.at-y.ensures;
  receipt = c.discord_of.ensures.receipt ∙ ap (λ (x : Option (ℕ × Entry)). entry_for c.discord_of.result.lb c.discord_of.result.seq x) c.at-x.ensures;
  entry = c.discord_of.ensures.entry ∙ ap (λ (x : Option (ℕ × Entry)). entry_for c.discord_of.result.lb c.discord_of.result.seq x) c.at-y.ensures;
}
