-- All passes are back, with the numbers that the slots had, and the threads' counts are together.
use Rattle.std.proofs.Common.{◌∙◌, List, ap, arith, map, refl, subst, sym}
use Rattle.drill.proofs.CountLaws.{slots_counted}
use Rattle.lb_passes.specs.Holds.{own_in}
use Rattle.lb_passes.specs.PassDesks.{view_of}
use Rattle.lb_passes.specs.Placed.{AreBack}
use Rattle.lb_passes.specs.declared.pass.Pass.{Pass}
use Rattle.drill.proofs.PassLaws.{passes_back, told_entries}
use Rattle.drill.proofs.pass_slots.serve_in_turns.Goals as goal

pub returns-in-Some-clause-back : goal.returns-in-Some-clause-back
returns-in-Some-clause-back g c =
    subst (λ (ps : List Pass). AreBack g.P.PassPlace.table g.P.PassPlace.origin g.P.PassPlace.given ps) (sym c.from_vec.ensures)
    (passes_back _ _ _ _ c.in_ok-slots.slots.items _ (c.empty_slots.ensures.numbers ∙ c.serve_each.ensures.numbers)
    (omega (arith, c.in_ok-slots.ensures.count, c.in_ok-slots.slots.ok.0)) c.in_ok-slots.ensures.numbers c.empty_slots.ensures.back)

pub returns-in-Some-clause-counted : goal.returns-in-Some-clause-counted
returns-in-Some-clause-counted g c = record {
  told = _;
  counted =
      slots_counted c.args.site.now c.args.plan (λ s. s.desk.desk.desk.receipts) (λ s. s.made) c.serve_each.new.slots.items _ _
      (omega (arith, c.in_ok-slots.ensures.count, c.requires.threads, c.serve_each.ensures.len, c.serve_each.new.slots.ok.0))
      c.serve_each.ensures.made refl (sym c.empty_slots.ensures.bodies ∙ c.in-Some.is);
  own =
      ap (λ (ps : List Pass). map (λ (p : Pass). own_in (view_of p)) ps) c.from_vec.ensures
      ∙ c.empty_slots.ensures.own
      ∙ sym (told_entries (λ s. s.desk.desk.desk.receipts) c.serve_each.new.slots.items);
}
