-- The pass stays in its place when it meets a note.
use Rattle.std.proofs.Common.{◌∙◌, ap, sym, arith}
use Rattle.lb_book.specs.Desks.{DeskState}
use Rattle.lb_passes.proofs.PlacedLaws.{own_met, placed_stay}
use Rattle.lb_passes.proofs.placed_desk.PlacedDesk.meet.Goals as goal

pub meet-requires-clause-known : goal.meet-requires-clause-known
meet-requires-clause-known g c = omega (arith, c.args.self.now.placed.sized)

pub meet-requires-clause-of : goal.meet-requires-clause-of
meet-requires-clause-of g c = λ p at. c.requires.of ∙ sym (c.args.self.now.placed.back p at).of

pub invariant_of-self : goal.invariant_of-self
invariant_of-self g c = record {
  placed = placed_stay _ _ _ _ _ c.args.self.now.placed c.meet.ensures.same.stay (ap (λ (d : DeskState). d.caller) c.meet.ensures.same.desk) (ap (λ (d : DeskState). d.sizes) c.meet.ensures.same.desk)
      (own_met _ _ _ c.args.self.now.placed.only c.meet.ensures.same.desk c.meet.ensures.meets c.args.self.now.placed.owns);
}
