-- The pass stays in its place over a look.
use Rattle.std.proofs.Common.{ap}
use Rattle.lb_book.specs.Desks.{DeskState}
use Rattle.lb_passes.proofs.PlacedLaws.{own_looked, placed_stay}
use Rattle.lb_passes.proofs.placed_desk.PlacedDeskDesk.look.Goals as goal

pub invariant_of-self : goal.invariant_of-self
invariant_of-self g c = record {
  placed = placed_stay _ _ _ _ _ c.args.self.now.placed c.look.ensures.same.stay (ap (λ (d : DeskState). d.caller) c.look.ensures.same.desk) (ap (λ (d : DeskState). d.sizes) c.look.ensures.same.desk)
      (own_looked _ _ _ c.args.self.now.placed.only c.look.ensures.same.desk c.look.ensures.seen c.args.self.now.placed.owns);
}
