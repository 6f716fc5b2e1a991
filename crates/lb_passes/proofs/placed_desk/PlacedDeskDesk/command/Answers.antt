-- The pass stays in its place over a command.
use Rattle.lb_passes.proofs.PlacedLaws.{own_commanded, placed_stay}
use Rattle.lb_passes.proofs.placed_desk.PlacedDeskDesk.command.Goals as goal

pub invariant_of-self : goal.invariant_of-self
invariant_of-self g c = record {
  placed = placed_stay _ _ _ _ _ c.args.self.now.placed c.command.ensures.keeps.stay c.command.ensures.keeps.kept.caller c.command.ensures.keeps.kept.sizes
      (own_commanded _ _ _ _ _ _ c.command.result c.args.self.now.placed.only c.command.ensures.ok c.command.ensures.err c.command.ensures.seen c.args.self.now.placed.owns);
}
