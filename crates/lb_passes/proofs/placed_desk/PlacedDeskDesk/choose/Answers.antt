-- The pass stays in its place over an ask.
use Rattle.lb_passes.proofs.PlacedLaws.{own_asked, placed_stay}
use Rattle.lb_passes.proofs.placed_desk.PlacedDeskDesk.choose.Goals as goal

pub invariant_of-self : goal.invariant_of-self
invariant_of-self g c = record {
  placed = placed_stay _ _ _ _ _ c.args.self.now.placed c.choose.ensures.keeps.stay c.choose.ensures.keeps.kept.caller c.choose.ensures.keeps.kept.sizes
      (own_asked _ _ _ _ _ _ c.choose.result c.args.self.now.placed.only c.choose.ensures.ok c.choose.ensures.err c.choose.ensures.seen c.args.self.now.placed.owns);
}
