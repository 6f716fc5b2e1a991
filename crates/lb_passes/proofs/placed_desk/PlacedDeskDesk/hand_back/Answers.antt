-- The pass stays in its place over a Return.
use Rattle.lb_passes.proofs.PlacedLaws.{own_handed_back, placed_stay}
use Rattle.lb_passes.proofs.placed_desk.PlacedDeskDesk.hand_back.Goals as goal

pub invariant_of-self : goal.invariant_of-self
invariant_of-self g c = record {
  placed = placed_stay _ _ _ _ _ c.args.self.now.placed c.hand_back.ensures.keeps.stay c.hand_back.ensures.keeps.kept.caller c.hand_back.ensures.keeps.kept.sizes
      (own_handed_back _ _ _ _ _ _ c.hand_back.result c.args.self.now.placed.only c.hand_back.ensures.back c.hand_back.ensures.ok c.hand_back.ensures.seen c.args.self.now.placed.owns);
}
