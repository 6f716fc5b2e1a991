-- The real world tells no gears, so that one came back is no fact of it; the counts are.
use Rattle.std.proofs.Common.{refl}
use Rattle.gear_worlds.proofs.real_world.RealWorldWorld.TheImpl.Goals as goal

pub back-tells : goal.back-tells
back-tells g _ _ _ _ _ _ _ _ _ c = record { came_back = refl; one_less = c.ensures.one_less; same = (refl, c.ensures.same); unshown = refl }
