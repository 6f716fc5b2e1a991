use Rattle.std.proofs.Common.{refl}
use Rattle.gear_parts.proofs.logs.give_log.Goals as goal

pub returns : goal.returns
returns g c = (_, c.in-Some.ensures.cases.0, refl)
