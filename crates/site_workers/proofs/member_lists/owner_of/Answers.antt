use Rattle.std.proofs.Common.{refl}
use Rattle.site_workers.proofs.member_lists.owner_of.Goals as goal

pub returns-in-Some : goal.returns-in-Some
returns-in-Some c = rw c.in-Some.ensures.some.1 refl
