-- With each lease that is given back fewer are left.
use Rattle.std.proofs.Common.{length}
use Rattle.desk_checks.proofs.leases.give_all_back.Given as goal

abbrev pub decreases-loop-lease : goal.decreases-loop-lease
decreases-loop-lease g l = length l.leases.items
