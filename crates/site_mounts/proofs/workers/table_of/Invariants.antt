use Rattle.std.proofs.Common.{◌≡◌, ◌≤◌, drop, take, length}
use Rattle.site_mounts.specs.Workers.{IsTable}
use Rattle.site_mounts.proofs.workers.table_of.Given as goal

-- the table of the entries after those that are left
abbrev pub invariant-loop-left : goal.invariant-loop-left
invariant-loop-left l = record {
  within : length l.left ≤ length l.listed;
  left : l.left ≡ take (length l.left) l.listed;
  table : IsTable l.table (drop (length l.left) l.listed);
}

abbrev pub decreases-loop-left : goal.decreases-loop-left
decreases-loop-left l = length l.left
