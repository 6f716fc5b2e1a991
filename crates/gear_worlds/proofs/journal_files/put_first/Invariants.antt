use Rattle.std.proofs.Common.{◌≡◌, ◌++◌, replicate}
use Rattle.gear_worlds.proofs.journal_files.put_first.Given as goal

-- the zeros so far
abbrev pub invariant-loop-zero : goal.invariant-loop-zero
invariant-loop-zero l = l.path ≡ l.fn.path ++ replicate l._zero 48
