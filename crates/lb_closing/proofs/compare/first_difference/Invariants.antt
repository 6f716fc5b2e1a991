-- The lists are the same so far.
use Rattle.std.proofs.Common.{◌≡◌, take}
use Rattle.lb_closing.proofs.compare.first_difference.Given as goal

abbrev pub invariant-loop-place : goal.invariant-loop-place
invariant-loop-place g l = take l.place l.receipts ≡ take l.place l.kept
