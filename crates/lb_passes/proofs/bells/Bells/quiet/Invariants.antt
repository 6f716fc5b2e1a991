-- A bell was made in each round.
use Rattle.std.proofs.Common.{◌≡◌, vec_len}
use Rattle.lb_passes.proofs.bells.Bells.quiet.Given as goal

abbrev pub invariant-loop : goal.invariant-loop
invariant-loop l = vec_len l.bells ≡ l.counter
