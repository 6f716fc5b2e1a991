use Rattle.std.proofs.Common.{◌≡◌, drop}
use Rattle.http_front.specs.Path.{has_good_bytes}
use Rattle.http_front.proofs.path.has_good_bytes.Given as goal

abbrev pub invariant-loop-at : goal.invariant-loop-at
invariant-loop-at l = has_good_bytes (drop l.at l.path) ≡ has_good_bytes l.path
