use Rattle.std.proofs.Common.{◌≡◌, length}
use Rattle.site_mounts.specs.Pieces.{first_behind}
use Rattle.site_mounts.proofs.matching.first_behind.Given as goal

-- the piece is first found in what is left of the path
abbrev pub invariant-loop-found : goal.invariant-loop-found
invariant-loop-found l = first_behind l.piece l.rest ≡ first_behind l.piece l.path

abbrev pub decreases-loop-found : goal.decreases-loop-found
decreases-loop-found l = length l.rest
