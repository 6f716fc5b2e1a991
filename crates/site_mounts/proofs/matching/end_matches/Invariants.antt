use Rattle.std.proofs.Common.{◌≡◌, length}
use Rattle.site_mounts.specs.Patterns.{some_end, matches}
use Rattle.site_mounts.proofs.matching.end_matches.Given as goal

-- what is left of the pattern decides at what is left of the path
abbrev pub invariant-loop-piece : goal.invariant-loop-piece
invariant-loop-piece l = some_end (matches l.pattern) l.path ≡ some_end (matches l.initial.pattern) l.initial.path

abbrev pub decreases-loop-piece : goal.decreases-loop-piece
decreases-loop-piece l = length l.pattern
