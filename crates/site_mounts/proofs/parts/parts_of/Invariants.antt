use Rattle.std.proofs.Common.{◌≡◌, ◌++◌, length}
use Rattle.std.specs.Option.{option_map}
use Rattle.site_mounts.specs.PartViews.{as_parts}
use Rattle.site_mounts.specs.Parts.{parts_of, pieces_of}
use Rattle.site_mounts.proofs.parts.parts_of.Given as goal

-- the parts so far, in front of those that the rest gives
abbrev pub invariant-loop-piece : goal.invariant-loop-piece
invariant-loop-piece l = option_map (λ more. as_parts l.parts.items ++ more) (parts_of (pieces_of l.rest)) ≡ parts_of (pieces_of l.text)

abbrev pub decreases-loop-piece : goal.decreases-loop-piece
decreases-loop-piece l = length l.rest
