use Rattle.std.proofs.Common.{◌≡◌, [], length}
use Rattle.std.specs.List.{slice_get}
use Rattle.std.specs.Option.{unwrap_or}
use Rattle.site_config.specs.Lines.{lines}
use Rattle.remarks.specs.Explained.{line_at}
use Rattle.remarks.proofs.explain.line_at.Given as goal

-- the line is among those that are left
abbrev pub invariant-loop-found : goal.invariant-loop-found
invariant-loop-found l = unwrap_or (slice_get (lines l.rest) l.left) [] ≡ line_at l.text l.line

abbrev pub decreases-loop-found : goal.decreases-loop-found
decreases-loop-found l = length l.rest
