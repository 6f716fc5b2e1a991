use Rattle.std.proofs.Common.{◌≡◌, ◌++◌, length}
use Rattle.std.specs.List.{All, flat_map}
use Rattle.request_log.specs.Formats.{IsUsable, spelling}
use Rattle.request_log.proofs.format.read_format.Given as goal

-- the parts so far spell what was passed
abbrev pub invariant-loop-part : goal.invariant-loop-part
invariant-loop-part l = (l.text ≡ flat_map spelling l.parts ++ l.rest) × All IsUsable l.parts

abbrev pub decreases-loop-part : goal.decreases-loop-part
decreases-loop-part l = length l.rest
