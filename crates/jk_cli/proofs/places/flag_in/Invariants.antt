use Rattle.std.proofs.Common.{◌≡◌, ◌+◌, if◌then◌else◌, length}
use Rattle.jk_cli.specs.Parts.{flags_in, parts_of}
use Rattle.jk_cli.proofs.places.flag_in.Given as goal

-- the flags of all parts are the one that was found, and those that are left
abbrev pub invariant-loop-part : goal.invariant-loop-part
invariant-loop-part l = flags_in (parts_of l.fn.words) ≡ (if l.found then 1 else 0) + flags_in l.parts

abbrev pub decreases-loop-part : goal.decreases-loop-part
decreases-loop-part l = length l.parts
