use Rattle.std.proofs.Common.{◌≡◌, length}
use Rattle.jk_cli.specs.Parts.{places_in}
use Rattle.jk_cli.proofs.places.Places.next.Given as goal

-- the parts that are left have the same places
abbrev pub invariant-loop-part : goal.invariant-loop-part
invariant-loop-part l = places_in l.self-inside.parts ≡ places_in l.initial.self-inside.parts

abbrev pub decreases-loop-part : goal.decreases-loop-part
decreases-loop-part l = length l.self-inside.parts
