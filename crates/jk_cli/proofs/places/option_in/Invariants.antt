use Rattle.std.proofs.Common.{◌≡◌, ◌∷◌, MatchOption, length}
use Rattle.jk_cli.specs.Parts.{values_in, parts_of}
use Rattle.jk_cli.proofs.places.option_in.Given as goal

-- the values of all parts are the one that was found, and those that are left
abbrev pub invariant-loop-part : goal.invariant-loop-part
invariant-loop-part l =
    MatchOption l.found
    (values_in l.fn.name (parts_of l.fn.words) ≡ values_in l.fn.name l.parts)
    (λ value. values_in l.fn.name (parts_of l.fn.words) ≡ value.now ∷ values_in l.fn.name l.parts)

abbrev pub decreases-loop-part : goal.decreases-loop-part
decreases-loop-part l = length l.parts
