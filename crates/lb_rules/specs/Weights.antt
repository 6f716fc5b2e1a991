-- The members by their weights: which of a set of members is the least, and what halvings make of the weights.
use Rattle.std.specs.Prelude.{◌≡◌, ℕ, ◌<◌, Bool, true, false, List, length, map, replicate, Option, None, Some, slice_index_or}
use Rattle.lb_model.specs.Choice.{IsFirstOf, begin_after, is_before_by, place_from}
use Rattle.lb_model.specs.Free.{is_in}
use Rattle.lb_model.specs.Loads.{halved}
use Rattle.lb_rules.specs.declared.weight.Weight.{Weight}

-- n members that are all equally near and have no load.
abbrev pub no_weights : (n : ℕ) → List Weight
no_weights n = replicate n (record { distance = 0; load = 0 })

-- All loads after this many halvings.
abbrev pub weight_halved : (times : ℕ) → Weight → Weight
weight_halved times w = record { distance = w.distance; load = halved w.load times }

abbrev pub weights_halved : (times : ℕ) → List Weight → List Weight
weights_halved times weights = map (weight_halved times) weights

-- Member j goes before member m: the lighter, and of equal ones the earlier in the cyclic order that begins with the
-- member `begin`; d stands where there is no member.
abbrev pub is_lighter : List Weight → Weight → (begin j m : ℕ) → Bool
is_lighter weights d begin j m =
    is_before_by (slice_index_or weights j d).distance (slice_index_or weights j d).load (place_from (length weights) begin j)
    (slice_index_or weights m d).distance (slice_index_or weights m d).load (place_from (length weights) begin m)

-- Member i goes before the best so far, or there is none yet.
abbrev pub lightens : List Weight → Weight → (begin i : ℕ) → Option ℕ → Bool
lightens weights d begin i None = true
lightens weights d begin i (Some b) = is_lighter weights d begin i b

-- Of the first n members, the one of this set that no other of it goes before; none exactly where the set has none.
abbrev pub IsLightest : List Weight → Weight → (set begin n : ℕ) → Option ℕ → Type 0
IsLightest weights d set begin n None = (j : ℕ) → j < n → is_in set j ≡ false
IsLightest weights d set begin n (Some m) = IsFirstOf n (λ j. is_in set j) (λ j k. is_lighter weights d begin j k) m

-- Of all members, where `after` was chosen last.
abbrev pub IsLeastOfSet : List Weight → Weight → (set : ℕ) → (after : Option ℕ) → Option ℕ → Type 0
IsLeastOfSet weights d set after found = IsLightest weights d set (begin_after after) (length weights) found
