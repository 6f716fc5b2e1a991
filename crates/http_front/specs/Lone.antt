-- The values of a name that may stand once.
use Rattle.std.specs.Prelude.{ℕ, ◌≡◌, ◌≤◌, List, [], ◌∷◌, length}
use Rattle.http_front.specs.declared.fields.Lone.{Lone}
use Rattle.http_front.specs.declared.fields.Lone.TheVariants.{Absent, One, More}

-- none, one, or more
abbrev pub IsLone : List (List ℕ) → Lone → Type 0
IsLone values Absent = values ≡ []
IsLone values (One value) = values ≡ value.now ∷ []
IsLone values More = 2 ≤ length values
