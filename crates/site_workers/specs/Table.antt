-- Names with their numbers.
use Rattle.std.specs.Prelude.{◌≡◌, ℕ, List, [], ◌∷◌, Option, Some, None, if◌then◌else◌, ◌++◌}
use Rattle.std.specs.Option.{is_some}
use Rattle.site_config.specs.declared.property.Property.{Property}
use Rattle.site_workers.specs.Given.{is_given}
use Rattle.site_workers.specs.Numbers.{number_of}

-- one name more, unless it is there
abbrev pub with_name : List ℕ → List (List ℕ) → List (List ℕ)
with_name name names = if is_some (number_of name names) then names else names ++ name ∷ []

-- the names after a line
abbrev pub names_with : Option (List ℕ × List ℕ) → List (List ℕ) → List (List ℕ)
names_with None names = names
names_with (Some parts) names = with_name parts.0 names

-- the names are those of the workers that have a directive
abbrev pub IsNameOfGiven : List Property → List (List ℕ) → Type 0
IsNameOfGiven ps names = (name : List ℕ) → is_some (number_of name names) ≡ is_given ps name
