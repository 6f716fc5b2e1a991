-- Whether listed names stand for balancers and status workers that are there.
use Rattle.std.specs.Prelude.{ℕ, Bool, List, [], ◌∷◌, Option, Some, None, if◌then◌else◌, nat_lt}
use Rattle.std.specs.Str.{bytes_eq}
use Rattle.std.specs.List.{list_all}
use Rattle.site_config.specs.declared.config.Named.{Named}
use Rattle.site_config.specs.declared.config.Named.TheVariants as named

abbrev pub is_place : ℕ → ℕ → Named → Bool
is_place lbs statuses (named.Balancer i) = nat_lt i lbs
is_place lbs statuses (named.Status i) = nat_lt i statuses

abbrev pub are_places : ℕ → ℕ → List (List ℕ × Named) → Bool
are_places lbs statuses listed = list_all (λ entry. is_place lbs statuses entry.1) listed

-- what the first entry of this name stands for
abbrev pub named_among : List ℕ → List (List ℕ × Named) → Option Named
named_among name [] = None
named_among name (entry ∷ listed) = if bytes_eq entry.0 name then Some entry.1 else named_among name listed
