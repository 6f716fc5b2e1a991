-- Pieces of a pattern, which have no `*`, found in a path from the left.
use Rattle.std.specs.Prelude.{ℕ, List, [], ◌∷◌, Option, Some, None, if◌then◌else◌}
use Rattle.std.specs.Option.{option_or}
use Rattle.site_mounts.specs.Patterns.{stands_for}

-- what follows a piece with which the path begins
abbrev pub behind : List ℕ → List ℕ → Option (List ℕ)
behind [] path = Some path
behind (c ∷ cs) [] = None
behind (c ∷ cs) (b ∷ bs) = if stands_for c b then behind cs bs else None

-- what follows the first place where the piece stands
abbrev pub first_behind : List ℕ → List ℕ → Option (List ℕ)
first_behind piece [] = behind piece []
first_behind piece (b ∷ bs) = option_or (behind piece (b ∷ bs)) (first_behind piece bs)
