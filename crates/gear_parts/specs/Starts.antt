-- How a run of gears begins.
use Rattle.std.specs.Prelude.{ℕ, ◌≡◌, List, [], ◌∷◌}
use Rattle.jk_io.specs.Answers.{Answers}
use Rattle.gear_parts.specs.Gears.{GearSide}

-- The first gear's clock gave the moment at which the balancers start, and nothing else was done.
abbrev pub AreStarted : {C S O : Type 0} → (before after : List (GearSide C S O)) → Type 0
AreStarted [] after = after ≡ []
AreStarted (first ∷ rest) [] = ⊥
AreStarted (first ∷ rest) (first' ∷ rest') =
    (now : ℕ) × Answers first.clock now first'.clock × (first' ≡ record first { clock = first'.clock }) × (rest' ≡ rest)

-- The first gear's clock gave this moment.
abbrev pub GivesFirst : {C S O : Type 0} → (now : ℕ) → (before after : List (GearSide C S O)) → Type 0
GivesFirst now (first ∷ rest) (first' ∷ rest') = Answers first.clock now first'.clock
GivesFirst now before after = ⊥
