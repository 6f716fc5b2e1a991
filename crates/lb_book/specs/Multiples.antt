-- The least common multiple by the divisors alone.
use Rattle.std.specs.Prelude.{ℕ, ◌<◌, ◌≤◌, List, All}
use Rattle.std.specs.Int.{◌∣◌}

-- each factor divides the number, which is above 0
pub record IsCommon (factors : List ℕ) (n : ℕ) : Type 0 where
  pub above : 0 < n
  pub divided : All (λ f. f ∣ n) factors

-- no common multiple is smaller
pub record IsLeastCommon (factors : List ℕ) (n : ℕ) : Type 0 where
  pub common : IsCommon factors n
  pub least : (other : ℕ) → IsCommon factors other → n ≤ other
