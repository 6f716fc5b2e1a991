-- The ranges of a balancer's values, and the refusals of a configuration that isn't within them.
use Rattle.std.specs.Prelude.{◌≡◌, ℕ, ◌<◌, ◌≤◌, ◌^◌, ◌==◌, ◌&&◌, nat_lt, not, Bool, true, List, length, map, Option, Some, None, slice_get}
use Rattle.lb_model.specs.Limits.{most_members, most_seconds}
use Rattle.lb_model.specs.Multiple.{multiple_of}
use Rattle.lb_model.specs.declared.member.MemberConfig.{MemberConfig}
use Rattle.lb_model.specs.declared.config_error.ConfigError.{ConfigError}
use Rattle.lb_model.specs.declared.config_error.ConfigError.TheVariants as Refusal

-- A redirect of member i of n leads to another member.
abbrev pub redirects_within : (n i : ℕ) → Option ℕ → Bool
redirects_within n i None = true
redirects_within n i (Some t) = nat_lt t n && not (t == i)

-- Member i of n: factor, distance and pool size in their ranges, and no redirect but to another member.
pub record IsInRange (n i : ℕ) (m : MemberConfig) : Type 0 where
  pub factor_above : 1 ≤ m.factor
  pub factor_below : m.factor ≤ 65535
  pub distance_below : m.distance ≤ 65535
  pub pool_above : 1 ≤ m.pool
  pub pool_below : m.pool ≤ 1024
  pub redirect : redirects_within n i m.redirect ≡ true

-- Each member of the list.
pub record AreInRange (ms : List MemberConfig) : Type 0 where
  pub at : (i : ℕ) (m : MemberConfig) → slice_get ms i ≡ Some m → IsInRange (length ms) i m

-- The members' factors, in their order.
abbrev pub factors_in : List MemberConfig → List ℕ
factors_in ms = map (λ m. m.factor) ms

-- 1 to 64 members.
pub record IsCount (n : ℕ) : Type 0 where
  pub some : 1 ≤ n
  pub few : n ≤ most_members

-- Seconds of a period, up to a day.
pub record IsPeriod (seconds : ℕ) : Type 0 where
  pub above : 1 ≤ seconds
  pub below : seconds ≤ most_seconds

-- Member i is the first one with a value out of its range.
pub record IsFirstBadMember (ms : List MemberConfig) (i : ℕ) : Type 0 where
  pub within : i < length ms
  pub bad : (m : MemberConfig) → slice_get ms i ≡ Some m → ¬ IsInRange (length ms) i m
  pub first : (j : ℕ) (m : MemberConfig) → j < i → slice_get ms j ≡ Some m → IsInRange (length ms) j m

-- When a configuration is refused, each refusal after those before it.
abbrev pub IsRefusedConfig : (maintain recover : ℕ) → List MemberConfig → ConfigError → Type 0
IsRefusedConfig maintain recover ms Refusal.NoMembers = length ms ≡ 0
IsRefusedConfig maintain recover ms Refusal.TooMany = most_members < length ms
IsRefusedConfig maintain recover ms (Refusal.BadMember index) = IsCount (length ms) × IsFirstBadMember ms index
IsRefusedConfig maintain recover ms Refusal.BadTime =
    IsCount (length ms) × AreInRange ms × ¬ (IsPeriod maintain × IsPeriod recover)
IsRefusedConfig maintain recover ms Refusal.TooWide =
    IsCount (length ms) × AreInRange ms × IsPeriod maintain × IsPeriod recover × (2 ^ 32 ≤ multiple_of (factors_in ms))
