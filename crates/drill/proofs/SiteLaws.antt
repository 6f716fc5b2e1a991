-- The drill's site is in range, and its map is read.
use Rattle.std.proofs.Common.{◌≡◌, ℕ, zero, suc, ◌<◌, ◌≤◌, List, slice_get, Some, refl, subst, arith}
use Rattle.lb_model.specs.Multiple.{divisor_by, multiple_of, multiple_of_two}
use Rattle.lb_model.specs.Ranges.{IsInRange, IsPeriod, IsRefusedConfig, factors_in}
use Rattle.lb_model.specs.declared.config_error.ConfigError.{ConfigError}
use Rattle.lb_model.specs.declared.config_error.ConfigError.TheVariants as Refusal
use Rattle.lb_model.specs.declared.member.MemberConfig.{MemberConfig}
use Rattle.drill.specs.Sites.{member_of, two_members}

-- the common multiple of 1 and 2
multiple-two : multiple_of (factors_in two_members) ≡ 2
unfolding multiple_of_two divisor_by
multiple-two = refl

in_range : (name : List ℕ) (factor i : ℕ) → 1 ≤ factor → factor ≤ 65535 → IsInRange 2 i (member_of name factor)
in_range name factor i above below = record {
  factor_above = above;
  factor_below = below;
  distance_below = omega arith;
  pool_above = omega arith;
  pool_below = omega arith;
  redirect = refl;
}

minute : IsPeriod 60
minute = record { above = omega arith; below = omega arith }

-- the drill's balancer is refused for nothing
pub not_refused : (ms : List MemberConfig) (e : ConfigError) → ms ≡ two_members → IsRefusedConfig 60 60 ms e → ⊥
not_refused ms e same refused = of e (subst (λ (l : List MemberConfig). IsRefusedConfig 60 60 l e) same refused)
  where
    of : (e : ConfigError) → IsRefusedConfig 60 60 two_members e → ⊥
    of Refusal.NoMembers r = omega (arith, r)
    of Refusal.TooMany r = omega (arith, r)
    of (Refusal.BadMember index) (count, first) = bad index first.within first.bad
      where
        bad : (index : ℕ) → index < 2 → ((m : MemberConfig) → slice_get two_members index ≡ Some m → IsInRange 2 index m → ⊥) → ⊥
        bad zero lt none = none _ refl (in_range _ 1 0 (omega arith) (omega arith))
        bad (suc zero) lt none = none _ refl (in_range _ 2 1 (omega arith) (omega arith))
        bad (suc (suc index)) lt none = omega (arith, lt)
    of Refusal.BadTime (count, ranges, none) = none (minute, minute)
    of Refusal.TooWide (count, ranges, m, n, wide) = let two = multiple-two in omega (arith, wide, two)
