-- The smallest configuration, and that its values are in their ranges.
use Rattle.std.proofs.Common.{◌≡◌, ℕ, zero, suc, ◌^◌, ◌<◌, ◌≤◌, List, [], ◌∷◌, length, None, Some, refl, sym, subst, arith}
use Rattle.std.specs.Prelude.{slice_get}
use Rattle.lb_model.specs.Multiple.{divisor_by, multiple_of, multiple_of_two}
use Rattle.lb_model.specs.Ranges.{AreInRange, IsCount, IsInRange, IsPeriod, factors_in}
use Rattle.lb_model.specs.declared.member.Activation.TheVariants as activation
use Rattle.lb_model.specs.declared.member.MemberConfig.{MemberConfig}

abbrev pub some_member : MemberConfig
some_member = record { name = []; route = []; factor = 1; distance = 0; activation = activation.Active; redirect = None; pool = 1 }

pub one_counts : IsCount 1
one_counts = record { some = omega arith; few = omega arith }

pub one_period : IsPeriod 1
one_period = record { above = omega arith; below = omega arith }

pub one_in_range : AreInRange (some_member ∷ [])
one_in_range = record { at = in_range }
  where
    in_range : (i : ℕ) (m : MemberConfig) → slice_get (some_member ∷ []) i ≡ Some m → IsInRange 1 i m
    in_range zero m is =
        let same : some_member ≡ m = cc in
        subst (λ (x : MemberConfig). IsInRange 1 0 x) same
        (record { factor_above = omega arith; factor_below = omega arith; distance_below = omega arith; pool_above = omega arith; pool_below = omega arith; redirect = refl })
    in_range (suc i) m is = absurd cc

pub one_narrow : multiple_of (factors_in (some_member ∷ [])) < 2 ^ 32
unfolding multiple_of_two divisor_by
one_narrow = omega arith
