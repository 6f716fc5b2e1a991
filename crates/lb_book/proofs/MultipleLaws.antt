-- The answer of lcm_of among common multiples: the least of them, or none below 2^32.
use Rattle.std.proofs.Common.{◌≡◌, ◌≤◌, ◌<◌, ◌^◌, ℕ, List, All, Option, Some, None, arith, refl, subst, sym}
use Rattle.std.specs.Int.{◌∣◌}
use Rattle.std.specs.Option.{IfSome, IsNone, SomeIff}
use Rattle.std.specs.Prelude.{◌↔◌}
use Rattle.std.proofs.lemmas.Nat.Gcd.{le_of_dvd}
use Rattle.lb_model.specs.Multiple.{multiple_of}
use Rattle.lb_model.proofs.MultipleFacts.{le-fold, multiple_of-each, multiple_of-least}
use Rattle.lb_book.specs.Multiples.{IsCommon, IsLeastCommon}

least_of_all : (fs : List ℕ) → All (λ f. 0 < f) fs → IsLeastCommon fs (multiple_of fs)
least_of_all fs above = record {
  common = record { above = let some : 1 ≤ multiple_of fs = le-fold 1 fs above in omega arith; divided = multiple_of-each fs };
  least = λ n is. le_of_dvd is.above (multiple_of-least n fs above is.divided);
}

pub some_is_least : (r : Option ℕ) (fs : List ℕ) → All (λ f. 0 < f) fs → SomeIff r (multiple_of fs < 2 ^ 32) (multiple_of fs) → IfSome r (IsLeastCommon fs)
some_is_least None fs above value = tt
some_is_least (Some l) fs above value = subst (IsLeastCommon fs) (sym value.1) (least_of_all fs above)

pub none_among : (r : Option ℕ) (fs : List ℕ) → All (λ f. 0 < f) fs → SomeIff r (multiple_of fs < 2 ^ 32) (multiple_of fs)
    → IsNone r ↔ ((n : ℕ) → IsCommon fs n → 2 ^ 32 ≤ n)
none_among None fs above value = (
  (λ is n common.
      let below : multiple_of fs ≤ n = (least_of_all fs above).least n common in
      omega (arith, value)),
  (λ every. refl),
)
none_among (Some l) fs above value = (
  (λ is. absurd cc),
  (λ every.
      let wide : 2 ^ 32 ≤ multiple_of fs = every (multiple_of fs) (least_of_all fs above).common in
      let narrow : multiple_of fs < 2 ^ 32 = value.0 in
      absurd (omega arith)),
)
