-- Where the first element stands that passes a test.
use Rattle.std.proofs.Common.{◌≡◌, ℕ, ◌<◌, Bool, true, false, List, length, Option, Some, None, inl, inr, refl}
use Rattle.std.specs.Prelude.{position, nat_lt}
use Rattle.std.specs.List.{position_or_len}
use Rattle.std.proofs.lemmas.Bool.{cases_Bool, ltb-true}

-- it stands within the list
pub position-within : {X : Type 0} (p : X → Bool) (xs : List X) (i : ℕ) → position p xs ≡ Some i → i < length xs
position-within p xs i e =
    elim (cases_Bool (nat_lt (position_or_len p xs) (length xs))) as (λ _. i < length xs) [
      | inl within ↦
          let same : Some (position_or_len p xs) ≡ Some i = rw within at e in
          let place : position_or_len p xs ≡ i = cc in
          rw (← place) (ltb-true _ _ within)
      | inr behind ↦
          let none : None ≡ Some i = rw behind at e in
          absurd (cc)
    ]
