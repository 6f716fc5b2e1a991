-- The test for a header's name decides it.
use Rattle.std.proofs.Common.{◌≡◌, ℕ, false, List, length, refl, inl, inr, nat_le}
use Rattle.std.proofs.lemmas.Bool.{cases_Bool, lt-ltb}
use Rattle.std.proofs.lemmas.List.Sums.{list_all-from_AllPass}
use Rattle.http_header.specs.Token.{token_test, is_token_byte, IsToken}
use Rattle.http_header.specs.FieldName.{is_field_name, IsFieldName}
use Rattle.http_header.proofs.TokenLemmas.{IsFieldName-from_test}

-- a token is a name where it isn't too long
pub is_field_name-token : (name : List ℕ) → IsToken name → is_field_name name ≡ nat_le (length name) 65535
unfolding is_token_byte
is_field_name-token name h = rw (lt-ltb 0 (length name) h.0, list_all-from_AllPass token_test name h.1) refl

pub is_field_name-false : (name : List ℕ) → ¬ (IsFieldName name) → is_field_name name ≡ false
is_field_name-false name h =
    elim (cases_Bool (is_field_name name)) as (λ _. is_field_name name ≡ false)
    [ inl is ↦ absurd (h (IsFieldName-from_test name is)) | inr isnt ↦ isnt ]
