-- Searches in a request, one place at a time: found where the item stands, else gone on after it.
use Rattle.std.proofs.Common.{◌≡◌, ℕ, ◌+◌, ◌<◌, true, false, List, length, drop, get_or, Some, refl, ◌∙◌, add-one, drop-cons}
use Rattle.std.specs.Prelude.{◌||◌, nat_eq, if◌then◌else◌}
use Rattle.std.specs.List.{starts_with}
use Rattle.std.specs.Str.{str_eq_ignore_ascii_case}
use Rattle.ajp_request.specs.declared.attribute.Attribute.{Attribute}
use Rattle.ajp_container.specs.Request.{secret_of, first_of, secret_in, value_named, has_text}

pub has_text-step : (text bytes : List ℕ) (at : ℕ) → at < length bytes
    → has_text text (drop at bytes) ≡ (starts_with nat_eq (drop at bytes) text || has_text text (drop (at + 1) bytes))
has_text-step text bytes at h = rw (add-one, drop-cons bytes at 0 h) refl

pub value_named-step : (name : List ℕ) (headers : List (List ℕ × List ℕ)) (at : ℕ) (d : List ℕ × List ℕ) → at < length headers
    → value_named name (drop at headers)
    ≡ (if str_eq_ignore_ascii_case (get_or headers at d).0 name then Some (get_or headers at d).1 else value_named name (drop (at + 1) headers))
value_named-step name headers at d h = rw (add-one, drop-cons headers at d h) refl

pub secret_in-step : (attributes : List Attribute) (at : ℕ) (d : Attribute) → at < length attributes
    → secret_in (drop at attributes) ≡ first_of (secret_of (get_or attributes at d)) (secret_in (drop (at + 1) attributes))
secret_in-step attributes at d h = rw (add-one, drop-cons attributes at d h) refl

-- the header at a place has the name
pub value_named-found : (name : List ℕ) (headers : List (List ℕ × List ℕ)) (at : ℕ) (header : List ℕ × List ℕ) → at < length headers
    → header ≡ get_or headers at header → str_eq_ignore_ascii_case header.0 name ≡ true → value_named name (drop at headers) ≡ Some header.1
value_named-found name headers at header h is same = value_named-step name headers at header h ∙ rw (← is, same) refl

-- the header at a place has another
pub value_named-next : (name : List ℕ) (headers : List (List ℕ × List ℕ)) (at : ℕ) (header : List ℕ × List ℕ) → at < length headers
    → header ≡ get_or headers at header → str_eq_ignore_ascii_case header.0 name ≡ false
    → value_named name (drop at headers) ≡ value_named name (drop (at + 1) headers)
value_named-next name headers at header h is other = value_named-step name headers at header h ∙ rw (← is, other) refl

-- the text doesn't stand right here
pub has_text-next : (text bytes : List ℕ) (at : ℕ) → at < length bytes → starts_with nat_eq (drop at bytes) text ≡ false
    → has_text text (drop at bytes) ≡ has_text text (drop (at + 1) bytes)
has_text-next text bytes at h other = has_text-step text bytes at h ∙ rw other refl
