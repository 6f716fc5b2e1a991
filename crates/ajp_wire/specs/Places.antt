-- Integers and strings at a place of a list of bytes, as they are taken from there.
use Rattle.std.specs.Prelude.{◌≡◌, ◌≢◌, ℕ, ◌+◌, ◌<◌, ◌≤◌, ◌⊎◌, List, ◌∷◌, ◌++◌, length, take, drop, Option, Some, None}
use Rattle.ajp_wire.specs.Spelling.{int, string, absent}
use Rattle.ajp_wire.specs.declared.errors.FieldError.{FieldError}
use Rattle.ajp_wire.specs.declared.errors.FieldError.TheVariants.{Short, BadMark}

-- An integer stands at a place, and `next` is the place after it.
pub record IsIntAt (bytes : List ℕ) (at n next : ℕ) : Type 0 where
  pub spelled : drop at bytes ≡ int n ++ drop next bytes
  pub behind : next ≡ at + 2
  pub inside : next ≤ length bytes

-- A string of `size` bytes stands at a place, and its text from `text_at` on.
pub record IsTextAt (bytes : List ℕ) (at text_at size next : ℕ) : Type 0 where
  pub spelled : drop at bytes ≡ string (take size (drop text_at bytes)) ++ drop next bytes
  pub text_behind : text_at ≡ at + 2
  pub behind : next ≡ text_at + size + 1
  pub narrow : size < 65535
  pub inside : next ≤ length bytes

pub record IsAbsentAt (bytes : List ℕ) (at next : ℕ) : Type 0 where
  pub spelled : drop at bytes ≡ absent ++ drop next bytes
  pub behind : next ≡ at + 2
  pub inside : next ≤ length bytes

-- A string at a place, by the place and the length of its text, or an absent one.
abbrev pub IsStringAt : List ℕ → ℕ → Option (ℕ × ℕ) → ℕ → Type 0
IsStringAt bytes at (Some text) next = IsTextAt bytes at text.0 text.1 next
IsStringAt bytes at None next = IsAbsentAt bytes at next

-- The bytes end within a string: within its length, or after a length with no room for as many bytes and the zero byte.
abbrev pub EndsWithinString : List ℕ → Type 0
EndsWithinString bytes =
    (length bytes < 2) ⊎ ((size : ℕ) × (behind : List ℕ) × (size < 65535) × (bytes ≡ int size ++ behind) × (length behind ≤ size))

-- A string at a place, but for another byte than zero after it, at `mark`.
pub record HasBadMark (bytes : List ℕ) (at mark : ℕ) : Type 0 where
  pub text : List ℕ
  pub other : ℕ
  pub rest : List ℕ
  pub spelled : drop at bytes ≡ int (length text) ++ (text ++ other ∷ rest)
  pub not_zero : other ≢ 0
  pub place : mark ≡ at + 2 + length text

-- Why no string stands at a place, and the first place that cannot be read.
abbrev pub RefusesString : List ℕ → ℕ → FieldError → Type 0
RefusesString bytes at (Short place) = (place ≡ length bytes) × EndsWithinString (drop at bytes)
RefusesString bytes at (BadMark place) = HasBadMark bytes at place
