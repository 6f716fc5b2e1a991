-- Where a payload is refused: at the first place from the left that can't be read. `Whole` says which lists of bytes are
-- payloads that can.
use Rattle.std.specs.Prelude.{◌≡◌, ℕ, ◌<◌, ◌≤◌, List, ◌++◌, length}
use Rattle.ajp_wire.specs.declared.errors.DecodeError.{DecodeError}
use Rattle.ajp_wire.specs.declared.errors.DecodeError.TheVariants.{Short, BadCode, BadMark, BadBoolean, Extra, TooMany, Absent, NoMemory}

-- Some payload begins with these bytes.
abbrev pub Begins : (List ℕ → Type 0) → List ℕ → Type 0
Begins Whole bytes = (more : List ℕ) × Whole (bytes ++ more)

-- The bytes before the place begin a payload. With the byte at the place, or the integer there, they begin none.
pub record IsFirstBad (Whole : List ℕ → Type 0) (payload : List ℕ) (at : ℕ) : Type 0 where
  pub front : List ℕ
  pub there : List ℕ
  pub behind : List ℕ
  pub parts : payload ≡ front ++ (there ++ behind)
  pub place : at ≡ length front
  pub some : 0 < length there
  pub few : length there ≤ 2
  pub begins : Begins Whole front
  pub bad : Begins Whole (front ++ there) → ⊥

-- The payload ends within what it begins, perhaps after the first byte of an integer. The place is its end.
pub record EndsWithin (Whole : List ℕ → Type 0) (payload : List ℕ) (at : ℕ) : Type 0 where
  pub front : List ℕ
  pub half : List ℕ
  pub parts : payload ≡ front ++ half
  pub place : at ≡ length payload
  pub few : length half ≤ 1
  pub begins : Begins Whole front

-- Why a payload is refused, by the answer.
abbrev pub IsRefused : (List ℕ → Type 0) → List ℕ → DecodeError → Type 0
IsRefused Whole payload (Short at) = EndsWithin Whole payload at
IsRefused Whole payload (BadCode at) = IsFirstBad Whole payload at
IsRefused Whole payload (BadMark at) = IsFirstBad Whole payload at
IsRefused Whole payload (BadBoolean at) = IsFirstBad Whole payload at
IsRefused Whole payload (Extra at) = IsFirstBad Whole payload at
IsRefused Whole payload (TooMany at) = IsFirstBad Whole payload at
IsRefused Whole payload (Absent at) = IsFirstBad Whole payload at
IsRefused Whole payload NoMemory = Unit {0}
