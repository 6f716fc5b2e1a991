-- Where a client's head ends: with the first empty line after one that isn't. A line ends with LF, or CR LF.
use Rattle.std.specs.Prelude.{◌≡◌, ◌≢◌, ℕ, ◌+◌, ◌-◌, ◌<◌, ◌⊎◌, List, length, slice_index}
use Rattle.std.specs.List.{between}

-- a byte of a line, and none of its end
abbrev pub IsText : List ℕ → ℕ → Type 0
IsText bytes at = (at < length bytes) × (slice_index bytes at ≢ 10) × (slice_index bytes at ≢ 13)

-- an empty line of so many bytes stands at this place: LF, or CR LF
abbrev pub IsEmptyLine : List ℕ → ℕ → ℕ → Type 0
IsEmptyLine bytes at len = ((len ≡ 1) × (at < length bytes) × (slice_index bytes at ≡ 10))
    ⊎ ((len ≡ 2) × (at + 1 < length bytes) × (slice_index bytes at ≡ 13) × (slice_index bytes (at + 1) ≡ 10))

-- a line ends at this place, and an empty one of so many bytes follows
abbrev pub IsEndAt : List ℕ → ℕ → ℕ → Type 0
IsEndAt bytes at len = (at < length bytes) × (slice_index bytes at ≡ 10) × IsEmptyLine bytes (at + 1) len

-- a head is whole with the first n bytes: after some text a line ends, and an empty one follows
pub record EndsHead (bytes : List ℕ) (n : ℕ) : Type 0 where
  pub text : ℕ
  pub at : ℕ
  pub len : ℕ
  pub is_text : IsText bytes text
  pub is_before : text < at
  pub line : IsEndAt bytes at len
  pub count : n ≡ at + 1 + len

-- so many bytes are fewer than a head may have
abbrev pub IsShortHead : ℕ → Type 0
IsShortHead count = count < 16384

-- what was read ahead from a place to another has no whole head, and fewer bytes than a head may have
pub record LacksHead (from to : ℕ) (ahead : List ℕ) : Type 0 where
  pub none : (n : ℕ) → EndsHead (between from to ahead) n → ⊥
  pub short : IsShortHead (to - from)
