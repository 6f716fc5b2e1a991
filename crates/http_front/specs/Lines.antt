-- Lines, as a standard speaks of them: a head is lines that aren't empty, and an empty one.
use Rattle.std.specs.Prelude.{ℕ, ◌≡◌, ◌≢◌, ◌⊎◌, ◌==◌, false, List, [], ◌∷◌, ◌++◌}
use Rattle.std.specs.List.{flat_map, list_any}
use Rattle.http_front.specs.Ascii.{line_feed, carriage_return}

-- an empty line: LF, or CR LF
abbrev pub IsEmptyLine : List ℕ → Type 0
IsEmptyLine line = (line ≡ line_feed ∷ []) ⊎ (line ≡ carriage_return ∷ line_feed ∷ [])

-- what a line that isn't empty has before its LF: no LF, and neither nothing nor a CR alone
pub record IsFullLine (text : List ℕ) : Type 0 where
  pub within : list_any (λ b. b == line_feed) text ≡ false
  pub some : text ≢ []
  pub more : text ≢ carriage_return ∷ []

-- each of the lines is one
abbrev pub AreFullLines : List (List ℕ) → Type 0
AreFullLines [] = Unit {0}
AreFullLines (line ∷ lines) = IsFullLine line × AreFullLines lines

-- the lines, each with its LF
abbrev pub ended : List (List ℕ) → List ℕ
ended lines = flat_map (λ text. text ++ line_feed ∷ []) lines
