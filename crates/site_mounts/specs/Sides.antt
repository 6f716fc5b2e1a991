-- The left side of a rule: its marks, and the patterns.
use Rattle.std.specs.Prelude.{ℕ, Bool, true, false, List, [], ◌∷◌, ◌++◌, Option, Some, None, is_some, if◌then◌else◌, ◌==◌}
use Rattle.std.specs.Option.{option_map, option_map_or}
use Rattle.site_config.specs.Cut.{cut_at}
use Rattle.site_mounts.specs.declared.side.Side.{Side}
use Rattle.site_mounts.specs.declared.side.Patterns.{Patterns}

-- `!` makes an exclusion, `-` turns the rule off
pub record Left : Type 0 where
  pub exclusion : Bool
  pub off : Bool
  pub pattern : List ℕ

abbrev pub left : Bool → Bool → List ℕ → Left
left exclusion off pattern = record { exclusion = exclusion; off = off; pattern = pattern }

-- what follows a byte with which the text begins
abbrev pub behind_byte : ℕ → List ℕ → Option (List ℕ)
behind_byte byte [] = None
behind_byte byte (b ∷ bs) = if b == byte then Some bs else None

-- after a mark the other one may stand
abbrev pub behind_exclusion : List ℕ → Left
behind_exclusion text = option_map_or (left true true) (behind_byte 45 text) (left true false text)

abbrev pub behind_off : List ℕ → Left
behind_off text = option_map_or (left true true) (behind_byte 33 text) (left false true text)

abbrev pub left_of : List ℕ → Left
left_of text =
    option_map_or behind_exclusion (behind_byte 33 text) (option_map_or behind_off (behind_byte 45 text) (left false false text))

-- `P|S` means P, and P with S after it
abbrev pub two_patterns : List ℕ → Option (List ℕ) → List (List ℕ)
two_patterns first None = first ∷ []
two_patterns first (Some more) = first ∷ (first ++ more) ∷ []

abbrev pub split_patterns : List ℕ → Option (List ℕ × List ℕ) → Option (List (List ℕ))
split_patterns text None = Some (two_patterns text None)
split_patterns text (Some sides) = if is_some (cut_at 124 sides.1) then None else Some (two_patterns sides.0 (Some sides.1))

-- the patterns of a text; none where it doesn't begin with `/`, or has more than one `|`
abbrev pub patterns_of : List ℕ → Option (List (List ℕ))
patterns_of text = if is_some (behind_byte 47 text) then split_patterns text (cut_at 124 text) else None

abbrev pub as_left : Side → Left
as_left s = left s.exclusion s.off s.pattern.now

abbrev pub as_patterns : Patterns → List (List ℕ)
as_patterns p = two_patterns p.first.now (option_map (λ m. m.now) p.more)
