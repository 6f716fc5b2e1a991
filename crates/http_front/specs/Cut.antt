-- Where a head stands in a client's bytes, and how its lines are counted. Own rule, which rests on
-- no parser; empty lines in front and a bare LF are let pass by RFC 9112, section 2.2.
use Rattle.std.specs.Prelude.{ℕ, ◌≡◌, ◌+◌, ◌-◌, ◌==◌, Bool, ◌&&◌, ◌||◌, List, [], ◌∷◌, ◌++◌, length, slice_index, count_by, Option, Some, None, if◌then◌else◌}
use Rattle.std.specs.Option.{option_map}
use Rattle.http_front.specs.Ascii.{line_feed, carriage_return}

-- an empty line stands at the front: LF, or CR LF
abbrev pub begins_empty : List ℕ → Bool
begins_empty bytes = slice_index bytes 0 == line_feed || (slice_index bytes 0 == carriage_return && slice_index bytes 1 == line_feed)

-- how many bytes that line has
abbrev pub empty_line_len : List ℕ → ℕ
empty_line_len bytes = if slice_index bytes 0 == line_feed then 1 else 2

-- how many bytes at the front are empty lines
abbrev pub blank_len : List ℕ → ℕ
blank_len [] = 0
blank_len (b ∷ bytes) = if begins_empty (b ∷ bytes) then 1 + blank_len bytes else 0

-- how many bytes there are up to the first empty line after the end of another, and with it
abbrev pub head_len : List ℕ → Option ℕ
head_len [] = None
head_len (b ∷ bytes) = if b == line_feed && begins_empty bytes then Some (1 + empty_line_len bytes) else option_map (λ n. 1 + n) (head_len bytes)

-- the lines of a head between its first line and its empty line
abbrev pub header_lines : List ℕ → ℕ
header_lines front = count_by (λ b. b == line_feed) front - 2

-- bytes are empty lines, the bytes of a head, and what follows
pub record Cuts (bytes blank front rest : List ℕ) : Type 0 where
  pub whole : bytes ≡ blank ++ (front ++ rest)
  pub empty : blank_len blank ≡ length blank
  pub begins : blank_len front ≡ 0
  pub ends : head_len front ≡ Some (length front)
