-- The clean path of a raw path. Own rule; escapes by RFC 3986, section 2.1.
use Rattle.std.specs.Prelude.{ℕ, ◌+◌, ◌*◌, Bool, true, not, ◌&&◌, ◌||◌, ◌==◌, List, [], ◌∷◌, ◌++◌, map, Option, Some, None, slice_index, drop, codes, bytes_eq, if◌then◌else◌}
use Rattle.std.specs.List.{list_any, slice_split, before_first, join_with_byte, position}
use Rattle.std.specs.Option.{option_map}
use Rattle.std.specs.Char.{is_digit, digit_value}
use Rattle.percent_encoding.specs.Percent.{percent_decode}
use Rattle.http_front.specs.Ascii.{percent, dot, slash, semicolon, question, backslash}

-- the raw path: the target up to its first `?`
abbrev pub path_of : List ℕ → List ℕ
path_of target = before_first (λ b. b == question) target

-- what follows that `?`, where the target has one
abbrev pub query_of : List ℕ → Option (List ℕ)
query_of target = option_map (λ at. drop (at + 1) target) (position (λ b. b == question) target)

-- a byte that no escape may give: `/`, `\` or zero
abbrev pub is_refused_byte : ℕ → Bool
is_refused_byte b = b == slash || b == backslash || b == 0

-- two hexadecimal digits at the front, which give a byte that may be given
abbrev pub begins_escape : List ℕ → Bool
begins_escape bytes =
    is_digit (slice_index bytes 0) 16 && is_digit (slice_index bytes 1) 16
    && not (is_refused_byte (16 * digit_value (slice_index bytes 0) + digit_value (slice_index bytes 1)))

-- no `\` stands there, and after each `%` a good escape
abbrev pub has_good_bytes : List ℕ → Bool
has_good_bytes [] = true
has_good_bytes (b ∷ bytes) = not (b == backslash) && (not (b == percent) || begins_escape bytes) && has_good_bytes bytes

-- the segments between slashes
abbrev pub segments : List ℕ → List (List ℕ)
segments path = slice_split (λ b. b == slash) path

-- a segment up to its first `;`, with its escapes decoded
abbrev pub clean_segment : List ℕ → List ℕ
clean_segment segment = percent_decode (before_first (λ b. b == semicolon) segment)

-- a dot segment
abbrev pub is_dots : List ℕ → Bool
is_dots segment = bytes_eq segment (dot ∷ []) || bytes_eq segment (dot ∷ dot ∷ [])

-- an empty segment that isn't the last goes
abbrev pub kept : List (List ℕ) → List (List ℕ)
kept [] = []
kept (last ∷ []) = last ∷ []
kept ([] ∷ next ∷ more) = kept (next ∷ more)
kept ((b ∷ segment) ∷ next ∷ more) = (b ∷ segment) ∷ kept (next ∷ more)

-- a segment and the slash after it, nothing where it is empty
abbrev pub slashed : List ℕ → List ℕ
slashed [] = []
slashed (b ∷ segment) = (b ∷ segment) ++ slash ∷ []

-- the clean segments after a slash, joined again
abbrev pub joined : List ℕ → List ℕ
joined path = join_with_byte slash (kept (map clean_segment (segments path)))

-- the clean path of a path that begins with a slash
abbrev pub cleaned : List ℕ → List ℕ
cleaned path = slash ∷ joined (drop 1 path)

-- a path with a bad byte, a bad escape or a dot segment isn't clean
abbrev pub is_clean : List ℕ → Bool
is_clean path = slice_index path 0 == slash && has_good_bytes path && not (list_any is_dots (map clean_segment (segments (drop 1 path))))

-- the clean path, where there is one; the path `*` is clean
abbrev pub clean_of : List ℕ → Option (List ℕ)
clean_of raw = if bytes_eq raw (codes "*") then Some raw else if is_clean raw then Some (cleaned raw) else None
