-- The chunked coding as RFC 9112, section 7.1, spells it, in a strict profile. No place of a reader stands here.
--     chunked-body = *chunk last-chunk trailer-section CRLF
--     chunk        = chunk-size [ chunk-ext ] CRLF chunk-data CRLF
--     last-chunk   = 1*"0" [ chunk-ext ] CRLF
-- The profile: a size has at most 10 digits; an extension is `;` and at most 256 bytes; the lines of the trailer have
-- at most 16,384 bytes with their ends; no CR and no LF stands in an extension or a line of the trailer.
use Rattle.std.specs.Prelude.{ℕ, ◌≡◌, ◌<◌, ◌≤◌, ◌+◌, ◌*◌, ◌==◌, ◌↔◌, ◌&&◌, not, Bool, true, false, List, [], ◌∷◌, ◌++◌, length, Option, Some, None, ⊤}
use Rattle.std.specs.Char.{is_digit, digit_value}
use Rattle.std.specs.List.{AllByRecursion, flat_map, list_all}
use Rattle.http_front.specs.Body.{Uses, data_from, place_behind}
use Rattle.http_front.specs.Places.{start_of, is_whole}
use Rattle.http_front.specs.declared.place.Place.{Place}
use Rattle.http_front.specs.declared.place.Place.TheVariants as at
use Rattle.http_front.specs.declared.head.BodyPlan.TheVariants as plan

-- CR LF
abbrev pub line_end : List ℕ
line_end = 13 ∷ 10 ∷ []

-- the number that hexadecimal digits write after the digits of n
abbrev pub written_from : ℕ → List ℕ → ℕ
written_from n [] = n
written_from n (d ∷ digits) = written_from (16 * n + digit_value d) digits

abbrev pub is_hexadecimal : ℕ → Bool
is_hexadecimal b = is_digit b 16

-- neither CR nor LF
abbrev pub is_inner : ℕ → Bool
is_inner b = not (b == 13) && not (b == 10)

-- chunk-size
pub record IsSize (digits : List ℕ) (n : ℕ) : Type 0 where
  pub some : 0 < length digits
  pub few : length digits ≤ 10
  pub hexadecimal : list_all is_hexadecimal digits ≡ true
  pub value : written_from 0 digits ≡ n

-- chunk-ext, where there is one
abbrev pub extension_bytes : Option (List ℕ) → List ℕ
extension_bytes None = []
extension_bytes (Some text) = 59 ∷ text

abbrev pub IsExtension : Option (List ℕ) → Type 0
IsExtension None = ⊤
IsExtension (Some text) = (length text ≤ 256) × (list_all is_inner text ≡ true)

-- chunk-size [ chunk-ext ] CRLF
abbrev pub size_line : List ℕ → Option (List ℕ) → List ℕ
size_line size extension = size ++ (extension_bytes extension ++ line_end)

pub record Chunk : Type 0 where
  pub size : List ℕ
  pub extension : Option (List ℕ)
  pub data' : List ℕ

-- its size says how many bytes of data it has, and it has some
pub record IsChunk (c : Chunk) : Type 0 where
  pub size : IsSize c.size (length c.data')
  pub some : 0 < length c.data'
  pub extension : IsExtension c.extension

abbrev pub chunk_bytes : Chunk → List ℕ
chunk_bytes c = size_line c.size c.extension ++ (c.data' ++ line_end)

-- trailer-section
abbrev pub trailer_line_bytes : List ℕ → List ℕ
trailer_line_bytes line = line ++ line_end

abbrev pub trailer_bytes : List (List ℕ) → List ℕ
trailer_bytes lines = flat_map trailer_line_bytes lines

-- no line of the trailer is empty, or ends within
pub record IsTrailerLine (line : List ℕ) : Type 0 where
  pub some : 0 < length line
  pub inner : list_all is_inner line ≡ true

pub record ChunkedBody : Type 0 where
  pub chunks : List Chunk
  pub last : List ℕ
  pub extension : Option (List ℕ)
  pub trailer : List (List ℕ)

pub record IsChunkedBody (b : ChunkedBody) : Type 0 where
  pub chunks : AllByRecursion IsChunk b.chunks
  pub last : IsSize b.last 0
  pub extension : IsExtension b.extension
  pub trailer : AllByRecursion IsTrailerLine b.trailer
  pub short : length (trailer_bytes b.trailer) ≤ 16384

abbrev pub spelled : ChunkedBody → List ℕ
spelled b = flat_map chunk_bytes b.chunks ++ (size_line b.last b.extension ++ (trailer_bytes b.trailer ++ line_end))

abbrev pub data_in : ChunkedBody → List ℕ
data_in b = flat_map (λ c. c.data') b.chunks

-- what the grammar spells is read as its data, and as whole, and nothing after it is used
abbrev pub ReadsSpelled : Type 0
ReadsSpelled = (b : ChunkedBody) (rest : List ℕ) → IsChunkedBody b
    → (data_from (spelled b ++ rest) (start_of plan.Chunked) ≡ record { bytes = data_in b; whole = true; bad = false })
    × Uses (Some (spelled b ++ rest)) (Some rest) (start_of plan.Chunked) at.Done (data_in b)

-- what is read as a whole body is spelled by the grammar
abbrev pub ReadsOnlySpelled : Type 0
ReadsOnlySpelled = (bytes : List ℕ) (place : Place) → place_behind bytes (start_of plan.Chunked) ≡ Some place → is_whole place ≡ true
    → (b : ChunkedBody) × IsChunkedBody b × (bytes ≡ spelled b)

-- a bad chunk line is met exactly where nothing that begins with the bytes begins with a body that the grammar spells
abbrev pub RefusesUnspelled : Type 0
RefusesUnspelled = (bytes : List ℕ) → ((data_from bytes (start_of plan.Chunked)).bad ≡ true)
    ↔ ((more rest : List ℕ) (b : ChunkedBody) → IsChunkedBody b → bytes ++ more ≡ spelled b ++ rest → ⊥)
