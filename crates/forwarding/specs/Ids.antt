-- The session ids of a request: those of its path come before those of its cookies.
use Rattle.std.specs.Prelude.{if◌then◌else◌, ℕ, ◌+◌, ◌-◌, ◌==◌, ◌&&◌, ◌||◌, nat_le, Bool, List, [], ◌∷◌, ◌++◌, length, take, drop, position, Option, Some, None, codes, nat_eq, bytes_eq, slice_index, unwrap_or}
use Rattle.std.specs.List.{starts_with, flat_map, filter_map, slice_split}
use Rattle.std.specs.Option.{option_map}
use Rattle.jk_io.specs.Decimals.{trimmed}
use Rattle.http_front.specs.Fields.{named}
use Rattle.http_front.specs.declared.head.Head.{Head}

-- what stands before the first byte of this value and after it, where there is one
abbrev pub cut_at : ℕ → List ℕ → Option (List ℕ × List ℕ)
cut_at byte text = option_map (λ at. (take at text, drop (at + 1) text)) (position (λ b. b == byte) text)

-- an id in a path ends before `;` or `/`
abbrev pub ends_id : ℕ → Bool
ends_id byte = byte == 59 || byte == 47

-- the text up to the end of an id, all of it where there is no end
abbrev pub upto_end : List ℕ → List ℕ
upto_end text = take (unwrap_or (position ends_id text) (length text)) text

-- the id whose mark stands right here
abbrev pub id_here : List ℕ → List ℕ → List (List ℕ)
id_here mark text = if starts_with nat_eq text mark then upto_end (drop (length mark) text) ∷ [] else []

-- the ids after each place of the mark, in order
abbrev pub path_ids : List ℕ → List ℕ → List (List ℕ)
path_ids mark [] = []
path_ids mark (byte ∷ path) = id_here mark (byte ∷ path) ++ path_ids mark path

-- a value between two double quotes
abbrev pub is_quoted : List ℕ → Bool
is_quoted value = nat_le 2 (length value) && (slice_index value 0 == 34 && slice_index value (length value - 1) == 34)

abbrev pub unquoted : List ℕ → List ℕ
unquoted value = if is_quoted value then take (length value - 2) (drop 1 value) else value

-- the value of a cookie with this name
abbrev pub value_named : List ℕ → Option (List ℕ × List ℕ) → Option (List ℕ)
value_named name None = None
value_named name (Some cut) = if bytes_eq cut.0 name then Some (unquoted cut.1) else None

abbrev pub cookie_id : List ℕ → List ℕ → Option (List ℕ)
cookie_id name part = value_named name (cut_at 61 (trimmed part))

-- the ids of one Cookie line (RFC 6265, section 4.2.1)
abbrev pub cookie_ids : List ℕ → List ℕ → List (List ℕ)
cookie_ids name line = filter_map (cookie_id name) (slice_split (λ b. b == 59) line)

-- all ids of a request, where a balancer looks for this cookie and this mark of a path
abbrev pub ids_of : Head → List ℕ → List ℕ → List (List ℕ)
ids_of head cookie path =
    path_ids (path ++ codes "=") head.path ++ flat_map (cookie_ids cookie) (named (codes "cookie") head.headers)
