-- The field lines of a head, as pairs of a name and a value without outer blanks (RFC 9110, section 5).
use Rattle.std.specs.Prelude.{ℕ, Bool, ◌&&◌, ◌==◌, List, map, filter, codes}
use Rattle.std.specs.List.{list_any, slice_split}
use Rattle.std.specs.Str.{str_eq_ignore_ascii_case}
use Rattle.jk_io.specs.Decimals.{trimmed}
use Rattle.http_front.specs.Ascii.{comma}

-- a name and a value
abbrev pub HeaderLine : Type 0
HeaderLine = List ℕ × List ℕ

-- two words are the same, in either case
abbrev pub same_word : List ℕ → List ℕ → Bool
same_word = str_eq_ignore_ascii_case

-- the line has this name
abbrev pub is_named : List ℕ → HeaderLine → Bool
is_named name line = same_word line.0 name

-- the values of the lines of this name, in order
abbrev pub named : List ℕ → List HeaderLine → List (List ℕ)
named name lines = map (λ l. l.1) (filter (is_named name) lines)

-- the word is an element of the value's list, which commas separate (RFC 9110, section 5.6.1)
abbrev pub has_word : List ℕ → List ℕ → Bool
has_word word value = list_any (λ part. same_word (trimmed part) word) (slice_split (λ b. b == comma) value)

-- a Connection line has the word close (RFC 9112, section 9.6)
abbrev pub says_close : List HeaderLine → Bool
says_close lines = list_any (λ l. is_named (codes "connection") l && has_word (codes "close") l.1) lines

-- an Expect line is 100-continue (RFC 9110, section 10.1.1)
abbrev pub says_expect : List HeaderLine → Bool
says_expect lines = list_any (λ l. is_named (codes "expect") l && same_word l.1 (codes "100-continue")) lines
