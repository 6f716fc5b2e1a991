-- The lines of a site's file. A line ends with LF or CR LF, and the last one may end with the text.
use Rattle.std.specs.Prelude.{ℕ, Bool, false, List, [], ◌∷◌, bytes_eq, drop, take, if◌then◌else◌, ◌==◌, ◌&&◌}
use Rattle.std.specs.List.{onto_first}

abbrev pub begins_with : ℕ → List ℕ → Bool
begins_with c [] = false
begins_with c (b ∷ bs) = b == c

-- LF ends a line, and a CR right before it is no byte of the line
abbrev pub lines : List ℕ → List (List ℕ)
lines [] = []
lines (b ∷ bs) = if b == 10 then [] ∷ lines bs else (if (b == 13) && begins_with 10 bs then lines bs else onto_first b (lines bs))

-- a line without the one CR at its end, if it has one
abbrev pub without_return : List ℕ → List ℕ
without_return [] = []
without_return (b ∷ []) = if b == 13 then [] else b ∷ []
without_return (b ∷ c ∷ bs) = b ∷ without_return (c ∷ bs)

-- a text without the byte-order mark EF BB BF that may stand at its very start
abbrev pub without_mark : List ℕ → List ℕ
without_mark text = if bytes_eq (take 3 text) (239 ∷ 187 ∷ 191 ∷ []) then drop 3 text else text
