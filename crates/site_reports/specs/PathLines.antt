-- The lines of a list of paths.
use Rattle.std.specs.Prelude.{ℕ, List, [], ◌∷◌, if◌then◌else◌, ◌==◌}
use Rattle.std.specs.List.{onto_first}

-- LF ends a line, and the last one may end with the text
abbrev pub path_lines : List ℕ → List (List ℕ)
path_lines [] = []
path_lines (b ∷ bs) = if b == 10 then [] ∷ path_lines bs else onto_first b (path_lines bs)
