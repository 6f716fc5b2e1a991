-- The lines of a text.
use Rattle.std.specs.Prelude.{ℕ, ◌+◌, ◌==◌, List, Option, Some, None, position, take}

-- the text up to this place and with it, or all of it
abbrev pub up_to : Option ℕ → List ℕ → List ℕ
up_to None text = text
up_to (Some at) text = take (at + 1) text

-- the text up to the end of its first line
abbrev pub first_line : List ℕ → List ℕ
first_line text = up_to (position (λ b. b == 10) text) text
