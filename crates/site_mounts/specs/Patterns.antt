-- Which paths a pattern of a uriworkermap.properties matches.
use Rattle.std.specs.Prelude.{ℕ, Bool, true, false, List, [], ◌∷◌, if◌then◌else◌, ◌==◌, ◌||◌, ◌&&◌}
use Rattle.std.specs.List.{list_any}

-- `*` stands for any run of bytes
abbrev pub is_star : ℕ → Bool
is_star c = c == 42

-- `?` stands for any one byte, and each other byte for itself
abbrev pub stands_for : ℕ → ℕ → Bool
stands_for c b = (c == 63) || (c == b)

abbrev pub is_wildcard : ℕ → Bool
is_wildcard c = is_star c || (c == 63)

abbrev pub has_wildcard : List ℕ → Bool
has_wildcard pattern = list_any is_wildcard pattern

abbrev pub is_empty : List ℕ → Bool
is_empty [] = true
is_empty (b ∷ bs) = false

-- the path passes, or what is left of it after some byte
abbrev pub some_end : (List ℕ → Bool) → List ℕ → Bool
some_end p [] = p []
some_end p (b ∷ bs) = p (b ∷ bs) || some_end p bs

-- this byte stands for the path's first one, and what follows that passes
abbrev pub one_byte : ℕ → (List ℕ → Bool) → List ℕ → Bool
one_byte c p [] = false
one_byte c p (b ∷ bs) = stands_for c b && p bs

-- the pattern matches the whole path
abbrev pub matches : List ℕ → List ℕ → Bool
matches [] path = is_empty path
matches (c ∷ cs) path = if is_star c then some_end (matches cs) path else one_byte c (matches cs) path
