-- Where a text is cut in two: what stands before the first byte that passes a test, and what follows it.
use Rattle.std.specs.Prelude.{ℕ, Bool, List, [], ◌∷◌, Option, Some, None, if◌then◌else◌, ◌==◌, ◌||◌}
use Rattle.std.specs.Option.{option_map}

-- the byte goes before the first of the two parts
abbrev pub onto_name : ℕ → List ℕ × List ℕ → List ℕ × List ℕ
onto_name b parts = (b ∷ parts.0, parts.1)

-- the parts around the first byte that passes; none where no byte does
abbrev pub cut : (ℕ → Bool) → List ℕ → Option (List ℕ × List ℕ)
cut p [] = None
cut p (b ∷ bs) = if p b then Some ([], bs) else option_map (onto_name b) (cut p bs)

-- the parts around the first such byte
abbrev pub cut_at : ℕ → List ℕ → Option (List ℕ × List ℕ)
cut_at c text = cut (λ b. b == c) text

-- a comma, a space or a tab
abbrev pub is_separator : ℕ → Bool
is_separator b = (b == 44) || ((b == 32) || (b == 9))
