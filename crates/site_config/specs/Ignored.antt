-- Keys that stand one after another in one text.
use Rattle.std.specs.Prelude.{◌≡◌, ◌≤◌, ℕ, zero, suc, List, [], ◌∷◌, slice_range}
use Rattle.site_config.specs.declared.ignored.KeyEnd.{KeyEnd}

-- the lines with their keys, the first of which begins here
abbrev pub keys_from : ℕ → List ℕ → List KeyEnd → List (ℕ × List ℕ)
keys_from start keys [] = []
keys_from start keys (e ∷ es) = (e.line, slice_range keys start e.end) ∷ keys_from e.end keys es

-- no key ends before it begins, and the last one ends with the text
abbrev pub AreEnds : ℕ → List KeyEnd → ℕ → Type 0
AreEnds start [] all = start ≡ all
AreEnds start (e ∷ es) all = (start ≤ e.end) × AreEnds e.end es all

-- where the key at a place begins
abbrev pub start_at : ℕ → List KeyEnd → ℕ → ℕ
start_at start es zero = start
start_at start [] (suc i) = start
start_at start (e ∷ es) (suc i) = start_at e.end es i
