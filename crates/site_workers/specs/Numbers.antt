-- The places of names, kept in a map.
use Rattle.std.specs.Prelude.{◌≡◌, ℕ, List, [], ◌∷◌, Option, Some, None, if◌then◌else◌, suc}
use Rattle.std.specs.Option.{option_map}
use Rattle.std.specs.Str.{bytes_eq}
use Rattle.std.specs.HashMap.{HashMap, get_by}
use Rattle.std.specs.declared.hash.FoldHasher.{FoldHasher}
use Rattle.std.specs.declared.hash.BuildHasherDefault.{BuildHasherDefault}
use denote.Ref.{Bor}

-- the place of a name, from 0
abbrev pub number_of : List ℕ → List (List ℕ) → Option ℕ
number_of name [] = None
number_of name (n ∷ ns) = if bytes_eq n name then Some 0 else option_map suc (number_of name ns)

-- the map finds each name's place, and nothing else
abbrev pub AreNumbered : HashMap (Bor (List ℕ)) ℕ (BuildHasherDefault FoldHasher) → List (List ℕ) → Type 0
AreNumbered numbers names = (name : List ℕ) → get_by (λ k. bytes_eq name k.now) numbers ≡ number_of name names
