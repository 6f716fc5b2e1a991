-- A table that is looked up from its front.
use Rattle.std.proofs.Common.{◌≡◌, ℕ, ◌+◌, ◌<◌, length, map, drop, get_or, List, ◌∷◌, Some, true, false, Bor, refl, add-one}
use Rattle.std.proofs.Math.Seq.{drop-cons}
use Rattle.std.specs.Str.{str_eq_ignore_ascii_case}
use Rattle.ajp_wire.specs.Names.{code_from}

abbrev pub names_of : List (Bor (List ℕ)) → List (List ℕ)
names_of table = map (λ s. s.now) table

-- the name at a place comes first in what is left of the table there
pub names_of-drop : (table : List (Bor (List ℕ))) (i : ℕ) (d : Bor (List ℕ)) → i < length table
    → names_of (drop i table) ≡ (get_or table i d).now ∷ names_of (drop (i + 1) table)
names_of-drop table i d h = rw (add-one, drop-cons table i d) refl

pub code_from-found : (table : List (Bor (List ℕ))) (i code : ℕ) (name : List ℕ) (d : Bor (List ℕ)) → i < length table
    → str_eq_ignore_ascii_case (get_or table i d).now name ≡ true → code_from code (names_of (drop i table)) name ≡ Some code
code_from-found table i code name d h same = rw (names_of-drop table i d h, same) refl

pub code_from-next : (table : List (Bor (List ℕ))) (i code : ℕ) (name : List ℕ) (d : Bor (List ℕ)) → i < length table
    → str_eq_ignore_ascii_case (get_or table i d).now name ≡ false
    → code_from code (names_of (drop i table)) name ≡ code_from (code + 1) (names_of (drop (i + 1) table)) name
code_from-next table i code name d h other = rw (names_of-drop table i d h, other) refl
