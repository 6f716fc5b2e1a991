-- The item at a place of a list, and a member of a table within the row of its balancer.
use Rattle.std.proofs.Common.{◌≡◌, ℕ, zero, suc, ◌<◌, List, [], ◌∷◌, Some, length, map, get_or, subst, sym, ap, arith}
use Rattle.std.specs.Prelude.{IfSome, slice_get}

pub member_at : {A : Type 0} (f : A → List ℕ) (rows : List A) (lb member : ℕ) (row : A)
    → member < get_or (map length (map f rows)) lb 0 → row ≡ get_or rows lb row → member < length (f row)
member_at f [] lb member row known found = absurd (omega arith)
member_at {A} f (x ∷ rows) zero member row known found =
    let P : A → Type 0 = λ r. member < length (f r) in subst P (sym found) known
member_at f (x ∷ rows) (suc lb) member row known found = member_at f rows lb member row known found

-- a fact of the row that is found at a balancer
pub row_at : {A : Type 0} (P : A → Type 0) (rows : List A) (lb : ℕ) (row : A) → row ≡ get_or rows lb row → P row → IfSome (slice_get rows lb) P
row_at P [] lb row found fact = tt
row_at P (x ∷ rows) zero row found fact = subst P found fact
row_at P (x ∷ rows) (suc lb) row found fact = row_at P rows lb row found fact

pub item_at : {A : Type 0} (items : List A) (place : ℕ) (item : A)
    → place < length items → item ≡ get_or items place item → slice_get items place ≡ Some item
item_at [] place item within found = absurd (omega arith)
item_at (x ∷ items) zero item within found = ap Some (sym found)
item_at (x ∷ items) (suc place) item within found = item_at items place item (omega (arith, within)) found
