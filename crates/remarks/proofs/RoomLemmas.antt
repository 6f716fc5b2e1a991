-- The last place of a list, which was taken as room.
use Rattle.std.proofs.Common.{◌≡◌, ◌+◌, ◌-◌, List, [], ◌∷◌, ◌++◌, length, slice_set, refl, ap, arith, length-append}

put_at : {A : Type 0} → (front : List A) (room item : A) → slice_set (front ++ room ∷ []) (length front) item ≡ front ++ item ∷ []
put_at [] room item = refl
put_at (x ∷ front) room item = ap (λ rest. x ∷ rest) (put_at front room item)

-- what is put into the room stands after those before it
pub last_put : {A : Type 0} → (front all : List A) (room item : A) → all ≡ front ++ room ∷ [] → slice_set all (length all - 1) item ≡ front ++ item ∷ []
last_put front all room item same =
    let last : length (front ++ room ∷ []) - 1 ≡ length front = rw length-append (omega arith) in
    rw (same, last) (put_at front room item)
