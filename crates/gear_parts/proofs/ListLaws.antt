-- Lists made of others, item by item.
use Rattle.std.proofs.Common.{ℕ, zero, suc, true, false, ◌<◌, ◌≤◌, ◌≡◌, List, [], ◌∷◌, ◌++◌, length, map, take, refl, sym, ap, subst, ◌∙◌, append_assoc, arith}
use Rattle.std.proofs.lemmas.Bool.{false≢true}
use Rattle.std.proofs.lemmas.List.{append-nil, length-map, map-append}
use Rattle.std.proofs.Math.Seq.{take-append_seam}
use Rattle.std.specs.List.{All}
use Rattle.std.proofs.lemmas.List.Elements.{All-cons, All-head, All-nil, All-tail}

pub map_map : {X Y Z : Type 0} (g : Y → Z) (f : X → Y) (xs : List X) → map g (map f xs) ≡ map (λ (x : X). g (f x)) xs
map_map g f [] = refl
map_map {Z = Z} g f (x ∷ xs) = ap (λ (zs : List Z). g (f x) ∷ zs) (map_map g f xs)

-- A fact of all that a list is mapped to is one of each of its items.
pub all_of_map : {X Y : Type 0} (P : X → Type 0) (f : Y → X) (ys : List Y) → All P (map f ys) → All (λ (y : Y). P (f y)) ys
all_of_map {Y = Y} P f [] all = All-nil (λ (y : Y). P (f y))
all_of_map {Y = Y} P f (y ∷ ys) all =
    All-cons (λ (z : Y). P (f z)) y ys (All-head P (f y) (map f ys) all) (all_of_map P f ys (All-tail P (f y) (map f ys) all))

-- Nothing is left of what is put at the end.
pub no_more : {X : Type 0} (xs rest ys : List X) → xs ++ rest ≡ ys → length rest ≡ 0 → xs ≡ ys
no_more xs [] ys all none = sym (append-nil xs) ∙ all
no_more xs (y ∷ rest) ys all none = absurd (omega (arith, none))

pub no_more_of : {X Y : Type 0} (f : Y → X) (xs : List X) (rest : List Y) (ys : List X) → xs ++ map f rest ≡ ys → length rest ≡ 0 → xs ≡ ys
no_more_of f xs rest ys all none = no_more xs (map f rest) ys all (length-map rest f ∙ none)

-- Where the next of a list is none, none is left.
pub none_left : (n len : ℕ) → len ≡ n → (0 < len → false ≡ true) → n ≡ 0
none_left zero len all more = refl
none_left (suc n) len all more = absurd (false≢true (more (omega (arith, all))))

-- Nothing is put yet, and all is left.
pub none_put : {X Y Z : Type 0} (f : X → Z) (g : Y → Z) (xs : List X) (rest ys : List Y) → xs ≡ [] → rest ≡ ys → map f xs ++ map g rest ≡ map g ys
none_put f g xs rest ys none all = rw (none, all) refl

-- One more of what is put.
pub one_put : {X Y Z : Type 0} (f : X → Z) (g : Y → Z) (xs xs' : List X) (x : X) (rest rest' : List Y) (y : Y) (all : List Z)
    → map f xs ++ map g rest ≡ all → rest ≡ y ∷ rest' → xs' ≡ xs ++ x ∷ [] → f x ≡ g y → map f xs' ++ map g rest' ≡ all
one_put {X} {Y} {Z} f g xs xs' x rest rest' y all so_far is more same =
    ap (λ (items : List X). map f items ++ map g rest') more
    ∙ ap (λ (zs : List Z). zs ++ map g rest') (map-append f xs (x ∷ []))
    ∙ append_assoc (map f xs) (f x ∷ []) (map g rest')
    ∙ ap (λ (z : Z). map f xs ++ z ∷ map g rest') same
    ∙ ap (λ (ys : List Y). map f xs ++ map g ys) (sym is)
    ∙ so_far

-- lists that give the same are as long
pub as_long : {X Y Z : Type 0} (f : X → Z) (g : Y → Z) (xs : List X) (ys : List Y) → map f xs ≡ map g ys → length xs ≡ length ys
as_long f g xs ys same = sym (length-map xs f) ∙ ap length same ∙ length-map ys g

-- what was written through a slice of a whole list is the list after it
pub written_back : {X : Type 0} → (n : ℕ) (new rest : List X) → n ≡ length new → take n (new ++ rest) ≡ new
written_back n new rest all = subst (λ (k : ℕ). take k (new ++ rest) ≡ new) (sym all) (take-append_seam new rest)

-- so of a number that is the same
pub some_so : (n count : ℕ) → n ≡ count → 0 < count → 0 < n
some_so n count same some = omega (arith, same, some)

pub few_so : (n count most : ℕ) → n ≡ count → count ≤ most → n ≤ most
few_so n count most same few = omega (arith, same, few)
