-- Lists that are the same so far, and what is told of lists item by item.
use Rattle.std.proofs.Common.{◌≡◌, ℕ, zero, suc, ◌+◌, List, [], ◌∷◌, ◌++◌, length, map, take, Some, refl, sym, ap, ◌∙◌, subst, add-one, arith, append_assoc}
use Rattle.std.specs.Prelude.{◌↔◌, slice_get, sum_by, Result, Ok, Err, IfOk, IsErrAnd}
use Rattle.std.specs.List.{All, flat_map}
use Rattle.std.proofs.lemmas.List.{append-nil, map-append}
use Rattle.std.proofs.lemmas.List.Concat.{flat_map-cons}
use Rattle.std.proofs.lemmas.List.Elements.{All-cons, All-tail}
use Rattle.std.proofs.lemmas.List.Sums.{sum_by-cons}
use Rattle.lb_model.specs.declared.journal.Entry.{Entry}
use Rattle.lb_book.specs.declared.receipt.Receipt.{Receipt}
use Rattle.lb_closing.specs.Closings.{noted}

some_is : {A : Type 0} (x y : A) → Some x ≡ Some y → x ≡ y
some_is x y same = cc

take_next : {A : Type 0} (i : ℕ) (xs ys : List A) → take i xs ≡ take i ys → slice_get xs i ≡ slice_get ys i → take (suc i) xs ≡ take (suc i) ys
take_next zero [] [] same at = refl
take_next zero [] (y ∷ ys) same at = absurd cc
take_next zero (x ∷ xs) [] same at = absurd cc
take_next zero (x ∷ xs) (y ∷ ys) same at = ap (λ (z : _). z ∷ []) (some_is x y at)
take_next (suc i) [] [] same at = refl
take_next (suc i) [] (y ∷ ys) same at = absurd cc
take_next (suc i) (x ∷ xs) [] same at = absurd cc
take_next (suc i) (x ∷ xs) (y ∷ ys) same at =
    let first : x ≡ y = cc in
    let tail : take i xs ≡ take i ys = cc in
    let rest : take (suc i) xs ≡ take (suc i) ys = take_next i xs ys tail at in
    ap (λ (z : _). z ∷ take (suc i) xs) first ∙ ap (λ (zs : List _). y ∷ zs) rest

pub take_same : {A : Type 0} (i : ℕ) (xs ys : List A) → take i xs ≡ take i ys → slice_get xs i ≡ slice_get ys i → take (i + 1) xs ≡ take (i + 1) ys
take_same i xs ys same at = subst (λ (n : ℕ). take n xs ≡ take n ys) (sym (add-one i)) (take_next i xs ys same at)

-- One item more of those that are left.
pub sum_step : {X : Type 0} (f : X → ℕ) (xs rest : List X) (x : X) (a b t : ℕ) → a + sum_by f xs ≡ t → xs ≡ x ∷ rest → b ≡ a + f x → b + sum_by f rest ≡ t
sum_step f xs rest x a b t so_far is more =
    let here : a + sum_by f (x ∷ rest) ≡ t = subst (λ (ys : List _). a + sum_by f ys ≡ t) is so_far in
    omega (arith, sum_by-cons f x rest, here, more)

pub map_step : {X A : Type 0} (f : X → A) (xs rest : List X) (x : X) (a b t : List A) → a ++ map f xs ≡ t → xs ≡ x ∷ rest → b ≡ a ++ f x ∷ [] → b ++ map f rest ≡ t
map_step f xs rest x a b t so_far is more =
    let here : a ++ f x ∷ map f rest ≡ t = subst (λ (ys : List _). a ++ map f ys ≡ t) is so_far in
    ap (λ (ys : List _). ys ++ map f rest) more ∙ append_assoc a (f x ∷ []) (map f rest) ∙ here

pub noted_step : {X : Type 0} (f : X → List Receipt) (xs rest : List X) (x : X) (a b t : List (ℕ × Entry)) → a ++ noted (flat_map f xs) ≡ t → xs ≡ x ∷ rest
    → b ≡ a ++ noted (f x) → b ++ noted (flat_map f rest) ≡ t
noted_step f xs rest x a b t so_far is more =
    let all : noted (flat_map f (x ∷ rest)) ≡ noted (f x) ++ noted (flat_map f rest) =
    ap (λ (rs : List Receipt). noted rs) (flat_map-cons f x rest) ∙ map-append (λ (r : Receipt). (r.lb, r.entry)) (f x) (flat_map f rest) in
    let here : a ++ noted (flat_map f (x ∷ rest)) ≡ t = subst (λ (ys : List _). a ++ noted (flat_map f ys) ≡ t) is so_far in
    ap (λ (ys : List (ℕ × Entry)). ys ++ noted (flat_map f rest)) more
    ∙ append_assoc a (noted (f x)) (noted (flat_map f rest))
    ∙ ap (λ (ys : List (ℕ × Entry)). a ++ ys) (sym all)
    ∙ here

pub all_step : {X : Type 0} (P : X → Type 0) (xs rest : List X) (x : X) (Old New T : Type 0) → ((Old × All P xs) ↔ T) → xs ≡ x ∷ rest → (New ↔ (Old × P x)) → ((New × All P rest) ↔ T)
all_step P xs rest x Old New T so_far is more = (
  (λ now.
      let both : Old × P x = more.0 now.0 in
      so_far.0 (both.0, subst (λ (ys : List _). All P ys) (sym is) (All-cons P x rest both.1 now.1))),
  (λ t.
      let before : Old × All P xs = so_far.1 t in
      let all : All P (x ∷ rest) = subst (λ (ys : List _). All P ys) is before.1 in
      let parts : P x × All P rest = (all 0 x (omega arith), All-tail P x rest all) in
      (more.1 (before.0, parts.0), parts.1)),
)

-- A list with no item left.
pub no_items : {X : Type 0} (xs : List X) → length xs ≡ 0 → xs ≡ []
no_items [] none = refl
no_items (x ∷ xs) none = absurd (omega arith)

pub sum_end : {X : Type 0} (f : X → ℕ) (xs : List X) (a t : ℕ) → a + sum_by f xs ≡ t → xs ≡ [] → a ≡ t
sum_end f xs a t so_far none =
    let here : a + sum_by f [] ≡ t = subst (λ (ys : List _). a + sum_by f ys ≡ t) none so_far in
    omega (arith, here)

pub map_end : {X A : Type 0} (f : X → A) (xs : List X) (a t : List A) → a ++ map f xs ≡ t → xs ≡ [] → a ≡ t
map_end f xs a t so_far none =
    let here : a ++ [] ≡ t = subst (λ (ys : List _). a ++ map f ys ≡ t) none so_far in
    sym (append-nil a) ∙ here

pub noted_end : {X : Type 0} (f : X → List Receipt) (xs : List X) (a t : List (ℕ × Entry)) → a ++ noted (flat_map f xs) ≡ t → xs ≡ [] → a ≡ t
noted_end f xs a t so_far none =
    let here : a ++ [] ≡ t = subst (λ (ys : List _). a ++ noted (flat_map f ys) ≡ t) none so_far in
    sym (append-nil a) ∙ here

pub all_end : {X : Type 0} (P : X → Type 0) (xs : List X) (New T : Type 0) → ((New × All P xs) ↔ T) → xs ≡ [] → (New ↔ T)
all_end P xs New T so_far none = (
  (λ now. so_far.0 (now, subst (λ (ys : List _). All P ys) (sym none) (λ k d lt. absurd (omega (arith, lt))))),
  (λ t. (so_far.1 t).0),
)

-- The sum over the first item and the others is that over all.
pub sum_of : {X : Type 0} (f : X → ℕ) (all rest : List X) (x : X) (a b : ℕ) → all ≡ x ∷ rest → a ≡ f x → b ≡ a + sum_by f rest → b ≡ sum_by f all
sum_of f all rest x a b is first others =
    let here : b ≡ sum_by f (x ∷ rest) = omega (arith, sum_by-cons f x rest, first, others) in
    subst (λ (ys : List _). b ≡ sum_by f ys) (sym is) here

pub map_of : {X A : Type 0} (f : X → A) (all rest : List X) (x : X) (a b : List A) → all ≡ x ∷ rest → a ≡ f x ∷ [] → b ≡ a ++ map f rest → b ≡ map f all
map_of f all rest x a b is first others =
    let here : b ≡ map f (x ∷ rest) = others ∙ ap (λ (ys : List _). ys ++ map f rest) first in
    subst (λ (ys : List _). b ≡ map f ys) (sym is) here

pub noted_of : {X : Type 0} (f : X → List Receipt) (all rest : List X) (x : X) (a b : List (ℕ × Entry)) → all ≡ x ∷ rest
    → a ≡ noted (f x) → b ≡ a ++ noted (flat_map f rest) → b ≡ noted (flat_map f all)
noted_of f all rest x a b is first others =
    let split : noted (flat_map f (x ∷ rest)) ≡ noted (f x) ++ noted (flat_map f rest) =
    ap (λ (rs : List Receipt). noted rs) (flat_map-cons f x rest) ∙ map-append (λ (r : Receipt). (r.lb, r.entry)) (f x) (flat_map f rest) in
    let here : b ≡ noted (flat_map f (x ∷ rest)) = others ∙ ap (λ (ys : List (ℕ × Entry)). ys ++ noted (flat_map f rest)) first ∙ sym split in
    subst (λ (ys : List _). b ≡ noted (flat_map f ys)) (sym is) here

pub all_of : {X : Type 0} (P : X → Type 0) (all rest : List X) (x : X) (Old New : Type 0) → all ≡ x ∷ rest → (Old ↔ P x) → (New ↔ (Old × All P rest)) → (New ↔ All P all)
all_of P all rest x Old New is first others = (
  (λ now.
      let both : Old × All P rest = others.0 now in
      subst (λ (ys : List _). All P ys) (sym is) (All-cons P x rest (first.0 both.0) both.1)),
  (λ every.
      let parts : All P (x ∷ rest) = subst (λ (ys : List _). All P ys) is every in
      others.1 (first.1 (parts 0 x (omega arith)), All-tail P x rest parts)),
)

-- Nothing is said of a value where there is none.
pub if_refused : {T E : Type 0} (r : Result T E) (Q : E → Type 0) (P : T → Type 0) → IsErrAnd r Q → IfOk r P
if_refused (Ok x) Q P refused = absurd refused
if_refused (Err e) Q P refused = tt
