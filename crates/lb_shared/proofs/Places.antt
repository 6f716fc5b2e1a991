-- Places in lists, and the claims of seats by their places.
use Rattle.std.proofs.Common.{◌≡◌, ◌≢◌, ◌⊎◌, ℕ, zero, suc, ◌+◌, List, [], ◌∷◌, ◌++◌, length, map, set, refl, sym, ap, subst, inl, inr, ⊎_elim, arith}
use Rattle.std.specs.List.{All}
use mathlib.Core.Option.{some, some-injective, some-ne-none}
use lib.ListN.{get_elem?}
use Rattle.atomic_table.proofs.Lists.{at_set}
use Rattle.lb_shared.specs.Seats.{Stands}
use Rattle.lb_shared.specs.declared.view.Claim.{Claim}
use Rattle.lb_shared.specs.declared.view.View.{View}

module _ {A : Type 0} where
  pub snoc_place : (l : List A) (a b : A) (j : ℕ) → get_elem? (l ++ a ∷ []) j ≡ some b → (get_elem? l j ≡ some b) ⊎ ((j ≡ length l) × (a ≡ b))
  snoc_place [] a b zero e = inr (refl, some-injective a b e)
  snoc_place [] a b (suc j) e = absurd (some-ne-none b (sym e))
  snoc_place (x ∷ xs) a b zero e = inl e
  snoc_place (x ∷ xs) a b (suc j) e = ⊎_elim (λ t. inl t) (λ t. inr (ap suc t.0, t.1)) (snoc_place xs a b j e)

  pub append_place : (l m : List A) (b : A) (k : ℕ) → get_elem? (l ++ m) k ≡ some b
      → (get_elem? l k ≡ some b) ⊎ ((j : ℕ) × (k ≡ length l + j) × (get_elem? m j ≡ some b))
  append_place [] m b k e = inr (k, omega arith, e)
  append_place (x ∷ xs) m b zero e = inl e
  append_place (x ∷ xs) m b (suc k) e =
      ⊎_elim (λ t. inl t) (λ t. let same : k ≡ length xs + t.0 = t.1 in inr (t.0, omega (arith, same), t.2)) (append_place xs m b k e)

  pub map_place : {B : Type 0} (f : A → B) (l : List A) (k : ℕ) (b : B) → get_elem? (map f l) k ≡ some b → (a : A) × (get_elem? l k ≡ some a) × (b ≡ f a)
  map_place f [] k b e = absurd (some-ne-none b (sym e))
  map_place f (x ∷ xs) zero b e = (x, refl, sym (some-injective (f x) b e))
  map_place f (x ∷ xs) (suc k) b e = map_place f xs k b e

  pub one_place : (a b : A) (k : ℕ) → get_elem? (a ∷ []) k ≡ some b → (k ≡ 0) × (a ≡ b)
  one_place a b zero e = (refl, some-injective a b e)
  one_place a b (suc k) e = absurd (some-ne-none b (sym e))

  pub one_home : (hs : List A) (a : A) → length hs ≡ 1 → set hs 0 a ≡ a ∷ []
  one_home [] a e = absurd (omega arith)
  one_home (x ∷ []) a e = refl
  one_home (x ∷ y ∷ ys) a e = absurd (omega arith)

  pub for_each : (P : A → Type 0) → ((a : A) → P a) → (l : List A) → All P l
  for_each P p l k d lt = p _

module _ {E : Type 0} where
  -- A claim after one view was set, or one was added.
  pub stands_set : (views : List (View E)) (id : ℕ) (w : View E) (i k : ℕ) (v : View E) (c : Claim E) → Stands (set views id w) i k v c
      → ((i ≡ id) × (w ≡ v) × (get_elem? w.claims k ≡ some c)) ⊎ ((i ≢ id) × Stands views i k v c)
  stands_set views id w i k v c st =
      ⊎_elim (λ (t : (i ≡ id) × (w ≡ v)). inl (t.0, t.1, subst (λ (x : View E). get_elem? x.claims k ≡ some c) (sym t.1) st.claim))
      (λ (t : (i ≢ id) × (get_elem? views i ≡ some v)). inr (t.0, record { view = t.1; claim = st.claim }))
      (at_set views id i w v st.view)

  pub stands_snoc : (views : List (View E)) (w : View E) (i k : ℕ) (v : View E) (c : Claim E) → Stands (views ++ w ∷ []) i k v c
      → ((i ≡ length views) × (w ≡ v) × (get_elem? w.claims k ≡ some c)) ⊎ Stands views i k v c
  stands_snoc views w i k v c st =
      ⊎_elim (λ (t : get_elem? views i ≡ some v). inr (record { view = t; claim = st.claim }))
      (λ (t : (i ≡ length views) × (w ≡ v)). inl (t.0, t.1, subst (λ (x : View E). get_elem? x.claims k ≡ some c) (sym t.1) st.claim))
      (snoc_place views w v i st.view)
