-- Views of all callers after one of them changed, and places in the queue: shared by all steps.
use Rattle.std.proofs.Common.{◌≡◌, ◌≢◌, ◌⊎◌, ℕ, zero, suc, ◌<◌, ◌≤◌, Bool, true, false, eqb, ne_eqb, List, [], ◌∷◌, ◌++◌, length, drop, set, refl, sym, ap, ◌∙◌, subst, inl, inr, ⊎_elim, arith, length-append}
use Rattle.std.specs.Prelude.{◌||◌}
use Rattle.std.specs.List.{AllByRecursion, IsDistinct, list_any}
use Rattle.std.proofs.lemmas.Bool.{cases_Bool}
use Rattle.std.proofs.lemmas.Bool.Decides.{nat_tests}
use Rattle.std.proofs.lemmas.Map.Keys.{IsDistinct-cons}
use Rattle.std.proofs.lemmas.Map.Steps.{length-le_from_distinct_below}
use mathlib.Core.Option.{some, some-injective, some-ne-none}
use lib.ListN.{get_elem?}
use Rattle.atomic_table.proofs.Lists.{at_set}
use Rattle.lb_model.specs.declared.journal.Entry.{Entry}
use Rattle.lb_passes.specs.Turns.{Carries, SlotFits}
use Rattle.lb_passes.specs.declared.pass_view.Origin.{Origin}
use Rattle.lb_passes.specs.declared.pass_view.PassView.{PassView}

-- A fact of each view after the one at `id` became w.
pub all_set : (P : ℕ → PassView → Type 0) (views : List PassView) (id : ℕ) (w : PassView) → P id w
    → ((j : ℕ) (u : PassView) → j ≢ id → get_elem? views j ≡ some u → P j u)
    → (j : ℕ) (u : PassView) → get_elem? (set views id w) j ≡ some u → P j u
all_set P views id w mine others j u at =
    ⊎_elim (λ (here : (j ≡ id) × (w ≡ u)). subst (λ (k : ℕ). P k u) (sym here.0) (subst (λ (x : PassView). P id x) here.1 mine))
    (λ (else : (j ≢ id) × (get_elem? views j ≡ some u)). others j u else.0 else.1)
    (at_set views id j w u at)

-- No number is carried by two of these.
abbrev pub AreAlone : List PassView → Type 0
AreAlone views =
    (i j n : ℕ) (u v : PassView) (es fs : List Entry) → get_elem? views i ≡ some u → get_elem? views j ≡ some v
    → Carries u.owns n es → Carries v.owns n fs → i ≡ j

-- A view that carries a number stood at this place and carried it.
pub record WasThere (views : List PassView) (j n : ℕ) : Type 0 where
  pub view : PassView
  pub own : List Entry
  pub at : get_elem? views j ≡ some view
  pub carried : Carries view.owns n own

was_there : (views : List PassView) (id : ℕ) (v w : PassView) → get_elem? views id ≡ some v
    → ((n : ℕ) (es : List Entry) → Carries w.owns n es → (fs : List Entry) × Carries v.owns n fs)
    → (j n : ℕ) (u : PassView) (es : List Entry) → get_elem? (set views id w) j ≡ some u → Carries u.owns n es → WasThere views j n
was_there views id v w at same j n u es there carried =
    all_set (λ (k : ℕ) (x : PassView). Carries x.owns n es → WasThere views k n) views id w
    (λ (c : Carries w.owns n es). let f = same n es c in record { view = v; own = f.0; at = at; carried = f.1 })
    (λ (k : ℕ) (x : PassView) other found (c : Carries x.owns n es). record { view = x; own = es; at = found; carried = c })
    j u there carried

pub alone_set : (views : List PassView) (id : ℕ) (v w : PassView) → get_elem? views id ≡ some v
    → ((n : ℕ) (es : List Entry) → Carries w.owns n es → (fs : List Entry) × Carries v.owns n fs) → AreAlone views → AreAlone (set views id w)
alone_set views id v w at same alone i j n a b es fs here there mine theirs =
    let first = was_there views id v w at same i n a es here mine in
    let second = was_there views id v w at same j n b fs there theirs in
    alone i j n first.view second.view first.own second.own first.at second.at first.carried second.carried

-- Lists of a single caller's entries.
pub carries_one : (n : ℕ) (es : List Entry) → Carries ((n, es) ∷ []) n es
carries_one n es = record { place = 0; found = refl }

pub one_carried : (n m : ℕ) (es fs : List Entry) → Carries ((n, es) ∷ []) m fs → (m ≡ n) × (fs ≡ es)
one_carried n m es fs c = one_at n m es fs c.place c.found
  where
    one_at : (n m : ℕ) (es fs : List Entry) (k : ℕ) → get_elem? {A = ℕ × List Entry} ((n, es) ∷ []) k ≡ some (m, fs) → (m ≡ n) × (fs ≡ es)
    one_at n m es fs zero is = let same = some-injective (n, es) (m, fs) is in (sym (ap (λ (x : ℕ × List Entry). x.0) same), sym (ap (λ (x : ℕ × List Entry). x.1) same))
    one_at n m es fs (suc k) is = absurd (some-ne-none (m, fs) (sym is))

pub none_carried : {X : Type 0} (n : ℕ) (es : List Entry) → Carries [] n es → X
none_carried n es c = absurd (some-ne-none (n, es) (sym c.found))

-- Places in a list.
pub at_within : {A : Type 0} (xs : List A) (k : ℕ) (x : A) → get_elem? xs k ≡ some x → k < length xs
at_within [] k x at = absurd (some-ne-none x (sym at))
at_within (y ∷ ys) zero x at = omega arith
at_within (y ∷ ys) (suc k) x at = let lt : k < length ys = at_within ys k x at in omega arith

pub at_end : {A : Type 0} (xs : List A) (y x : A) (k : ℕ) → get_elem? (xs ++ y ∷ []) k ≡ some x
    → (get_elem? xs k ≡ some x) ⊎ ((k ≡ length xs) × (y ≡ x))
at_end [] y x zero at = inr (refl, some-injective y x at)
at_end [] y x (suc k) at = absurd (some-ne-none x (sym at))
at_end (z ∷ zs) y x zero at = inl at
at_end (z ∷ zs) y x (suc k) at =
    ⊎_elim (λ (old : get_elem? zs k ≡ some x). inl old) (λ (new : (k ≡ length zs) × (y ≡ x)). inr (ap suc new.0, new.1)) (at_end zs y x k at)

pub at_dropped : {A : Type 0} (xs : List A) (k : ℕ) (x : A) → get_elem? (drop 1 xs) k ≡ some x → get_elem? xs (suc k) ≡ some x
at_dropped [] k x at = absurd (some-ne-none x (sym at))
at_dropped (y ∷ ys) k x at = at

pub dropped_at : {A : Type 0} (xs : List A) (k : ℕ) (x : A) → get_elem? xs (suc k) ≡ some x → get_elem? (drop 1 xs) k ≡ some x
dropped_at [] k x at = absurd (some-ne-none x (sym at))
dropped_at (y ∷ ys) k x at = at

-- A queue of distinct numbers below n is no longer than n.
pub few_waiting : (xs : List ℕ) (n : ℕ) → ((k x : ℕ) → get_elem? xs k ≡ some x → x < n)
    → ((j k x : ℕ) → get_elem? xs j ≡ some x → get_elem? xs k ≡ some x → j ≡ k) → length xs ≤ n
unfolding IsDistinct
few_waiting xs n below apart = length-le_from_distinct_below xs n (distinct xs apart) (λ q is. let at = place q xs is in below at.0 q at.1)
  where
    place : (q : ℕ) (xs : List ℕ) → list_any (eqb q) xs ≡ true → (k : ℕ) × (get_elem? xs k ≡ some q)
    place q [] is = absurd cc
    place q (x ∷ xs) is =
        elim (cases_Bool (eqb q x)) [
          | inl this ↦ (0, let same : x ≡ q = grind (arith, nat_tests) in ap some same)
          | inr other ↦ let rest = place q xs (sym (ap (λ (b : Bool). b || list_any (eqb q) xs) other) ∙ is) in (suc rest.0, rest.1)
        ]

    unlike : (x : ℕ) (ys : List ℕ) → ((k : ℕ) → get_elem? ys k ≡ some x → ⊥) → AllByRecursion (λ (y : ℕ). eqb x y ≡ false) ys
    unlike x [] not_in = tt
    unlike x (y ∷ ys) not_in = (ne_eqb x y (λ same. not_in 0 (ap some (sym same))), unlike x ys (λ k at. not_in (suc k) at))

    distinct : (xs : List ℕ) → ((j k x : ℕ) → get_elem? xs j ≡ some x → get_elem? xs k ≡ some x → j ≡ k) → IsDistinct eqb xs
    distinct [] apart = tt
    distinct (x ∷ xs) apart =
        IsDistinct-cons eqb x xs (unlike x xs (λ k at. let no : suc k ≡ 0 = apart (suc k) 0 x at refl in absurd (omega arith)))
        (distinct xs (λ j k y first second. let same : suc j ≡ suc k = apart (suc j) (suc k) y first second in omega arith))

-- The slot, whatever the history, where the Book is out, and with a longer queue.
pub slot_out : (o : Origin) (waiting : List ℕ) (log more : List Entry) (homes : List _) (out : Bool) → out ≡ true
    → SlotFits o waiting log homes out → SlotFits o waiting more homes out
slot_out o waiting log more homes true is fits = fits
slot_out o waiting log more homes false is fits = absurd cc

pub slot_longer : (o : Origin) (waiting : List ℕ) (n : ℕ) (log : List Entry) (homes : List _) (out : Bool)
    → SlotFits o waiting log homes out → SlotFits o (waiting ++ n ∷ []) log homes out
slot_longer o waiting n log homes true fits = (fits.0, let some : 0 < length waiting = fits.1 in omega (arith, length-append waiting (n ∷ [])))
slot_longer o waiting n log homes false fits = fits

pub slot_free : (o : Origin) (waiting : List ℕ) (log : List Entry) (homes : List _) (out : Bool)
    → SlotFits o waiting log homes out → length waiting ≡ 0 → out ≡ false
slot_free o waiting log homes true fits none = absurd (let some : 0 < length waiting = fits.1 in omega arith)
slot_free o waiting log homes false fits none = refl
