-- The lightest of a set, one member further; and what halvings and a new weight make of the weights that are kept.
use Rattle.std.proofs.Common.{◌≡◌, ℕ, zero, suc, ◌+◌, ◌-◌, ◌<◌, ◌≤◌, true, false, List, [], ◌∷◌, length, Option, None, Some, get_or, set, replicate, map, take, drop, ◌++◌, refl, sym, ap, subst, ◌∙◌, arith, below_more}
use Rattle.std.proofs.Math.Nat.{div-one}
use Rattle.std.proofs.lemmas.Bool.{true≢false}
use Rattle.std.proofs.lemmas.List.{get_or-map, length-map, map-set}
use Rattle.std.proofs.lemmas.List.Elements.{All-cons, All-head, All-nil, All-replicate, All-set, All-tail}
use Rattle.lb_model.specs.Choice.{begin_after, place_from}
use Rattle.lb_model.specs.Free.{is_in}
use Rattle.lb_model.specs.Loads.{halved}
use Rattle.lb_model.proofs.TicketLaws.{halved-twice}
use Rattle.lb_rules.specs.Kept.{AreStamped, settled, weight_now, weights_now}
use Rattle.lb_rules.specs.Weights.{IsLeastOfSet, IsLightest, is_lighter, lightens, no_weights, weight_halved, weights_halved}
use Rattle.lb_rules.specs.declared.weight.Weight.{Weight}
use Rattle.lb_rules.specs.declared.weight.KeptWeight.{KeptWeight}
use Rattle.lb_rules.proofs.LeastLaws.{before-self, before-trans}

module _ (weights : List Weight) (d : Weight) (set begin n : ℕ) where
  lighter-self : (j : ℕ) → is_lighter weights d begin j j ≡ false
  lighter-self j = before-self (get_or weights j d).distance (get_or weights j d).load (place_from (length weights) begin j)

  lighter-trans : (i j k : ℕ) → is_lighter weights d begin j k ≡ true → is_lighter weights d begin i k ≡ false
      → is_lighter weights d begin i j ≡ false
  lighter-trans i j k =
      before-trans (get_or weights i d).distance (get_or weights i d).load (place_from (length weights) begin i)
      (get_or weights j d).distance (get_or weights j d).load (place_from (length weights) begin j)
      (get_or weights k d).distance (get_or weights k d).load (place_from (length weights) begin k)

  -- Member n isn't in the set.
  pub lightest_skip : (best : Option ℕ) → IsLightest weights d set begin n best → is_in set n ≡ false
      → IsLightest weights d set begin (n + 1) best
  lightest_skip None h out = below_more (λ k. is_in set k ≡ false) n h out
  lightest_skip (Some b) h out = record {
    within = omega (arith, h.within);
    passes = h.passes;
    first = λ j lt is.
        below_more (λ k. is_in set k ≡ true → is_lighter weights d begin k b ≡ false) n h.first
        (λ is. absurd (true≢false (sym is ∙ out))) j lt is;
  }

  -- Member n doesn't go before the best.
  pub lightest_keep : (best : Option ℕ) → IsLightest weights d set begin n best → lightens weights d begin n best ≡ false
      → IsLightest weights d set begin (n + 1) best
  lightest_keep None h worse = absurd (true≢false worse)
  lightest_keep (Some b) h worse = record {
    within = omega (arith, h.within);
    passes = h.passes;
    first = λ j lt is.
        below_more (λ k. is_in set k ≡ true → is_lighter weights d begin k b ≡ false) n h.first (λ is. worse) j lt is;
  }

  -- Member n is the new best.
  pub lightest_take : (best : Option ℕ) → IsLightest weights d set begin n best → is_in set n ≡ true
      → lightens weights d begin n best ≡ true → IsLightest weights d set begin (n + 1) (Some n)
  lightest_take None h here better = record {
    within = omega arith;
    passes = here;
    first = λ j lt is.
        below_more (λ k. is_in set k ≡ true → is_lighter weights d begin k n ≡ false) n
        (λ k klt is. absurd (true≢false (sym is ∙ h k klt))) (λ is. lighter-self n) j lt is;
  }
  lightest_take (Some b) h here better = record {
    within = omega arith;
    passes = here;
    first = λ j lt is.
        below_more (λ k. is_in set k ≡ true → is_lighter weights d begin k n ≡ false) n
        (λ k klt is. lighter-trans k n b better (h.first k klt is)) (λ is. lighter-self n) j lt is;
  }

-- The stamp of a weight that is kept.
abbrev IsStamped : (halvings : ℕ) → KeptWeight → Type 0
IsStamped halvings one = one.stamp ≤ halvings

later_sum : (halvings stamp times : ℕ) → stamp ≤ halvings → halvings + times - stamp ≡ halvings - stamp + times
later_sum halvings stamp times le = omega (arith, le)

more_load : (one : KeptWeight) (halvings times : ℕ) → one.stamp ≤ halvings
    → halved one.load (halvings + times - one.stamp) ≡ halved (halved one.load (halvings - one.stamp)) times
more_load one halvings times le =
    ap (λ (k : ℕ). halved one.load k) (later_sum halvings one.stamp times le)
    ∙ sym (halved-twice one.load (halvings - one.stamp) times)

more_one : (one : KeptWeight) (halvings times : ℕ) → one.stamp ≤ halvings
    → weight_now (halvings + times) one ≡ weight_halved times (weight_now halvings one)
more_one one halvings times le =
    ap (λ (x : ℕ). record { distance = one.distance; load = x }) (more_load one halvings times le)

-- More halvings than the stamps know of are halvings of the present loads.
pub more_halvings : (kept : List KeptWeight) (halvings times : ℕ) → AreStamped halvings kept
    → weights_now (halvings + times) kept ≡ weights_halved times (weights_now halvings kept)
more_halvings [] halvings times stamped = refl
more_halvings (one ∷ rest) halvings times stamped =
    rw (
      more_one one halvings times (All-head (IsStamped halvings) one rest stamped),
      more_halvings rest halvings times (All-tail (IsStamped halvings) one rest stamped),
    ) refl

settled_one : (one : KeptWeight) (halvings times : ℕ)
    → weight_now times (settled halvings one) ≡ weight_halved times (weight_now halvings one)
settled_one one halvings times =
    let whole : times - 0 ≡ times = omega arith in
    ap (λ (k : ℕ). record { distance = one.distance; load = halved (halved one.load (halvings - one.stamp)) k }) whole

-- Weights that were brought up to date are halved from a count that begins anew.
pub settled_halvings : (kept : List KeptWeight) (halvings times : ℕ)
    → weights_now times (map (settled halvings) kept) ≡ weights_halved times (weights_now halvings kept)
settled_halvings [] halvings times = refl
settled_halvings (one ∷ rest) halvings times =
    rw (settled_one one halvings times, settled_halvings rest halvings times) refl

-- The stamps of what was brought up to date.
pub settled_stamps : (kept : List KeptWeight) (halvings times : ℕ) → AreStamped times (map (settled halvings) kept)
settled_stamps [] halvings times = All-nil (IsStamped times)
settled_stamps (one ∷ rest) halvings times =
    All-cons (IsStamped times) (settled halvings one) (map (settled halvings) rest) (omega arith) (settled_stamps rest halvings times)

-- A stamp that doesn't lie ahead doesn't later on.
pub stamps_later : (kept : List KeptWeight) (halvings later : ℕ) → halvings ≤ later → AreStamped halvings kept → AreStamped later kept
stamps_later kept halvings later le stamped = λ i d within. omega (arith, le, stamped i d within)

-- A weight that was just put is as it was given.
pub put_now : (kept : List KeptWeight) (halvings m distance load : ℕ)
    → weights_now halvings (set kept m (record { distance = distance; load = load; stamp = halvings }))
    ≡ set (weights_now halvings kept) m (record { distance = distance; load = load })
put_now kept halvings m distance load =
    let none : halvings - halvings ≡ 0 = omega arith in
    let same : weight_now halvings (record { distance = distance; load = load; stamp = halvings })
    ≡ record { distance = distance; load = load } =
    rw none (ap (λ (x : ℕ). record { distance = distance; load = x }) (div-one load)) in
    map-set (weight_now halvings) kept m (record { distance = distance; load = load; stamp = halvings })
    ∙ ap (λ (w : Weight). set (weights_now halvings kept) m w) same

map-replicate : {A : Type 0} {B : Type 0} (f : A → B) (n : ℕ) (x : A) → map f (replicate n x) ≡ replicate n (f x)
map-replicate {B = B} f zero x = refl
map-replicate {B = B} f (suc n) x = ap (λ (ys : List B). f x ∷ ys) (map-replicate f n x)

-- Nothing but zeros is a list of no weights.
pub none_now : (n : ℕ) → weights_now 0 (replicate n (record { distance = 0; load = 0; stamp = 0 })) ≡ no_weights n
none_now n = map-replicate (weight_now 0) n (record { distance = 0; load = 0; stamp = 0 })

pub none_stamped : (n : ℕ) → AreStamped 0 (replicate n (record { distance = 0; load = 0; stamp = 0 }))
none_stamped n = All-replicate (IsStamped 0) n (record { distance = 0; load = 0; stamp = 0 }) (omega arith)

-- The best of the first n of more members is one of them.
pub best_within : (weights : List Weight) (d : Weight) (set begin n count : ℕ) (best : Option ℕ) → IsLightest weights d set begin n best
    → n < count → (b : ℕ) → best ≡ Some b → b < count
best_within weights d set begin n count None h lt b is = cc
best_within weights d set begin n count (Some k) h lt b is =
    let same : k ≡ b = cc in omega (arith, h.within, lt, same)

pub weights_length : (halvings : ℕ) (kept : List KeptWeight) → length (weights_now halvings kept) ≡ length kept
weights_length halvings kept = length-map kept (weight_now halvings)

pub weight_read : (kept : List KeptWeight) (halvings i : ℕ) (d : Weight) (e : KeptWeight) → i < length kept
    → get_or (weights_now halvings kept) i d ≡ weight_now halvings (get_or kept i e)
weight_read kept halvings i d e within = get_or-map (weight_now halvings) kept i e d within

-- A weight that was just put has the stamp of now.
pub put_stamped : (kept : List KeptWeight) (halvings m distance load : ℕ) → AreStamped halvings kept
    → AreStamped halvings (set kept m (record { distance = distance; load = load; stamp = halvings }))
put_stamped kept halvings m distance load stamped =
    All-set (IsStamped halvings) kept m (record { distance = distance; load = load; stamp = halvings }) (omega arith) stamped

-- One weight more is brought up to date.
settled_next : (f : KeptWeight → KeptWeight) (xs : List KeptWeight) (i : ℕ) (d y : KeptWeight) → i < length xs
    → y ≡ f (get_or (map f (take i xs) ++ drop i xs) i d)
    → set (map f (take i xs) ++ drop i xs) i y ≡ map f (take (suc i) xs) ++ drop (suc i) xs
settled_next f [] i d y h e = absurd (omega (arith, h))
settled_next f (x ∷ xs) zero d y h e = ap (λ z. z ∷ xs) e
settled_next f (x ∷ xs) (suc i) d y h e = ap (λ rest. f x ∷ rest) (settled_next f xs i d y (omega (arith, h)) e)

pub settled_more : (f : KeptWeight → KeptWeight) (xs now : List KeptWeight) (i : ℕ) (d y : KeptWeight) → i < length xs
    → now ≡ map f (take i xs) ++ drop i xs → y ≡ f (get_or now i d) → set now i y ≡ map f (take (i + 1) xs) ++ drop (i + 1) xs
settled_more f xs now i d y h same e =
    let next : i + 1 ≡ suc i = omega arith in
    rw (same, next) (settled_next f xs i d y h (rw same at e))

-- The lightest of all is the least of the set.
pub least_of : (kept : List KeptWeight) (halvings : ℕ) (d : Weight) (members : ℕ) (after found : Option ℕ)
    → IsLightest (weights_now halvings kept) d members (begin_after after) (length kept) found
    → IsLeastOfSet (weights_now halvings kept) d members after found
least_of kept halvings d members after found h =
    subst (λ (n : ℕ). IsLightest (weights_now halvings kept) d members (begin_after after) n found) (sym (weights_length halvings kept)) h
