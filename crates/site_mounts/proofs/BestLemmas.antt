-- The best of a map's rules, found by looking at one after another.
use Rattle.std.proofs.Common.{◌≡◌, ℕ, Bool, true, false, not, ◌||◌, ◌&&◌, List, [], ◌∷◌, ◌++◌, length, Option, Some, None, arith, refl, sym, ◌∙◌, ap, cond, find, append_assoc}
use Rattle.std.proofs.Math.Bool.{and-false}
use Rattle.std.proofs.lemmas.Bool.Decides.{nat_tests}
use Rattle.std.proofs.lemmas.Bool.{and_parts}
use Rattle.std.proofs.lemmas.List.Folds.{list_all-append, find-append}
use Rattle.std.specs.List.{list_all}
use Rattle.site_mounts.specs.declared.rule.Rule.{Rule}
use Rattle.site_mounts.specs.Patterns.{has_wildcard}
use Rattle.site_mounts.specs.Mounts.{mounts, is_longer_or_later, is_before_by, is_before, is_best, best}
use Rattle.site_mounts.specs.Search.{better}

-- whichever goes first, the other doesn't
later_asym : (s n s' n' : ℕ) → is_longer_or_later s n s' n' ≡ true → is_longer_or_later s' n' s n ≡ false
later_asym s n s' n' h = grind (arith, nat_tests)

-- a rule that goes before another goes before all that the other isn't after
later_trans : (s n s' n' s'' n'' : ℕ) → is_longer_or_later s n s' n' ≡ true → is_longer_or_later s'' n'' s' n' ≡ false → is_longer_or_later s n s'' n'' ≡ true
later_trans s n s' n' s'' n'' h k = grind (arith, nat_tests)

by_asym : (w w' : Bool) (s n s' n' : ℕ) → is_before_by w s n w' s' n' ≡ true → is_before_by w' s' n' w s n ≡ false
by_asym false true s n s' n' h = refl
by_asym true false s n s' n' h = cc
by_asym false false s n s' n' h = later_asym s n s' n' h
by_asym true true s n s' n' h = later_asym s n s' n' h

by_trans : (w w' w'' : Bool) (s n s' n' s'' n'' : ℕ) → is_before_by w s n w' s' n' ≡ true → is_before_by w'' s'' n'' w' s' n' ≡ false → is_before_by w s n w'' s'' n'' ≡ true
by_trans false false false s n s' n' s'' n'' h k = later_trans s n s' n' s'' n'' h k
by_trans false false true s n s' n' s'' n'' h k = refl
by_trans false true false s n s' n' s'' n'' h k = cc
by_trans false true true s n s' n' s'' n'' h k = refl
by_trans true false false s n s' n' s'' n'' h k = cc
by_trans true false true s n s' n' s'' n'' h k = cc
by_trans true true false s n s' n' s'' n'' h k = cc
by_trans true true true s n s' n' s'' n'' h k = later_trans s n s' n' s'' n'' h k

before_asym : (q r : Rule) → is_before q r ≡ true → is_before r q ≡ false
before_asym q r h = by_asym (has_wildcard q.pattern) (has_wildcard r.pattern) (length q.pattern) q.line (length r.pattern) r.line h

before_trans : (q r x : Rule) → is_before q r ≡ true → is_before x r ≡ false → is_before q x ≡ true
before_trans q r x h k =
    by_trans (has_wildcard q.pattern) (has_wildcard r.pattern) (has_wildcard x.pattern) (length q.pattern) q.line (length r.pattern) r.line (length x.pattern) x.line h k

-- the rule goes before another one, where that mounts the path
abbrev pub beats : List ℕ → Rule → Rule → Bool
beats path b q = not (mounts path q) || is_before b q

-- another rule doesn't go before this one
abbrev pub leaves : List ℕ → Rule → Rule → Bool
leaves path b q = not (mounts path q && is_before q b)

-- the rule mounts the path, goes before all the rules in front of it that do, and none goes before it
pub record Leads (path : List ℕ) (rules : List Rule) (b : Rule) : Type 0 where
  pub front : List Rule
  pub back : List Rule
  pub parts : rules ≡ front ++ b ∷ back
  pub mounts_it : mounts path b ≡ true
  pub beaten : list_all (beats path b) front ≡ true
  pub left : list_all (leaves path b) back ≡ true

abbrev pub IsBestOf : List ℕ → List Rule → Option Rule → Type 0
IsBestOf path rules None = list_all (λ q. not (mounts path q)) rules ≡ true
IsBestOf path rules (Some b) = Leads path rules b

-- what a test implies holds of all that pass it
weaker : (p q : Rule → Bool) (xs : List Rule) → ((x : Rule) → p x ≡ true → q x ≡ true) → list_all p xs ≡ true → list_all q xs ≡ true
weaker p q [] each h = refl
weaker p q (x ∷ xs) each h =
    let both = and_parts (p x) (list_all p xs) h in
    rw (each x both.0, weaker p q xs each both.1) refl

-- a rule in front of the best one is in front of all that this one was in front of
beats_on : (path : List ℕ) (r b q : Rule) → is_before r b ≡ true → beats path b q ≡ true → beats path r q ≡ true
beats_on path r b q first h = by_test (mounts path q) refl h
  where
    by_test : (t : Bool) → mounts path q ≡ t → (not t || is_before b q) ≡ true → (not t || is_before r q) ≡ true
    by_test false is h = refl
    by_test true is h = before_trans r b q first (before_asym b q h)

leaves_on : (path : List ℕ) (r b q : Rule) → is_before r b ≡ true → leaves path b q ≡ true → beats path r q ≡ true
leaves_on path r b q first h = by_test (mounts path q) (is_before q b) refl h
  where
    by_test : (t before : Bool) → is_before q b ≡ before → not (t && before) ≡ true → (not t || is_before r q) ≡ true
    by_test false before is h = refl
    by_test true false is h = before_trans r b q first is
    by_test true true is h = cc

beats_leaves : (path : List ℕ) (b q : Rule) → beats path b q ≡ true → leaves path b q ≡ true
beats_leaves path b q h = by_test (mounts path q) h
  where
    by_test : (t : Bool) → (not t || is_before b q) ≡ true → not (t && is_before q b) ≡ true
    by_test false h = refl
    by_test true h = rw (before_asym b q h) refl

leaves_itself : (path : List ℕ) (b : Rule) → leaves path b b ≡ true
leaves_itself path b = by_test (is_before b b) refl
  where
    by_test : (t : Bool) → is_before b b ≡ t → not (mounts path b && is_before b b) ≡ true
    by_test false is = rw (is, and-false (mounts path b)) refl
    by_test true is = let no : is_before b b ≡ false = before_asym b b is in cc

leads_first : (path : List ℕ) (rules : List Rule) (r : Rule) → mounts path r ≡ true → list_all (beats path r) rules ≡ true → Leads path (rules ++ r ∷ []) r
leads_first path rules r it h = record {
  front = rules;
  back = [];
  parts = refl;
  mounts_it = it;
  beaten = h;
  left = refl;
}

leads_on : (path : List ℕ) (rules : List Rule) (b r : Rule) → Leads path rules b → leaves path b r ≡ true → Leads path (rules ++ r ∷ []) b
leads_on path rules b r h stays = record {
  front = h.front;
  back = h.back ++ r ∷ [];
  parts = ap (λ (xs : List Rule). xs ++ r ∷ []) h.parts ∙ append_assoc h.front (b ∷ h.back) (r ∷ []);
  mounts_it = h.mounts_it;
  beaten = h.beaten;
  left = rw (list_all-append, h.left, stays) refl;
}

beats_all : (path : List ℕ) (rules : List Rule) (b r : Rule) → Leads path rules b → is_before r b ≡ true → list_all (beats path r) rules ≡ true
beats_all path rules b r h first =
    let front = weaker (beats path b) (beats path r) h.front (λ q. beats_on path r b q first) h.beaten in
    let back = weaker (leaves path b) (beats path r) h.back (λ q. leaves_on path r b q first) h.left in
    rw (h.parts, list_all-append, front, h.mounts_it, first, back) refl

-- one rule more
pub best_step : (path : List ℕ) (rules : List Rule) (o : Option Rule) (r : Rule) → IsBestOf path rules o → IsBestOf path (rules ++ r ∷ []) (better path o r)
best_step path rules None r h = by_test (mounts path r) refl
  where
    by_test : (t : Bool) → mounts path r ≡ t → IsBestOf path (rules ++ r ∷ []) (cond t (Some r) None)
    by_test true it = leads_first path rules r it (weaker (λ q. not (mounts path q)) (beats path r) rules (λ q n. rw n refl) h)
    by_test false not_it = rw (list_all-append, h, not_it) refl
best_step path rules (Some b) r h = by_test (is_before r b) (mounts path r) refl refl
  where
    by_test : (t it : Bool) → is_before r b ≡ t → mounts path r ≡ it → IsBestOf path (rules ++ r ∷ []) (cond (t && it) (Some r) (Some b))
    by_test true true first it = leads_first path rules r it (beats_all path rules b r h first)
    by_test true false first it = leads_on path rules b r h (rw it refl)
    by_test false it later mounts_it = leads_on path rules b r h (rw (later, and-false (mounts path r)) refl)

-- nothing is found where nothing passes
find_none : (p q : Rule → Bool) (xs : List Rule) → ((x : Rule) → q x ≡ true → p x ≡ false) → list_all q xs ≡ true → find p xs ≡ None
find_none p q [] each h = refl
find_none p q (x ∷ xs) each h =
    let both = and_parts (q x) (list_all q xs) h in
    rw (each x both.0, find_none p q xs each both.1) refl

-- a rule that the best one goes before is not the best
beaten_not_best : (path : List ℕ) (rules : List Rule) (b x : Rule) → Leads path rules b → beats path b x ≡ true → is_best rules path x ≡ false
beaten_not_best path rules b x h beaten = by_test (mounts path x) beaten
  where
    by_test : (t : Bool) → (not t || is_before b x) ≡ true → (t && list_all (λ q. not (mounts path q && is_before q x)) rules) ≡ false
    by_test false first = refl
    by_test true first =
        rw (h.parts, list_all-append, h.mounts_it, first) (and-false (list_all (λ q. not (mounts path q && is_before q x)) h.front))

leader_best : (path : List ℕ) (rules : List Rule) (b : Rule) → Leads path rules b → is_best rules path b ≡ true
leader_best path rules b h =
    let front = weaker (beats path b) (leaves path b) h.front (λ q. beats_leaves path b q) h.beaten in
    let all : list_all (leaves path b) rules ≡ true = rw (h.parts, list_all-append, front, leaves_itself path b, h.left) refl in
    rw (h.mounts_it, all) refl

-- the best of all rules
pub best_found : (path : List ℕ) (rules : List Rule) (o : Option Rule) → IsBestOf path rules o → o ≡ best rules path
best_found path rules None h =
    sym (find_none (is_best rules path) (λ q. not (mounts path q)) rules (λ x n. none x n) h)
  where
    none : (x : Rule) → not (mounts path x) ≡ true → is_best rules path x ≡ false
    none x n = by_test (mounts path x) n
      where
        by_test : (t : Bool) → not t ≡ true → (t && list_all (λ q. not (mounts path q && is_before q x)) rules) ≡ false
        by_test false n = refl
        by_test true n = cc
best_found path rules (Some b) h =
    let front = find_none (is_best rules path) (beats path b) h.front (λ x. beaten_not_best path rules b x h) h.beaten in
    let here : find (is_best rules path) (h.front ++ b ∷ h.back) ≡ Some b = rw (find-append, front, leader_best path rules b h) refl in
    sym (ap (λ (xs : List Rule). find (is_best rules path) xs) h.parts ∙ here)
