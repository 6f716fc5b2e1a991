-- The lists of members, line by line, and what holds of a list and of its names, each once.
use Rattle.std.proofs.Common.{◌≡◌, ◌≢◌, ℕ, ◌+◌, ◌<◌, Bool, true, false, List, [], ◌∷◌, ◌++◌, All, length, map, take, get_or, set, Option, Some, None, refl, sym, ◌∙◌, ap, subst, cond, ◌||◌, append-nil, eq-eqb, inl, inr, ⊎_elim, zero, suc}
use Rattle.std.proofs.lemmas.Bool.{cases_eq, false≢true, ne_eqb}
use Rattle.std.proofs.lemmas.Grind.{flat_map-append}
use Rattle.std.proofs.lemmas.List.{length-map, length-set, take_more}
use Rattle.std.proofs.lemmas.List.Elements.{All-get_or, filter-append}
use Rattle.std.proofs.lemmas.Option.{same_Some, none-some, slice_get_within, slice_get-get_or, get_or_from_slice_get}
use Rattle.std.proofs.lemmas.Slice.Eq.{bytes_eq-Decides}
use Rattle.std.proofs.Math.Bool.{and-true}
use Rattle.std.specs.List.{flat_map, slice_get}
use Rattle.std.specs.Option.{IfSome}
use Rattle.std.specs.Str.{bytes_eq}
use Rattle.site_config.specs.declared.property.Property.{Property}
use Rattle.site_config.specs.declared.directive.Directive.TheVariants as directive
use Rattle.site_config.specs.Directives.{name_of, worker_part}
use Rattle.site_config.specs.declared.error.PropsRefusal.{PropsRefusal}
use Rattle.site_workers.specs.declared.listing.Listing as declared
use Rattle.site_workers.specs.Given.{concerns, gives, is_given, names_both, names_worker}
use Rattle.site_workers.specs.Lists.{Listing, drop_name, firsts, listings_of, members_in, name_part, own_members}
use Rattle.site_workers.specs.Listings.{as_listings}
use Rattle.site_workers.specs.MemberLists.{AddsLine, HaveLines, HaveMembers, is_number}
use Rattle.site_workers.specs.Numbers.{number_of}
use Rattle.site_workers.specs.Site.{Each, FirstBad}
use Rattle.site_workers.proofs.RowLemmas.{number_of-named, number_of-same}

-- the members of one line more
own_members-snoc : (ps : List Property) (p : Property) (name : List ℕ) → own_members (ps ++ p ∷ []) name ≡ own_members ps name ++ cond (gives name directive.BalanceWorkers p) (listings_of p) []
own_members-snoc ps p name = rw (filter-append, flat_map-append) (ap (λ (ls : List Listing). own_members ps name ++ ls) (by_test (gives name directive.BalanceWorkers p)))
  where
    by_test : (t : Bool) → flat_map listings_of (cond t (p ∷ []) []) ≡ cond t (listings_of p) []
    by_test true = append-nil (listings_of p)
    by_test false = refl

-- a key that gives members lists them for the worker of the key's name alone
same_number : (owner name : List ℕ) (names : List (List ℕ)) (i : ℕ) → number_of name names ≡ Some i → bytes_eq owner name ≡ is_number i (number_of owner names)
same_number owner name names i num = by_test (bytes_eq owner name) refl
  where
    apart : bytes_eq owner name ≡ false → (o : Option ℕ) → number_of owner names ≡ o → false ≡ is_number i o
    apart differs None found = refl
    apart differs (Some j) found = sym (ne_eqb i j (λ same. false≢true (sym differs ∙ (bytes_eq-Decides owner name).1 (number_of-same owner name names j found (subst (λ (k : ℕ). number_of name names ≡ Some k) same num)))))

    by_test : (t : Bool) → bytes_eq owner name ≡ t → t ≡ is_number i (number_of owner names)
    by_test true same =
        let one : owner ≡ name = (bytes_eq-Decides owner name).0 same in
        rw (one, num) (sym (eq-eqb i i refl))
    by_test false differs = apart differs (number_of owner names) refl

pub gives_number : (key : Option (List ℕ × List ℕ)) (owner text : List ℕ) (name : List ℕ) (names : List (List ℕ)) (i : ℕ) → Some (owner, text) ≡ key → bytes_eq text (name_of directive.BalanceWorkers) ≡ true → number_of name names ≡ Some i
    → names_both name (name_of directive.BalanceWorkers) key ≡ is_number i (number_of owner names)
gives_number key owner text name names i is lists num =
    subst (λ (o : Option (List ℕ × List ℕ)). names_both name (name_of directive.BalanceWorkers) o ≡ is_number i (number_of owner names)) is
    (rw lists (and-true (bytes_eq owner name) ∙ same_number owner name names i num))

-- one list in the place of another
got_here : {X : Type 0} (xs : List X) (k : ℕ) (x y : X) → slice_get (set xs k y) k ≡ Some x → x ≡ y
got_here [] k x y e = absurd (none-some x e)
got_here (z ∷ xs) zero x y e = sym (same_Some y x e)
got_here (z ∷ xs) (suc k) x y e = got_here xs k x y e

got_there : {X : Type 0} (xs : List X) (k j : ℕ) (y : X) → j ≢ k → slice_get (set xs k y) j ≡ slice_get xs j
got_there [] k j y other = refl
got_there (z ∷ xs) zero zero y other = absurd (other refl)
got_there (z ∷ xs) zero (suc j) y other = refl
got_there (z ∷ xs) (suc k) zero y other = refl
got_there (z ∷ xs) (suc k) (suc j) y other = got_there xs k j y (λ e. other (ap suc e))

-- the list of the line's worker has its names more
pub adds_here : (names : List (List ℕ)) (p : Property) (old : List (List declared.Listing)) (k : ℕ) (before new : List declared.Listing) → slice_get old k ≡ Some before
    → ((name : List ℕ) (i : ℕ) → number_of name names ≡ Some i → gives name directive.BalanceWorkers p ≡ is_number i (Some k))
    → as_listings new ≡ as_listings before ++ listings_of p → AddsLine names p old (set old k new)
adds_here names p old k before new at whose more = record {
  count = length-set old k new;
  each = λ name i list num got. ⊎_elim
      (λ (same : i ≡ k).
      let one : list ≡ new = got_here old k list new (subst (λ (j : ℕ). slice_get (set old k new) j ≡ Some list) same got) in
      let mine : gives name directive.BalanceWorkers p ≡ true = whose name i num ∙ eq-eqb i k same in
      (before, subst (λ (j : ℕ). slice_get old j ≡ Some before) (sym same) at, rw (mine, one) more))
      (λ (other : i ≢ k).
      let none : gives name directive.BalanceWorkers p ≡ false = whose name i num ∙ ne_eqb i k other in
      (list, sym (got_there old k i new other) ∙ got, rw none (sym (append-nil (as_listings list)))))
      (cases_eq i k);
}

-- a line that lists nobody's members adds nothing
pub adds_none : (names : List (List ℕ)) (p : Property) (lists : List (List declared.Listing))
    → ((name : List ℕ) (i : ℕ) → number_of name names ≡ Some i → gives name directive.BalanceWorkers p ≡ is_number i None) → AddsLine names p lists lists
adds_none names p lists none = record {
  count = refl;
  each = λ name i list num got. (list, got, rw (none name i num) (sym (append-nil (as_listings list))));
}

-- a name's number is within the names
pub number_within : (name : List ℕ) (names : List (List ℕ)) (o : Option ℕ) → o ≡ number_of name names → IfSome o (λ i. i < length names)
number_within name names None e = tt
number_within name names (Some i) e = slice_get_within names i name (number_of-named name names i (sym e))

pub listed_at : (lists : List (List declared.Listing)) (k : ℕ) (list : List declared.Listing) → k < length lists → list ≡ get_or lists k list → slice_get lists k ≡ Some list
listed_at lists k list within is = slice_get-get_or lists k list within ∙ ap (λ (l : List declared.Listing). Some l) (sym is)

-- before any line
pub no_lines : (names : List (List ℕ)) (lists : List (List declared.Listing)) → length lists ≡ length names → All (λ list. list ≡ []) lists → HaveLines [] names lists
no_lines names lists count empty = record {
  count = count;
  each = λ name i list num got.
      let at : get_or lists i list ≡ list = get_or_from_slice_get lists i list list got in
      let none : list ≡ [] = sym at ∙ All-get_or (λ (l : List declared.Listing). l ≡ []) lists i list (slice_get_within lists i list got) empty in
      ap as_listings none;
}

-- after a line more
pub lines_step : (ps : List Property) (k : ℕ) (p : Property) (names : List (List ℕ)) (old new : List (List declared.Listing)) → k < length ps → p ≡ get_or ps k p → HaveLines (take k ps) names old → AddsLine names p old new → HaveLines (take (k + 1) ps) names new
lines_step ps k p names old new within is have adds = record {
  count = adds.count ∙ have.count;
  each = λ name i list num got.
      let more : take (k + 1) ps ≡ take k ps ++ p ∷ [] = take_more ps k p within ∙ ap (λ (x : Property). take k ps ++ x ∷ []) (sym is) in
      let before = adds.each name i list num got in
      rw (more, own_members-snoc, ← have.each name i before.0 num before.1) before.2;
}

-- each list with each name once
once_at : (old new : List (List declared.Listing)) (i : ℕ) (list : List declared.Listing) → map as_listings new ≡ map (λ (l : List declared.Listing). firsts (as_listings l)) old → slice_get new i ≡ Some list
    → (before : List declared.Listing) × (slice_get old i ≡ Some before) × (as_listings list ≡ firsts (as_listings before))
once_at old [] i list same got = absurd (none-some list got)
once_at [] (n ∷ new) i list same got = cc
once_at (o ∷ old) (n ∷ new) zero list same got =
    let here : n ≡ list = same_Some n list got in
    let head : as_listings n ≡ firsts (as_listings o) = cc in
    (o, refl, ap as_listings (sym here) ∙ head)
once_at (o ∷ old) (n ∷ new) (suc i) list same got =
    let rest : map as_listings new ≡ map (λ (l : List declared.Listing). firsts (as_listings l)) old = cc in
    once_at old new i list rest got

pub once_each : (ps : List Property) (names : List (List ℕ)) (old new : List (List declared.Listing)) → HaveLines ps names old → map as_listings new ≡ map (λ (l : List declared.Listing). firsts (as_listings l)) old → HaveMembers ps names new
once_each ps names old new have same = record {
  count = sym (length-map new as_listings) ∙ ap length same ∙ length-map old _ ∙ have.count;
  each = λ name i list num got.
      let before = once_at old new i list same got in
      before.2 ∙ ap firsts (have.each name i before.0 num before.1);
}

-- a worker without a directive lists nobody
gives_none : (name : List ℕ) (o : Option (List ℕ × List ℕ)) → names_worker name o ≡ false → names_both name (name_of directive.BalanceWorkers) o ≡ false
gives_none name None e = refl
gives_none name (Some parts) e = rw e refl

both_false : (a b : Bool) → (a || b) ≡ false → (a ≡ false) × (b ≡ false)
both_false true b e = absurd (false≢true (sym e))
both_false false b e = (refl, e)

pub none_given : (ps : List Property) (name : List ℕ) → is_given ps name ≡ false → own_members ps name ≡ []
none_given [] name e = refl
none_given (p ∷ ps) name e =
    let parts = both_false (concerns name p) (is_given ps name) e in
    rw (gives_none name (worker_part p.key) parts.0) (none_given ps name parts.1)

-- the members in force, by the line that gives them
pub in_force_are : (ps : List Property) (given : Option Property) (p : Property) (owner : List ℕ) (ms : List Listing) → Some p ≡ given → owner ≡ name_part (worker_part p.key) → ms ≡ firsts (own_members ps owner) → ms ≡ firsts (members_in ps given)
in_force_are ps given p owner ms is named are =
    subst (λ (o : Option Property). ms ≡ firsts (members_in ps o)) is (subst (λ (n : List ℕ). ms ≡ firsts (own_members ps n)) named are)

-- what holds of the names of a list's first places holds of all its names
each_undrop : (fine : List ℕ → Type 0) (name : List ℕ) (ls : List Listing) → fine name → Each (λ l. fine l.name) (drop_name name ls) → Each (λ l. fine l.name) ls
each_undrop fine name [] f e = tt
each_undrop fine name (l ∷ ls) f e = by_test (bytes_eq l.name name) refl (each_undrop fine name ls f) e
  where
    by_test : (t : Bool) → bytes_eq l.name name ≡ t → (Each (λ l. fine l.name) (drop_name name ls) → Each (λ l. fine l.name) ls) → Each (λ l. fine l.name) (cond t (drop_name name ls) (l ∷ drop_name name ls)) → fine l.name × Each (λ l. fine l.name) ls
    by_test true same rest e = (subst fine (sym ((bytes_eq-Decides l.name name).0 same)) f, rest e)
    by_test false other rest e = (e.0, rest e.1)

each_unfirst : (fine : List ℕ → Type 0) (ls : List Listing) → Each (λ l. fine l.name) (firsts ls) → Each (λ l. fine l.name) ls
each_unfirst fine [] e = tt
each_unfirst fine (l ∷ ls) e = (e.0, each_unfirst fine ls (each_undrop fine l.name (firsts ls) e.0 e.1))

pub each_listed : (fine : List ℕ → Type 0) (ms ls : List Listing) → ms ≡ firsts ls → Each (λ l. fine l.name) ms → Each (λ l. fine l.name) ls
each_listed fine ms ls are e = each_unfirst fine ls (subst (λ (xs : List Listing). Each (λ l. fine l.name) xs) are e)

-- the first of a list's first places that isn't fine is the first of the list
bad_undrop : (fine : List ℕ → Type 0) (bad : Listing → PropsRefusal → Type 0) (name : List ℕ) (ls : List Listing) (r : PropsRefusal) → fine name → FirstBad (λ l. fine l.name) bad (drop_name name ls) r → FirstBad (λ l. fine l.name) bad ls r
bad_undrop fine bad name [] r f b = b
bad_undrop fine bad name (l ∷ ls) r f b = by_test (bytes_eq l.name name) refl (bad_undrop fine bad name ls r f) b
  where
    by_test : (t : Bool) → bytes_eq l.name name ≡ t → (FirstBad (λ l. fine l.name) bad (drop_name name ls) r → FirstBad (λ l. fine l.name) bad ls r) → FirstBad (λ l. fine l.name) bad (cond t (drop_name name ls) (l ∷ drop_name name ls)) r → FirstBad (λ l. fine l.name) bad (l ∷ ls) r
    by_test true same rest b = inr (subst fine (sym ((bytes_eq-Decides l.name name).0 same)) f, rest b)
    by_test false other rest b = ⊎_elim (λ h. inl h) (λ h. inr (h.0, rest h.1)) b

bad_unfirst : (fine : List ℕ → Type 0) (bad : Listing → PropsRefusal → Type 0) (ls : List Listing) (r : PropsRefusal) → FirstBad (λ l. fine l.name) bad (firsts ls) r → FirstBad (λ l. fine l.name) bad ls r
bad_unfirst fine bad [] r b = b
bad_unfirst fine bad (l ∷ ls) r b = ⊎_elim (λ h. inl h) (λ h. inr (h.0, bad_unfirst fine bad ls r (bad_undrop fine bad l.name (firsts ls) r h.0 h.1))) b

pub bad_listed : (fine : List ℕ → Type 0) (bad : Listing → PropsRefusal → Type 0) (ms ls : List Listing) (r : PropsRefusal) → ms ≡ firsts ls → FirstBad (λ l. fine l.name) bad ms r → FirstBad (λ l. fine l.name) bad ls r
bad_listed fine bad ms ls r are b = bad_unfirst fine bad ls r (subst (λ (xs : List Listing). FirstBad (λ l. fine l.name) bad xs r) are b)
