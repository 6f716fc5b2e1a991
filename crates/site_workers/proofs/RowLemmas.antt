-- The rows of the workers, after one line more.
use Rattle.std.proofs.Common.{◌≡◌, ◌≢◌, ℕ, ◌+◌, ◌<◌, Bool, true, false, List, [], ◌∷◌, ◌++◌, length, take, get_or, set, Option, Some, None, refl, sym, ◌∙◌, ap, subst, cond, suc, zero, arith, ⊎_elim}
use Rattle.std.proofs.lemmas.Bool.{false_from_ne_true, cases_eq}
use Rattle.std.proofs.lemmas.List.{take_more, map-append, get_or-set_same, get_or-set_other, length-set}
use Rattle.std.proofs.lemmas.Option.{same_Some, none-some, slice_get-get_or}
use Rattle.std.proofs.Math.Bool.{and-false}
use Rattle.std.proofs.lemmas.Slice.Eq.{bytes_eq-Decides}
use Rattle.std.specs.Option.{option_map}
use Rattle.std.specs.Str.{bytes_eq}
use Rattle.std.specs.List.{slice_get}
use Rattle.site_config.specs.declared.property.Property.{Property}
use Rattle.site_config.specs.declared.directive.Directive.{Directive}
use Rattle.site_config.specs.declared.property_line.PropertyLine.{PropertyLine}
use Rattle.site_config.specs.Entries.{as_property, as_properties}
use Rattle.site_workers.specs.declared.row.Row.{Row}
use Rattle.site_config.specs.Directives.{name_of, slot_of, directive_of, worker_part}
use Rattle.site_workers.specs.Given.{last_of, last_given, gives, names_both, or_else}
use Rattle.site_workers.specs.Numbers.{number_of}
use Rattle.site_workers.specs.Rows.{place_at, HasLines, HasOwn, AreRows, row_with, adjusted, rows_for, rows_at, rows_after}
use Rattle.site_config.proofs.DirectiveLemmas.{name_of-none, name_of-other, name_of-same, same_slot, slot_of-within}

-- of the lines that pass, the last: the one at the end, if it does
pub last_of-snoc : (passes : Property → Bool) (ps : List Property) (p : Property) → last_of passes (ps ++ p ∷ []) ≡ cond (passes p) (Some p) (last_of passes ps)
last_of-snoc passes [] p = refl
last_of-snoc passes (q ∷ ps) p = rw (last_of-snoc passes ps p) (by_test (passes p))
  where
    by_test : (t : Bool) → or_else (cond t (Some p) (last_of passes ps)) (cond (passes q) (Some q) None) ≡ cond t (Some p) (or_else (last_of passes ps) (cond (passes q) (Some q) None))
    by_test true = refl
    by_test false = refl

last_more : (passes : Property → Bool) (es : List PropertyLine) (i : ℕ) (d : PropertyLine) → i < length es → last_of passes (as_properties (take (i + 1) es)) ≡ cond (passes (as_property (get_or es i d))) (Some (as_property (get_or es i d))) (last_of passes (as_properties (take i es)))
last_more passes es i d h = rw (take_more es i d h, map-append) (last_of-snoc passes (as_properties (take i es)) (as_property (get_or es i d)))

-- the last line so far, after one that passes and after one that doesn't
pub last_put : (passes : Property → Bool) (es : List PropertyLine) (i : ℕ) (d : PropertyLine) → i < length es → passes (as_property (get_or es i d)) ≡ true → Some (as_property (get_or es i d)) ≡ last_of passes (as_properties (take (i + 1) es))
last_put passes es i d h yea = rw (last_more passes es i d h, yea) refl

pub last_kept : (passes : Property → Bool) (es : List PropertyLine) (i : ℕ) (d : PropertyLine) (last : Option Property) → i < length es → passes (as_property (get_or es i d)) ≡ false → last ≡ last_of passes (as_properties (take i es)) → last ≡ last_of passes (as_properties (take (i + 1) es))
last_kept passes es i d last h nay so_far = rw (last_more passes es i d h, nay) so_far

-- a name's place has the name
number_deeper : (o : Option ℕ) (i : ℕ) → option_map suc o ≡ Some i → (j : ℕ) × (o ≡ Some j) × (i ≡ suc j)
number_deeper None i e = absurd (none-some i e)
number_deeper (Some j) i e = (j, refl, sym (same_Some (suc j) i e))

pub number_of-named : (name : List ℕ) (names : List (List ℕ)) (i : ℕ) → number_of name names ≡ Some i → slice_get names i ≡ Some name
number_of-named name [] i e = absurd (none-some i e)
number_of-named name (n ∷ ns) i e = by_test (number_of-named name ns) (bytes_eq n name) refl e
  where
    by_test : ((j : ℕ) → number_of name ns ≡ Some j → slice_get ns j ≡ Some name) → (t : Bool) → bytes_eq n name ≡ t → cond t (Some zero) (option_map suc (number_of name ns)) ≡ Some i → slice_get (n ∷ ns) i ≡ Some name
    by_test rest true yea e = subst (λ (k : ℕ). slice_get (n ∷ ns) k ≡ Some name) (same_Some zero i e) (ap (λ (x : List ℕ). Some x) ((bytes_eq-Decides n name).0 yea))
    by_test rest false nay e =
        let deeper = number_deeper (number_of name ns) i e in
        subst (λ (k : ℕ). slice_get (n ∷ ns) k ≡ Some name) (sym deeper.2) (rest deeper.0 deeper.1)

-- two names of one place are one
pub number_of-same : (a b : List ℕ) (names : List (List ℕ)) (i : ℕ) → number_of a names ≡ Some i → number_of b names ≡ Some i → a ≡ b
number_of-same a b names i ea eb = same_Some a b (sym (number_of-named a names i ea) ∙ number_of-named b names i eb)

pub length-adjusted : (f : Row → Row) (rows : List Row) (i : ℕ) → length (adjusted f rows i) ≡ length rows
length-adjusted f [] i = refl
length-adjusted f (row ∷ rows) zero = refl
length-adjusted f (row ∷ rows) (suc i) = ap suc (length-adjusted f rows i)

pub adjusted_here : (f : Row → Row) (rows : List Row) (i : ℕ) (row : Row) → slice_get (adjusted f rows i) i ≡ Some row → (old : Row) × (slice_get rows i ≡ Some old) × (row ≡ f old)
adjusted_here f [] i row e = absurd (none-some row e)
adjusted_here f (r ∷ rows) zero row e = (r, refl, sym (same_Some (f r) row e))
adjusted_here f (r ∷ rows) (suc i) row e = adjusted_here f rows i row e

pub adjusted_there : (f : Row → Row) (rows : List Row) (i j : ℕ) → j ≢ i → slice_get (adjusted f rows i) j ≡ slice_get rows j
adjusted_there f [] i j h = refl
adjusted_there f (r ∷ rows) zero zero h = absurd (h refl)
adjusted_there f (r ∷ rows) zero (suc j) h = refl
adjusted_there f (r ∷ rows) (suc i) zero h = refl
adjusted_there f (r ∷ rows) (suc i) (suc j) h = adjusted_there f rows i j (λ e. h (ap suc e))

pub adjusted_set : (f : Row → Row) (rows : List Row) (i : ℕ) (d : Row) → i < length rows → set rows i (f (get_or rows i d)) ≡ adjusted f rows i
adjusted_set f [] i d h = refl
adjusted_set f (r ∷ rows) zero d h = refl
adjusted_set f (r ∷ rows) (suc i) d h = ap (λ (rs : List Row). r ∷ rs) (adjusted_set f rows i d (omega arith))

-- a line that gives the worker nothing changes nothing
own_kept : (ps : List Property) (k : ℕ) (p : Property) (name : List ℕ) (row : Row) → take (k + 1) ps ≡ take k ps ++ p ∷ [] → ((d : Directive) → gives name d p ≡ false) → HasOwn ps k name row → HasOwn ps (k + 1) name row
own_kept ps k p name row more none own =
    let built : HasLines ps (last_given (take (k + 1) ps) name) row = record {
      wide = own.0.wide;
      held = own.0.held;
      lines_are = λ d. rw (more, last_of-snoc (gives name d) (take k ps) p, none d) (own.0.lines_are d);
    } in
    (built, own.1)

-- a line that gives the worker a directive is then the last that does
own_put : (ps : List Property) (k : ℕ) (p : Property) (name : List ℕ) (row : Row) (d : Directive) → take (k + 1) ps ≡ take k ps ++ p ∷ [] → slice_get ps k ≡ Some p → gives name d p ≡ true → ((e : Directive) → slot_of e ≢ slot_of d → gives name e p ≡ false) → HasOwn ps k name row → HasOwn ps (k + 1) name (row_with d k row)
own_put ps k p name row d more at yea others own =
    let here : place_at (row_with d k row) d ≡ Some k = get_or-set_same row.places (slot_of d) (Some k) None (rw own.0.wide (slot_of-within d)) in
    let there : (e : Directive) → slot_of e ≢ slot_of d → place_at (row_with d k row) e ≡ place_at row e = λ e other. get_or-set_other row.places (slot_of d) (slot_of e) (Some k) None other in
    let built : HasLines ps (last_given (take (k + 1) ps) name) (row_with d k row) = record {
      wide = length-set row.places (slot_of d) (Some k) ∙ own.0.wide;
      held = λ e. ⊎_elim
          (λ (same : slot_of e ≡ slot_of d). rw (same_slot e d same, here, at) refl)
          (λ (other : slot_of e ≢ slot_of d). rw (there e other) (own.0.held e))
          (cases_eq (slot_of e) (slot_of d));
      lines_are = λ e. ⊎_elim
          (λ (same : slot_of e ≡ slot_of d). rw (same_slot e d same, more, last_of-snoc (gives name d) (take k ps) p, yea, here) at)
          (λ (other : slot_of e ≢ slot_of d). rw (more, last_of-snoc (gives name e) (take k ps) p, others e other, there e other) (own.0.lines_are e))
          (cases_eq (slot_of e) (slot_of d));
    } in
    (built, own.1)

-- a name that isn't the line's
names_other : (name : List ℕ) (parts : List ℕ × List ℕ) (e : Directive) (o : Option (List ℕ × List ℕ)) → o ≡ Some parts → bytes_eq parts.0 name ≡ false → names_both name (name_of e) o ≡ false
names_other name parts e o is other = rw (is, other) refl

names_text : (name : List ℕ) (parts : List ℕ × List ℕ) (e : Directive) (o : Option (List ℕ × List ℕ)) → o ≡ Some parts → bytes_eq parts.1 (name_of e) ≡ false → names_both name (name_of e) o ≡ false
names_text name parts e o is other = rw (is, other) (and-false (bytes_eq parts.0 name))

names_yes : (name : List ℕ) (parts : List ℕ × List ℕ) (e : Directive) (o : Option (List ℕ × List ℕ)) → o ≡ Some parts → bytes_eq parts.0 name ≡ true → bytes_eq parts.1 (name_of e) ≡ true → names_both name (name_of e) o ≡ true
names_yes name parts e o is yea same = rw (is, yea, same) refl

differs : (a b : List ℕ) → a ≢ b → bytes_eq a b ≡ false
differs a b h = false_from_ne_true _ (λ same. h ((bytes_eq-Decides a b).0 same))

equals : (a b : List ℕ) → a ≡ b → bytes_eq a b ≡ true
equals a b h = (bytes_eq-Decides a b).1 h

-- the rows after the line at place k
by_directive : (ps : List Property) (k : ℕ) (p : Property) (names : List (List ℕ)) (rows : List Row) (parts : List ℕ × List ℕ) (i : ℕ) (o : Option Directive) → take (k + 1) ps ≡ take k ps ++ p ∷ [] → slice_get ps k ≡ Some p → worker_part p.key ≡ Some parts → number_of parts.0 names ≡ Some i → directive_of parts.1 ≡ o → AreRows (HasOwn ps k) names rows → AreRows (HasOwn ps (k + 1)) names (rows_for (Some i) o k rows)
by_directive ps k p names rows parts i None more at is num text h = record {
  count = h.count;
  each = λ name j row found got.
      own_kept ps k p name row more (λ e. names_text name parts e (worker_part p.key) is (name_of-none parts.1 e text)) (h.each name j row found got);
}
by_directive ps k p names rows parts i (Some d) more at is num text h = record {
  count = length-adjusted (row_with d k) rows i ∙ h.count;
  each = λ name j row found got.
      ⊎_elim
      (λ (same : j ≡ i).
      let mine : parts.0 ≡ name = number_of-same parts.0 name names i num (subst (λ (x : ℕ). number_of name names ≡ Some x) same found) in
      let here = adjusted_here (row_with d k) rows i row (subst (λ (x : ℕ). slice_get (adjusted (row_with d k) rows i) x ≡ Some row) same got) in
      let old : slice_get rows j ≡ Some here.0 = subst (λ (x : ℕ). slice_get rows x ≡ Some here.0) (sym same) here.1 in
      let put = own_put ps k p name here.0 d more at (names_yes name parts d (worker_part p.key) is (equals parts.0 name mine) (name_of-same parts.1 d text)) (λ e other. names_text name parts e (worker_part p.key) is (name_of-other parts.1 d e text other)) (h.each name j here.0 found old) in
      subst (λ (r : Row). HasOwn ps (k + 1) name r) (sym here.2) put)
      (λ (other : j ≢ i).
      let old : slice_get rows j ≡ Some row = sym (adjusted_there (row_with d k) rows i j other) ∙ got in
      let not_mine : parts.0 ≢ name = λ same. other (same_Some j i (sym found ∙ subst (λ (x : List ℕ). number_of x names ≡ Some i) same num)) in
      own_kept ps k p name row more (λ e. names_other name parts e (worker_part p.key) is (differs parts.0 name not_mine)) (h.each name j row found old))
      (cases_eq j i);
}

by_number : (ps : List Property) (k : ℕ) (p : Property) (names : List (List ℕ)) (rows : List Row) (parts : List ℕ × List ℕ) (n : Option ℕ) → take (k + 1) ps ≡ take k ps ++ p ∷ [] → slice_get ps k ≡ Some p → worker_part p.key ≡ Some parts → number_of parts.0 names ≡ n → AreRows (HasOwn ps k) names rows → AreRows (HasOwn ps (k + 1)) names (rows_for n (directive_of parts.1) k rows)
by_number ps k p names rows parts None more at is num h = record {
  count = h.count;
  each = λ name j row found got.
      let not_mine : parts.0 ≢ name = λ same. none-some j (sym num ∙ subst (λ (x : List ℕ). number_of x names ≡ Some j) (sym same) found) in
      own_kept ps k p name row more (λ e. names_other name parts e (worker_part p.key) is (differs parts.0 name not_mine)) (h.each name j row found got);
}
by_number ps k p names rows parts (Some i) more at is num h = by_directive ps k p names rows parts i (directive_of parts.1) more at is num refl h

names_none : (name : List ℕ) (e : Directive) (o : Option (List ℕ × List ℕ)) → o ≡ None → names_both name (name_of e) o ≡ false
names_none name e o is = rw is refl

by_parts : (ps : List Property) (k : ℕ) (p : Property) (names : List (List ℕ)) (rows : List Row) (o : Option (List ℕ × List ℕ)) → take (k + 1) ps ≡ take k ps ++ p ∷ [] → slice_get ps k ≡ Some p → worker_part p.key ≡ o → AreRows (HasOwn ps k) names rows → AreRows (HasOwn ps (k + 1)) names (rows_at o names k rows)
by_parts ps k p names rows None more at is h = record {
  count = h.count;
  each = λ name j row found got. own_kept ps k p name row more (λ e. names_none name e (worker_part p.key) is) (h.each name j row found got);
}
by_parts ps k p names rows (Some parts) more at is h = by_number ps k p names rows parts (number_of parts.0 names) more at is refl h

pub rows_step : (ps : List Property) (k : ℕ) (p : Property) (names : List (List ℕ)) (rows : List Row) → k < length ps → p ≡ get_or ps k p → AreRows (HasOwn ps k) names rows → AreRows (HasOwn ps (k + 1)) names (rows_after names p k rows)
rows_step ps k p names rows within is h =
    let more : take (k + 1) ps ≡ take k ps ++ p ∷ [] = take_more ps k p within ∙ ap (λ (x : Property). take k ps ++ x ∷ []) (sym is) in
    by_parts ps k p names rows (worker_part p.key) more (slice_get-get_or ps k p within ∙ ap (λ (x : Property). Some x) (sym is)) refl h
