-- Walks along references: their steps, their ends, and the rows on the way back.
use Rattle.std.proofs.Common.{◌≡◌, ◌≢◌, ℕ, ◌<◌, Bool, true, false, List, [], ◌∷◌, ◌++◌, length, take, get_or, Option, Some, None, refl, sym, ◌∙◌, ap, subst, cond, suc, zero, arith, ⊎_elim, ◌&&◌, map, reverse, Bor}
use Rattle.std.proofs.lemmas.Bool.{false_from_ne_true, cases_eq, false≢true}
use Rattle.std.proofs.lemmas.Option.{same_Some, none-some, slice_get-get_or, slice_get_within}
use Rattle.std.proofs.Math.Bool.{and-false}
use Rattle.std.proofs.lemmas.Slice.Eq.{bytes_eq-Decides}
use Rattle.std.specs.Option.{is_some}
use Rattle.std.proofs.lemmas.List.{map-append, reverse-append, take_all}
use Rattle.std.specs.Str.{bytes_eq}
use Rattle.std.specs.List.{slice_get}
use Rattle.site_config.specs.declared.property.Property.{Property}
use Rattle.site_config.specs.declared.directive.Directive.TheVariants as directive
use Rattle.site_workers.specs.declared.row.Row.{Row}
use Rattle.site_workers.specs.declared.row.Progress.{Progress}
use Rattle.site_workers.specs.declared.row.Progress.TheVariants as progress
use Rattle.site_workers.specs.Given.{last_given, in_force, is_given, is_among, target_at, target_in, target_name, not_passed, Walks, BreaksAt, or_else}
use Rattle.site_workers.specs.Numbers.{number_of}
use Rattle.site_workers.specs.Table.{IsNameOfGiven}
use Rattle.site_workers.specs.Rows.{place_at, picked, property_at, HasLines, HasOwn, HasForce, AreRows, adjusted}
use Rattle.site_workers.specs.Ways.{was_passed, was_settled, is_own, is_passed, is_whole, fresh_in, passed_row, IsOnWay, AreOnWay, IsAt, EndsWell, LeadsOn, IsWay, row_of_target, Inherits, is_open, is_open_number, is_open_row}
use Rattle.site_workers.proofs.RowLemmas.{number_of-same, number_of-named, adjusted_here, adjusted_there, length-adjusted}

equals : (a b : List ℕ) → a ≡ b → bytes_eq a b ≡ true
equals a b h = (bytes_eq-Decides a b).1 h

differs : (a b : List ℕ) → a ≢ b → bytes_eq a b ≡ false
differs a b h = false_from_ne_true _ (λ same. h ((bytes_eq-Decides a b).0 same))

-- a name is among those that it was put before
among_here : (name : List ℕ) (past : List (List ℕ)) → is_among name (name ∷ past) ≡ true
among_here name past = rw (equals name name refl) refl

among_there : (name other : List ℕ) (past : List (List ℕ)) → other ≢ name → is_among name (other ∷ past) ≡ is_among name past
among_there name other past h = rw (differs other name h) refl

-- a worker with a directive has a number
some_number : (o : Option ℕ) → is_some o ≡ true → (i : ℕ) × (o ≡ Some i)
some_number None e = absurd (false≢true e)
some_number (Some i) e = (i, refl)

pub number_given : (ps : List Property) (names : List (List ℕ)) (name : List ℕ) (i : ℕ) → IsNameOfGiven ps names → number_of name names ≡ Some i → is_given ps name ≡ true
number_given ps names name i known e = sym (known name) ∙ ap is_some e

pub number_none : (ps : List Property) (names : List (List ℕ)) (name : List ℕ) → IsNameOfGiven ps names → number_of name names ≡ None → is_given ps name ≡ false
number_none ps names name known e = sym (known name) ∙ ap is_some e

-- a row that was passed isn't whole
passed_not_whole : (p : Progress) → was_passed p ≡ true → was_settled p ≡ false
passed_not_whole progress.Own e = refl
passed_not_whole progress.Passed e = refl
passed_not_whole progress.Whole e = absurd (false≢true e)

neither_is_own : (p : Progress) → was_passed p ≡ false → was_settled p ≡ false → is_own p ≡ true
neither_is_own progress.Own e h = refl
neither_is_own progress.Passed e h = absurd (false≢true (sym e))
neither_is_own progress.Whole e h = absurd (false≢true (sym h))

whole_not_passed : (p : Progress) → was_settled p ≡ true → was_passed p ≡ false
whole_not_passed progress.Own e = absurd (false≢true e)
whole_not_passed progress.Passed e = absurd (false≢true e)
whole_not_passed progress.Whole e = refl

pub fresh_less : (rows : List Row) (i : ℕ) (row : Row) → slice_get rows i ≡ Some row → is_own row.progress ≡ true → fresh_in (adjusted passed_row rows i) < fresh_in rows
fresh_less [] i row e own = absurd (none-some row e)
fresh_less (r ∷ rows) zero row e own =
    let mine : is_own r.progress ≡ true = ap (λ (x : Row). is_own x.progress) (same_Some r row e) ∙ own in
    rw mine (omega arith)
fresh_less (r ∷ rows) (suc i) row e own = omega (arith, fresh_less rows i row e own)

-- a walk passes the worker at which it stands
pub way_passed : (ps : List Property) (names : List (List ℕ)) (rows : List Row) (past : List (List ℕ)) (name : List ℕ) (i : ℕ) (row : Row) → AreOnWay ps past names rows → number_of name names ≡ Some i → slice_get rows i ≡ Some row → is_whole row ≡ false → AreOnWay ps (name ∷ past) names (adjusted passed_row rows i)
way_passed ps names rows past name i row h num got unsettled = record {
  count = length-adjusted passed_row rows i ∙ h.count;
  each = λ n j r found gotten.
      ⊎_elim
      (λ (same : j ≡ i).
      let here = adjusted_here passed_row rows i r (subst (λ (x : ℕ). slice_get (adjusted passed_row rows i) x ≡ Some r) same gotten) in
      let one : n ≡ name = number_of-same n name names i (subst (λ (x : ℕ). number_of n names ≡ Some x) same found) num in
      let old : here.0 ≡ row = same_Some here.0 row (sym here.1 ∙ got) in
      let was = h.each name i row num got in
      let built : IsOnWay ps (name ∷ past) name (passed_row row) = record {
        own = λ e. record { wide = (was.own unsettled).wide; held = (was.own unsettled).held; lines_are = (was.own unsettled).lines_are };
        whole = λ e. absurd (false≢true e);
        passed = sym (among_here name past);
      } in
      let at_name : IsOnWay ps (name ∷ past) n (passed_row row) = subst (λ (x : List ℕ). IsOnWay ps (name ∷ past) x (passed_row row)) (sym one) built in
      subst (λ (x : Row). IsOnWay ps (name ∷ past) n x) (sym (here.2 ∙ ap passed_row old)) at_name)
      (λ (other : j ≢ i).
      let kept = h.each n j r found (sym (adjusted_there passed_row rows i j other) ∙ gotten) in
      let apart : name ≢ n = λ same. other (same_Some j i (sym found ∙ subst (λ (x : List ℕ). number_of x names ≡ Some i) same num)) in
      let built : IsOnWay ps (name ∷ past) n r = record {
        own = kept.own;
        whole = kept.whole;
        passed = kept.passed ∙ sym (among_there n name past apart);
      } in built)
      (cases_eq j i);
}

-- where the walk stands, the reference is the worker's own
pub at_lines : (ps : List Property) (start : List ℕ) (names : List (List ℕ)) (rows : List Row) (past : List (List ℕ)) (name : List ℕ) (i : ℕ) (row : Row) → IsAt ps start names rows past name → number_of name names ≡ Some i → slice_get rows i ≡ Some row → is_whole row ≡ false → property_at ps row directive.Reference ≡ last_given ps name directive.Reference
at_lines ps start names rows past name i row h num got unsettled = (((h.rows_are).each name i row num got).own unsettled).lines_are directive.Reference

pub at_own : (ps : List Property) (start : List ℕ) (names : List (List ℕ)) (rows : List Row) (past : List (List ℕ)) (name : List ℕ) (i : ℕ) (row : Row) → IsAt ps start names rows past name → number_of name names ≡ Some i → slice_get rows i ≡ Some row → is_whole row ≡ false → is_own row.progress ≡ true
at_own ps start names rows past name i row h num got unsettled = neither_is_own row.progress (((h.rows_are).each name i row num got).passed ∙ h.fresh) unsettled

open_parts : (ps : List Property) (names : List (List ℕ)) (rows : List Row) (past : List (List ℕ)) (t : List ℕ) (o : Option ℕ) (r : Option Row) → AreOnWay ps past names rows → number_of t names ≡ o → is_open_number o rows ≡ true → (j : ℕ) × (number_of t names ≡ Some j) × (is_open_row (slice_get rows j) ≡ true)
open_parts ps names rows past t None r h e yea = absurd (false≢true yea)
open_parts ps names rows past t (Some j) r h e yea = (j, e, yea)

not_among : (ps : List Property) (names : List (List ℕ)) (rows : List Row) (past : List (List ℕ)) (t : List ℕ) (j : ℕ) (o : Option Row) → AreOnWay ps past names rows → number_of t names ≡ Some j → j < length rows → slice_get rows j ≡ o → is_open_row o ≡ true → is_among t past ≡ false
not_among ps names rows past t j None h num within got yea = absurd (none-some (get_or rows j default) (sym got ∙ slice_get-get_or rows j default within))
  where
    default : Row
    default = record { places = []; progress = progress.Own }
not_among ps names rows past t j (Some r) h num within got yea = by_test (is_passed r) refl yea
  where
    by_test : (b : Bool) → is_passed r ≡ b → cond b false true ≡ true → is_among t past ≡ false
    by_test true e y = absurd (false≢true y)
    by_test false e y = sym ((h.each t j r num got).passed) ∙ e

-- the walk goes on
pub at_next : (ps : List Property) (start : List ℕ) (names : List (List ℕ)) (rows : List Row) (past : List (List ℕ)) (name t : List ℕ) (i : ℕ) (row : Row) → IsNameOfGiven ps names → IsAt ps start names rows past name → number_of name names ≡ Some i → slice_get rows i ≡ Some row → is_whole row ≡ false → target_at ps name ≡ Some t → is_open names (adjusted passed_row rows i) t ≡ true → IsAt ps start names (adjusted passed_row rows i) (name ∷ past) t
at_next ps start names rows past name t i row known h num got unsettled leads yea =
    let rows' = way_passed ps names rows past name i row h.rows_are num got unsettled in
    let parts = open_parts ps names (adjusted passed_row rows i) (name ∷ past) t (number_of t names) None rows' refl yea in
    let within : parts.0 < length (adjusted passed_row rows i) = rw rows'.count (slice_get_within names parts.0 t (number_of-named t names parts.0 parts.1)) in
    let fresh : is_among t (name ∷ past) ≡ false = not_among ps names (adjusted passed_row rows i) (name ∷ past) t parts.0 (slice_get (adjusted passed_row rows i) parts.0) rows' parts.1 within refl parts.2 in
    let given : is_given ps t ≡ true = number_given ps names t parts.0 known parts.1 in
    record {
      rows_are = rows';
      walked = (leads, given, fresh, h.walked);
      given = given;
      fresh = fresh;
    }

-- a walk leads on from its start
walks_given : (ps : List Property) (start : List ℕ) (past : List (List ℕ)) (name : List ℕ) → is_given ps start ≡ true → Walks ps start past name → is_given ps name ≡ true
walks_given ps start [] name given w = rw w given
walks_given ps start (before ∷ past) name given w = w.1

walks_fresh : (ps : List Property) (start : List ℕ) (past : List (List ℕ)) (name : List ℕ) → Walks ps start past name → is_among name past ≡ false
walks_fresh ps start [] name w = refl
walks_fresh ps start (before ∷ past) name w = w.2

pub walks_leads : (ps : List Property) (start : List ℕ) (past : List (List ℕ)) (name : List ℕ) → is_given ps start ≡ true → Walks ps start past name → LeadsOn ps start past (Some name)
walks_leads ps start [] name given w = ap (λ (x : List ℕ). Some x) w
walks_leads ps start (before ∷ past) name given w =
    (w.0, walks_given ps start past before given w.3, walks_fresh ps start past before w.3, walks_leads ps start past before given w.3)

-- the way ends at a worker without a reference
pub way_ends : (ps : List Property) (start : List ℕ) (names : List (List ℕ)) (rows : List Row) (past : List (List ℕ)) (name : List ℕ) (i : ℕ) (row : Row) → is_given ps start ≡ true → IsAt ps start names rows past name → number_of name names ≡ Some i → slice_get rows i ≡ Some row → is_whole row ≡ false → property_at ps row directive.Reference ≡ None → IsWay ps start names (adjusted passed_row rows i) (name ∷ past)
way_ends ps start names rows past name i row given h num got unsettled none =
    let no_target : target_at ps name ≡ None = ap target_in (sym (at_lines ps start names rows past name i row h num got unsettled) ∙ none) in
    record {
      rows_are = way_passed ps names rows past name i row h.rows_are num got unsettled;
      next = None;
      leads = (no_target, h.given, h.fresh, walks_leads ps start past name given h.walked);
      ends = tt;
    }

-- the way ends at a worker whose row is whole
pub way_meets : (ps : List Property) (start : List ℕ) (names : List (List ℕ)) (rows : List Row) (past : List (List ℕ)) (name : List ℕ) (i : ℕ) (row : Row) → is_given ps start ≡ true → IsAt ps start names rows past name → number_of name names ≡ Some i → slice_get rows i ≡ Some row → is_whole row ≡ true → IsWay ps start names rows past
way_meets ps start names rows past name i row given h num got whole = record {
  rows_are = h.rows_are;
  next = Some name;
  leads = walks_leads ps start past name given h.walked;
  ends = (i, row, num, got, whole);
}

closed_row : (ps : List Property) (names : List (List ℕ)) (rows : List Row) (past : List (List ℕ)) (t : List ℕ) (j : ℕ) (o : Option Row) → AreOnWay ps past names rows → number_of t names ≡ Some j → slice_get rows j ≡ o → is_open_row o ≡ false → not_passed t past ≡ false
closed_row ps names rows past t j None h num got nay = absurd (false≢true (sym nay))
closed_row ps names rows past t j (Some r) h num got nay = by_test (is_passed r) refl nay
  where
    by_test : (b : Bool) → is_passed r ≡ b → cond b false true ≡ false → not_passed t past ≡ false
    by_test true e n = rw (← (h.each t j r num got).passed, e) refl
    by_test false e n = absurd (false≢true (sym n))

closed_number : (ps : List Property) (names : List (List ℕ)) (rows : List Row) (past : List (List ℕ)) (t : List ℕ) (o : Option ℕ) → IsNameOfGiven ps names → AreOnWay ps past names rows → number_of t names ≡ o → is_open_number o rows ≡ false → (is_given ps t && not_passed t past) ≡ false
closed_number ps names rows past t None known h e nay = rw (number_none ps names t known e) refl
closed_number ps names rows past t (Some j) known h e nay = rw (closed_row ps names rows past t j (slice_get rows j) h e refl nay) (and-false (is_given ps t))

-- the reference leads nowhere
pub way_breaks : (ps : List Property) (start : List ℕ) (names : List (List ℕ)) (rows : List Row) (past : List (List ℕ)) (name : List ℕ) (i : ℕ) (row : Row) (p : Property) → IsNameOfGiven ps names → IsAt ps start names rows past name → number_of name names ≡ Some i → slice_get rows i ≡ Some row → is_whole row ≡ false → property_at ps row directive.Reference ≡ Some p → is_open names (adjusted passed_row rows i) (target_name p) ≡ false → BreaksAt ps start p.line
way_breaks ps start names rows past name i row p known h num got unsettled at nay =
    let rows' = way_passed ps names rows past name i row h.rows_are num got unsettled in
    let last : last_given ps name directive.Reference ≡ Some p = sym (at_lines ps start names rows past name i row h num got unsettled) ∙ at in
    record {
      past = past;
      name = name;
      walked = h.walked;
      reference = p;
      last = last;
      at_line = refl;
      target = target_name p;
      names = ap target_in last;
      bad = closed_number ps names (adjusted passed_row rows i) (name ∷ past) (target_name p) (number_of (target_name p) names) known rows' refl nay;
    }

-- the lines of a row without a target are those in force
own_force : (ps : List Property) (name : List ℕ) (row new : Row) → target_at ps name ≡ None → HasLines ps (last_given ps name) row → Inherits row None new → HasForce ps name new
own_force ps name row new none own h = (
  [],
  none,
  record {
    wide = h.wide;
    held = λ d. rw (h.places_are d) (own.held d);
    lines_are = λ d. rw (h.places_are d) (own.lines_are d);
  },
)

some_or : (ps : List Property) (k : ℕ) (o : Option Property) (mine other : Option Property) → slice_get ps k ≡ o → true ≡ is_some o → o ≡ mine → o ≡ or_else mine other
some_or ps k None mine other at held same = absurd (false≢true (sym held))
some_or ps k (Some p) mine other at held same = rw (← same) refl

-- a place of the row's own, else the target's
place_held : (ps : List Property) (own from : Option ℕ) → is_some own ≡ is_some (picked ps own) → is_some from ≡ is_some (picked ps from) → is_some (or_else own from) ≡ is_some (picked ps (or_else own from))
place_held ps None from h k = k
place_held ps (Some p) from h k = h

place_lines : (ps : List Property) (own from : Option ℕ) (mine theirs : Option Property) → is_some own ≡ is_some (picked ps own) → picked ps own ≡ mine → picked ps from ≡ theirs → picked ps (or_else own from) ≡ or_else mine theirs
place_lines ps None from mine theirs h m t = rw (← m) t
place_lines ps (Some k) from mine theirs h m t = some_or ps k (slice_get ps k) mine theirs refl h m

target_force : (ps : List Property) (name t : List ℕ) (row from new : Row) → target_at ps name ≡ Some t → is_given ps t ≡ true → HasLines ps (last_given ps name) row → HasForce ps t from → Inherits row (Some from) new → HasForce ps name new
target_force ps name t row from new leads given own force h = (
  t ∷ force.0,
  (leads, given, force.1),
  record {
    wide = h.wide;
    held = λ d. rw (h.places_are d) (place_held ps (place_at row d) (place_at from d) (own.held d) (force.2.held d));
    lines_are = λ d. rw (h.places_are d) (place_lines ps (place_at row d) (place_at from d) (last_given ps name d) (in_force ps t force.0 d) (own.held d) (own.lines_are d) (force.2.lines_are d));
  },
)

-- the row of a worker on the way, made whole
way_force : (ps : List Property) (names : List (List ℕ)) (rows : List Row) (past : List (List ℕ)) (name : List ℕ) (row new : Row) (next : Option (List ℕ)) → IsNameOfGiven ps names → AreOnWay ps past names rows → target_at ps name ≡ next → EndsWell names rows next → HasLines ps (last_given ps name) row → Inherits row (row_of_target ps names rows row) new → HasForce ps name new
way_force ps names rows past name row new None known h leads ends own inherits =
    let none : target_in (property_at ps row directive.Reference) ≡ None = ap target_in (own.lines_are directive.Reference) ∙ leads in
    let no_row : row_of_target ps names rows row ≡ None = rw none refl in
    own_force ps name row new leads own (subst (λ (o : Option Row). Inherits row o new) no_row inherits)
way_force ps names rows past name row new (Some t) known h leads ends own inherits =
    let some : target_in (property_at ps row directive.Reference) ≡ Some t = ap target_in (own.lines_are directive.Reference) ∙ leads in
    let its_row : row_of_target ps names rows row ≡ Some ends.1 = rw (some, ends.2, ends.3) refl in
    target_force ps name t row ends.1 new leads (number_given ps names t ends.0 known ends.2) own ((h.each t ends.0 ends.1 ends.2 ends.3).whole ends.4) (subst (λ (o : Option Row). Inherits row o new) its_row inherits)

-- on the way back the newest worker's row is made whole
pub way_back : (ps : List Property) (start : List ℕ) (names : List (List ℕ)) (rows : List Row) (past : List (List ℕ)) (name : List ℕ) (i : ℕ) (row new : Row) → IsNameOfGiven ps names → IsWay ps start names rows (name ∷ past) → number_of name names ≡ Some i → slice_get rows i ≡ Some row → Inherits row (row_of_target ps names rows row) new → IsWay ps start names (adjusted (λ (old : Row). new) rows i) past
way_back ps start names rows past name i row new known h num got inherits =
    let was = (h.rows_are).each name i row num got in
    let unsettled : is_whole row ≡ false = passed_not_whole row.progress (was.passed ∙ among_here name past) in
    let force : HasForce ps name new = way_force ps names rows (name ∷ past) name row new h.next known h.rows_are h.leads.0 h.ends (was.own unsettled) inherits in
    let fresh : is_among name past ≡ false = h.leads.2 in
    record {
      rows_are = record {
        count = length-adjusted (λ (old : Row). new) rows i ∙ (h.rows_are).count;
        each = λ n j r found gotten.
            ⊎_elim
            (λ (same : j ≡ i).
            let here = adjusted_here (λ (old : Row). new) rows i r (subst (λ (x : ℕ). slice_get (adjusted (λ (old : Row). new) rows i) x ≡ Some r) same gotten) in
            let one : n ≡ name = number_of-same n name names i (subst (λ (x : ℕ). number_of n names ≡ Some x) same found) num in
            let built : IsOnWay ps past name new = record {
              own = λ e. absurd (false≢true (sym e ∙ inherits.progress_is));
              whole = λ e. force;
              passed = whole_not_passed new.progress inherits.progress_is ∙ sym fresh;
            } in
            let at_name : IsOnWay ps past n new = subst (λ (x : List ℕ). IsOnWay ps past x new) (sym one) built in
            subst (λ (x : Row). IsOnWay ps past n x) (sym here.2) at_name)
            (λ (other : j ≢ i).
            let kept = (h.rows_are).each n j r found (sym (adjusted_there (λ (old : Row). new) rows i j other) ∙ gotten) in
            let apart : name ≢ n = λ same. other (same_Some j i (sym found ∙ subst (λ (x : List ℕ). number_of x names ≡ Some i) same num)) in
            let built : IsOnWay ps past n r = record {
              own = kept.own;
              whole = kept.whole;
              passed = kept.passed ∙ among_there n name past apart;
            } in built)
            (cases_eq j i);
      };
      next = Some name;
      leads = h.leads.3;
      ends = (i, new, num, set_here rows i row new got, inherits.progress_is);
    }
  where
    set_here : (rows : List Row) (i : ℕ) (row new : Row) → slice_get rows i ≡ Some row → slice_get (adjusted (λ (old : Row). new) rows i) i ≡ Some new
    set_here [] i row new e = absurd (none-some row e)
    set_here (r ∷ rows) zero row new e = refl
    set_here (r ∷ rows) (suc i) row new e = set_here rows i row new e

-- a name's number is that of a row
pub row_within : {A : Type 0} {fits : List ℕ → A → Type 0} (names : List (List ℕ)) (rows : List A) (name : List ℕ) (i : ℕ) → AreRows fits names rows → number_of name names ≡ Some i → i < length rows
row_within names rows name i h num = rw h.count (slice_get_within names i name (number_of-named name names i num))

-- the path after one more
pub path_more : (path : List (Bor (List ℕ))) (at : Bor (List ℕ)) → reverse (map (λ (n : Bor (List ℕ)). n.now) (path ++ at ∷ [])) ≡ at.now ∷ reverse (map (λ (n : Bor (List ℕ)). n.now) path)
path_more path at = rw (map-append, reverse-append) refl

-- before any walk
fresh_row : (ps : List Property) (n : ℕ) (name : List ℕ) (row : Row) → length ps ≡ n → HasOwn ps n name row → IsOnWay ps [] name row
fresh_row ps n name row len h =
    let all : take n ps ≡ ps = take_all n ps (omega arith) in
    let lines : HasLines ps (last_given ps name) row = subst (λ (xs : List Property). HasLines ps (last_given xs name) row) all h.0 in
    let unsettled : is_whole row ≡ false = ap was_settled h.1 in
    record {
      own = λ e. lines;
      whole = λ e. absurd (false≢true (sym unsettled ∙ e));
      passed = ap was_passed h.1;
    }

pub fresh_rows : (ps : List Property) (n : ℕ) (names : List (List ℕ)) (rows : List Row) → length ps ≡ n → AreRows (HasOwn ps n) names rows → AreOnWay ps [] names rows
fresh_rows ps n names rows len h = record {
  count = h.count;
  each = λ name i row num got. fresh_row ps n name row len (h.each name i row num got);
}
