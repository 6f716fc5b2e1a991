-- A walk over the data that is told: the piece is its next bytes, and the rest is left.
use Rattle.std.proofs.Common.{◌≡◌, ℕ, ◌+◌, ◌≤◌, ◌<◌, ◌||◌, ◌==◌, Bool, true, false, List, [], ◌∷◌, ◌++◌, Option, Some, None, IfSome, IsTrue, length, take, drop, refl, sym, ap, subst, ◌∙◌, inl, inr, arith, append-nil, length-append, length-take, take_at, drop_at, take_all}
use Rattle.std.proofs.lemmas.Bool.{cond-true, or_left, or_right, or_cases, or_parts, or_from, and_parts, le-leb, lt-leb, leb-true, eqb-true}
use Rattle.std.proofs.lemmas.List.{drop_all}
use Rattle.http_front.specs.Body.{Data, Uses, is_over, behind, ended_at, data_from, place_behind, data_of, reaches, dropped}
use Rattle.http_front.specs.Places.{step, is_whole, is_bad, is_limited}
use Rattle.http_front.specs.Walks.{Walks, Fails, Passes, Breaks, IsUnder, is_reached, counted}
use Rattle.http_front.specs.declared.fault.BodyFault.TheVariants as fault
use Rattle.http_front.specs.declared.place.Place.{Place}
use Rattle.http_front.specs.declared.place.Place.TheVariants as at
use Rattle.http_front.proofs.BodyLemmas.{data_from-append, next-place}

-- where nothing is told before, nothing is told after
untold-data : (before : Option (List ℕ)) (start place : Place) (d : List ℕ) → Uses before None start place d → data_of start before ≡ None
untold-data before start place d uses = ap (data_of start) uses.used

-- the data that is told is what was used, and what is left
told-data : (before : Option (List ℕ)) (ys : List ℕ) (start place : Place) (d : List ℕ) → Uses before (Some ys) start place d → data_of start before ≡ Some (behind d (data_from ys place))
told-data before ys start place d uses =
    ap (data_of start) uses.used
    ∙ ap Some (data_from-append uses.gone ys start place uses.own ∙ ap (λ (l : List ℕ). behind l (data_from ys place)) uses.brings)

-- after the end no data stands
pub over-data : (ys : List ℕ) (place : Place) → is_over place ≡ true → data_from ys place ≡ ended_at place
over-data [] place over = refl
over-data (b ∷ ys) place over = cond-true _ _ _ over

piece-facts : (n : ℕ) (piece : List ℕ) (d : Data) (whole : Bool) → length piece ≤ n → (length piece == n || whole) ≡ true → (whole ≡ true → (d.bytes ≡ []) × (d.whole ≡ true))
    → (piece ≡ take n (piece ++ d.bytes)) × IsTrue (reaches n (behind piece d))
piece-facts n piece d whole within all end =
    elim (or_cases (length piece == n) whole all) [
      | inl full ↦
          let len : length piece ≡ n = eqb-true _ _ full in
          (sym (take_at piece d.bytes n len), or_left _ _ (le-leb n (length (piece ++ d.bytes)) (omega (arith, len, length-append piece d.bytes))))
      | inr over ↦
          let left = end over in
          let nothing : piece ++ d.bytes ≡ piece = ap (λ (l : List ℕ). piece ++ l) left.0 ∙ append-nil piece in
          (sym (ap (take n) nothing ∙ take_all n piece within), or_right _ _ left.1)
    ]

whole-end : (ys : List ℕ) (place : Place) → is_whole place ≡ true → ((data_from ys place).bytes ≡ []) × ((data_from ys place).whole ≡ true)
whole-end ys place whole =
    let e = over-data ys place (or_left _ _ whole) in
    (ap (λ (d : Data). d.bytes) e, ap (λ (d : Data). d.whole) e ∙ whole)

-- the piece is the first n bytes of the data, or all of it
pub takes-piece : (most taken n : ℕ) (before now : Option (List ℕ)) (start place : Place) (piece : List ℕ) → Walks most taken n before now start place piece
    → IfSome (data_of start before) (λ d. (piece ≡ take n d.bytes) × IsTrue (reaches n d))
takes-piece most taken n before None start place piece walks =
    let P : Option Data → Type 0 = λ o. IfSome o (λ d. (piece ≡ take n d.bytes) × IsTrue (reaches n d)) in
    subst P (sym (untold-data before start place piece walks.uses)) tt
takes-piece most taken n before (Some ys) start place piece walks =
    let P : Option Data → Type 0 = λ o. IfSome o (λ d. (piece ≡ take n d.bytes) × IsTrue (reaches n d)) in
    subst P (sym (told-data before ys start place piece walks.uses)) (piece-facts n piece (data_from ys place) (is_whole place) walks.within walks.all (whole-end ys place))

left-facts : (n : ℕ) (piece : List ℕ) (d : Data) (whole : Bool) → length piece ≤ n → (length piece == n || whole) ≡ true → (whole ≡ true → (d.bytes ≡ []) × (d.whole ≡ true))
    → d.bytes ≡ drop n (piece ++ d.bytes)
left-facts n piece d whole within all end =
    elim (or_cases (length piece == n) whole all) [
      | inl full ↦ sym (drop_at piece d.bytes n (eqb-true _ _ full))
      | inr over ↦
          let left = end over in
          let nothing : piece ++ d.bytes ≡ piece = ap (λ (l : List ℕ). piece ++ l) left.0 ∙ append-nil piece in
          left.0 ∙ sym (ap (drop n) nothing ∙ drop_all n piece within)
    ]

-- what is left is the data after them
pub takes-left : (most taken n : ℕ) (before now : Option (List ℕ)) (start place : Place) (piece : List ℕ) → Walks most taken n before now start place piece → data_of place now ≡ dropped n (data_of start before)
takes-left most taken n before None start place piece walks = sym (ap (dropped n) (untold-data before start place piece walks.uses))
takes-left most taken n before (Some ys) start place piece walks =
    let d = data_from ys place in
    ap (λ (l : List ℕ). Some (record { bytes = l; whole = d.whole; bad = d.bad })) (left-facts n piece d (is_whole place) walks.within walks.all (whole-end ys place))
    ∙ sym (ap (dropped n) (told-data before ys start place piece walks.uses))

under-nil : (most taken : ℕ) (start : Place) (front : List ℕ) → IsUnder most taken start front → IsUnder most taken start (front ++ [])
under-nil most taken start front under limited = omega (arith, under limited, ap (λ (l : List ℕ). length l) (append-nil front))

-- the bytes end within the body
pub ends-short : (most taken n : ℕ) (before now : Option (List ℕ)) (start : Place) → Fails most taken n before now start fault.Truncated
    → IfSome (data_of start before) (λ d. (reaches n d ≡ false) × (d.bad ≡ false) × IsUnder most taken start d.bytes)
ends-short most taken n before None start fails =
    let P : Option Data → Type 0 = λ o. IfSome o (λ d. (reaches n d ≡ false) × (d.bad ≡ false) × IsUnder most taken start d.bytes) in
    subst P (sym (untold-data before start fails.breaks.place fails.breaks.data' fails.breaks.uses)) tt
ends-short most taken n before (Some ys) start fails =
    let place = fails.breaks.place in
    let front = fails.breaks.data' in
    let parts = or_parts (is_whole place) (is_bad place) fails.breaks.meets.0 in
    let none : data_from ys place ≡ ended_at place = ap (λ (l : List ℕ). data_from l place) fails.breaks.meets.1 in
    let P : Option Data → Type 0 = λ o. IfSome o (λ d. (reaches n d ≡ false) × (d.bad ≡ false) × IsUnder most taken start d.bytes) in
    let few : length (front ++ []) < n = omega (arith, fails.below, ap (λ (l : List ℕ). length l) (append-nil front)) in
    subst P (sym (told-data before ys start place front fails.breaks.uses ∙ ap (λ (d : Data). Some (behind front d)) none)) (or_from _ _ (lt-leb n (length (front ++ [])) few) parts.0, parts.1, under-nil most taken start front fails.breaks.stays)

-- a bad chunk line stands in the body
pub breaks-badly : (most taken n : ℕ) (before now : Option (List ℕ)) (start : Place) → Fails most taken n before now start fault.BadChunk
    → IfSome (data_of start before) (λ d. (reaches n d ≡ false) × (d.bad ≡ true) × IsUnder most taken start d.bytes)
breaks-badly most taken n before None start fails =
    let P : Option Data → Type 0 = λ o. IfSome o (λ d. (reaches n d ≡ false) × (d.bad ≡ true) × IsUnder most taken start d.bytes) in
    subst P (sym (untold-data before start fails.breaks.place fails.breaks.data' fails.breaks.uses)) tt
breaks-badly most taken n before (Some ys) start fails =
    let place = fails.breaks.place in
    let front = fails.breaks.data' in
    let none : data_from ys place ≡ ended_at at.Bad = ap (data_from ys) fails.breaks.meets ∙ over-data ys at.Bad refl in
    let P : Option Data → Type 0 = λ o. IfSome o (λ d. (reaches n d ≡ false) × (d.bad ≡ true) × IsUnder most taken start d.bytes) in
    let few : length (front ++ []) < n = omega (arith, fails.below, ap (λ (l : List ℕ). length l) (append-nil front)) in
    subst P (sym (told-data before ys start place front fails.breaks.uses ∙ ap (λ (d : Data). Some (behind front d)) none)) (or_from _ _ (lt-leb n (length (front ++ [])) few) refl, refl, under-nil most taken start front fails.breaks.stays)

-- a chunked body was one from its start
limited-step : (p : Place) (b : ℕ) → is_limited (step p b) ≡ true → is_limited p ≡ true
limited-step (at.Exact n) b e = e
limited-step (at.Digits c s) b e = refl
limited-step (at.Extension s c) b e = refl
limited-step (at.LineFeed s) b e = refl
limited-step (at.Chunk l) b e = refl
limited-step at.DataFeed b e = refl
limited-step (at.Trailer l) b e = refl
limited-step (at.TrailerLine l) b e = refl
limited-step (at.TrailerLineFeed l) b e = refl
limited-step at.TrailerFeed b e = refl
limited-step at.Done b e = e
limited-step at.Bad b e = e

limited-start : (gone : List ℕ) (p q : Place) → place_behind gone p ≡ Some q → is_limited q ≡ true → is_limited p ≡ true
limited-start [] p q e limited = (let same : p ≡ q = cc in ap is_limited same ∙ limited)
limited-start (b ∷ gone) p q e limited = limited-step p b (limited-start gone (step p b) q (next-place b gone p q e).1 limited)

-- the data reaches the limit
pub reaches-limit : (most taken : ℕ) (before now : Option (List ℕ)) (start place : Place) (front : List ℕ) → Uses before now start place front → is_reached place most (counted taken (length front)) ≡ true
    → (is_limited start ≡ true) × (most ≤ taken + length front)
reaches-limit most taken before now start place front uses over =
    let parts = and_parts (is_limited place) _ over in
    (limited-start uses.gone start place uses.own parts.0, omega (arith, leb-true most (counted taken (length front)) parts.1))

pub too-long : (most taken n : ℕ) (before now : Option (List ℕ)) (start : Place) → Fails most taken n before now start fault.TooLong
    → (is_limited start ≡ true) × IfSome (data_of start before) (λ d. most ≤ taken + length (take n d.bytes))
too-long most taken n before None start fails =
    let P : Option Data → Type 0 = λ o. IfSome o (λ d. most ≤ taken + length (take n d.bytes)) in
    ((reaches-limit most taken before None start fails.breaks.place fails.breaks.data' fails.breaks.uses fails.breaks.meets).0, subst P (sym (untold-data before start fails.breaks.place fails.breaks.data' fails.breaks.uses)) tt)
too-long most taken n before (Some ys) start fails =
    let place = fails.breaks.place in
    let front = fails.breaks.data' in
    let limit = reaches-limit most taken before (Some ys) start place front fails.breaks.uses fails.breaks.meets in
    let d = data_from ys place in
    let P : Option Data → Type 0 = λ o. IfSome o (λ x. most ≤ taken + length (take n x.bytes)) in
    (limit.0, subst P (sym (told-data before ys start place front fails.breaks.uses)) (omega (arith, limit.1, fails.below, length-take n (front ++ d.bytes), length-append front d.bytes)))

-- the whole body was passed
pub passes-data : (most taken : ℕ) (before now : Option (List ℕ)) (start place : Place) (sum : ℕ) → Passes most taken before now start place sum
    → IfSome (data_of start before) (λ d. (d.whole ≡ true) × (sum ≡ counted taken (length d.bytes)))
passes-data most taken before None start place sum passes =
    let P : Option Data → Type 0 = λ o. IfSome o (λ d. (d.whole ≡ true) × (sum ≡ counted taken (length d.bytes))) in
    subst P (sym (untold-data before start place passes.data' passes.uses)) tt
passes-data most taken before (Some ys) start place sum passes =
    let left = whole-end ys place passes.whole in
    let P : Option Data → Type 0 = λ o. IfSome o (λ d. (d.whole ≡ true) × (sum ≡ counted taken (length d.bytes))) in
    let same : passes.data' ++ (data_from ys place).bytes ≡ passes.data' = ap (λ (l : List ℕ). passes.data' ++ l) left.0 ∙ append-nil passes.data' in
    subst P (sym (told-data before ys start place passes.data' passes.uses)) (left.1, passes.counts ∙ ap (λ (l : List ℕ). counted taken (length l)) (sym same))

pub skips-short : (most taken : ℕ) (before now : Option (List ℕ)) (start : Place) → Breaks most taken before now start fault.Truncated
    → IfSome (data_of start before) (λ d. (d.whole ≡ false) × (d.bad ≡ false) × IsUnder most taken start d.bytes)
skips-short most taken before None start breaks =
    let P : Option Data → Type 0 = λ o. IfSome o (λ d. (d.whole ≡ false) × (d.bad ≡ false) × IsUnder most taken start d.bytes) in
    subst P (sym (untold-data before start breaks.place breaks.data' breaks.uses)) tt
skips-short most taken before (Some ys) start breaks =
    let parts = or_parts (is_whole breaks.place) (is_bad breaks.place) breaks.meets.0 in
    let none : data_from ys breaks.place ≡ ended_at breaks.place = ap (λ (l : List ℕ). data_from l breaks.place) breaks.meets.1 in
    let P : Option Data → Type 0 = λ o. IfSome o (λ d. (d.whole ≡ false) × (d.bad ≡ false) × IsUnder most taken start d.bytes) in
    subst P (sym (told-data before ys start breaks.place breaks.data' breaks.uses ∙ ap (λ (d : Data). Some (behind breaks.data' d)) none)) (parts.0, parts.1, under-nil most taken start breaks.data' breaks.stays)

pub skips-badly : (most taken : ℕ) (before now : Option (List ℕ)) (start : Place) → Breaks most taken before now start fault.BadChunk
    → IfSome (data_of start before) (λ d. (d.whole ≡ false) × (d.bad ≡ true) × IsUnder most taken start d.bytes)
skips-badly most taken before None start breaks =
    let P : Option Data → Type 0 = λ o. IfSome o (λ d. (d.whole ≡ false) × (d.bad ≡ true) × IsUnder most taken start d.bytes) in
    subst P (sym (untold-data before start breaks.place breaks.data' breaks.uses)) tt
skips-badly most taken before (Some ys) start breaks =
    let none : data_from ys breaks.place ≡ ended_at at.Bad = ap (data_from ys) breaks.meets ∙ over-data ys at.Bad refl in
    let P : Option Data → Type 0 = λ o. IfSome o (λ d. (d.whole ≡ false) × (d.bad ≡ true) × IsUnder most taken start d.bytes) in
    subst P (sym (told-data before ys start breaks.place breaks.data' breaks.uses ∙ ap (λ (d : Data). Some (behind breaks.data' d)) none)) (refl, refl, under-nil most taken start breaks.data' breaks.stays)

pub skips-long : (most taken : ℕ) (before now : Option (List ℕ)) (start : Place) → Breaks most taken before now start fault.TooLong
    → (is_limited start ≡ true) × IfSome (data_of start before) (λ d. most ≤ taken + length d.bytes)
skips-long most taken before None start breaks =
    let P : Option Data → Type 0 = λ o. IfSome o (λ d. most ≤ taken + length d.bytes) in
    ((reaches-limit most taken before None start breaks.place breaks.data' breaks.uses breaks.meets).0, subst P (sym (untold-data before start breaks.place breaks.data' breaks.uses)) tt)
skips-long most taken before (Some ys) start breaks =
    let limit = reaches-limit most taken before (Some ys) start breaks.place breaks.data' breaks.uses breaks.meets in
    let P : Option Data → Type 0 = λ o. IfSome o (λ x. most ≤ taken + length x.bytes) in
    (limit.0, subst P (sym (told-data before ys start breaks.place breaks.data' breaks.uses)) (omega (arith, limit.1, length-append breaks.data' (data_from ys breaks.place).bytes)))
