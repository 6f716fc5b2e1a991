-- Bytes that don't decide what a call answers, and walks that stay within the inbox.
use Rattle.std.proofs.Common.{◌≡◌, ℕ, ◌+◌, ◌≤◌, ◌<◌, Bool, true, false, List, [], ◌∷◌, ◌++◌, Option, Some, length, inl, inr, sym, ap, subst, ◌∙◌, arith, append-nil, length-take}
use Rattle.std.proofs.lemmas.Bool.{cases_Bool, false≢true, or_from, or_parts, and_left, and_right, lt-leb}
use Rattle.http_front.specs.Body.{Uses, is_over, data_from, place_behind}
use Rattle.http_front.specs.Places.{is_whole, is_bad, is_limited}
use Rattle.http_front.specs.Walks.{Fails, Breaks, IsUnder}
use Rattle.http_front.specs.Wants.{Want, Next, Rest, is_met, wanted, is_too_long, is_settled, settles}
use Rattle.http_front.specs.declared.fault.BodyFault.TheVariants as fault
use Rattle.http_front.specs.declared.place.Place.{Place}
use Rattle.http_front.proofs.BodyLemmas.{data_from-append}

-- the data is not enough, as long as the body isn't whole
abbrev pub Lacks : Want → List ℕ → Type 0
Lacks (Next n) data' = length data' < n
Lacks Rest data' = Unit {0}

-- the body's own bytes bring their data up to the place after them
used-data : (gone : List ℕ) (start place : Place) (data' : List ℕ) → place_behind gone start ≡ Some place → (data_from gone start).bytes ≡ data'
    → data_from gone start ≡ record { bytes = data'; whole = is_whole place; bad = is_bad place }
used-data gone start place data' own brings =
    ap (λ (l : List ℕ). data_from l start) (sym (append-nil gone))
    ∙ data_from-append gone [] start place own
    ∙ ap (λ (l : List ℕ). record { bytes = l; whole = is_whole place; bad = is_bad place }) (append-nil (data_from gone start).bytes ∙ brings)

unmet : (want : Want) (data' : List ℕ) (whole bad : Bool) → Lacks want data' → whole ≡ false → is_met want (record { bytes = data'; whole = whole; bad = bad }) ≡ false
unmet (Next n) data' whole bad few none = or_from _ _ (lt-leb n (length data') few) none
unmet Rest data' whole bad few none = none

wanted-short : (want : Want) (data' : List ℕ) → length (wanted want data') ≤ length data'
wanted-short (Next n) data' = omega (arith, length-take n data')
wanted-short Rest data' = omega arith

below : (want : Want) (start : Place) (most taken : ℕ) (data' : List ℕ) (whole bad : Bool) → IsUnder most taken start data'
    → is_too_long want start most taken (record { bytes = data'; whole = whole; bad = bad }) ≡ false
below want start most taken data' whole bad under =
    elim (cases_Bool (is_limited start)) [
      | inl limited ↦ and_right _ _ (lt-leb most (taken + length (wanted want data')) (omega (arith, under limited, wanted-short want data')))
      | inr free ↦ and_left _ _ free
    ]

-- such bytes decide nothing
undecided : (want : Want) (most taken : ℕ) (gone : List ℕ) (start place : Place) (data' : List ℕ) → place_behind gone start ≡ Some place → (data_from gone start).bytes ≡ data'
    → is_over place ≡ false → Lacks want data' → IsUnder most taken start data' → settles want start most taken gone ≡ false
undecided want most taken gone start place data' own brings open_end lacks under =
    let parts = or_parts (is_whole place) (is_bad place) open_end in
    ap (is_settled want start most taken) (used-data gone start place data' own brings)
    ∙ or_from _ _ (unmet want data' (is_whole place) (is_bad place) lacks parts.0) (or_from _ _ parts.1 (below want start most taken data' (is_whole place) (is_bad place) under))

-- a read that failed was needed
pub fails-awaited : (most taken n : ℕ) (before now : Option (List ℕ)) (start : Place) (fails : Fails most taken n before now start fault.Fault)
    → settles (Next n) start most taken fails.breaks.uses.gone ≡ false
fails-awaited most taken n before now start fails =
    undecided (Next n) most taken fails.breaks.uses.gone start fails.breaks.place fails.breaks.data' fails.breaks.uses.own fails.breaks.uses.brings fails.breaks.meets fails.below fails.breaks.stays

pub breaks-awaited : (most taken : ℕ) (before now : Option (List ℕ)) (start : Place) (breaks : Breaks most taken before now start fault.Fault)
    → settles Rest start most taken breaks.uses.gone ≡ false
breaks-awaited most taken before now start breaks =
    undecided Rest most taken breaks.uses.gone start breaks.place breaks.data' breaks.uses.own breaks.uses.brings breaks.meets tt breaks.stays

-- where the inbox decided, and the walk stayed within it, bytes are left in it
pub some-left : (want : Want) (most taken : ℕ) (first inbox : List ℕ) (start place : Place) (data' : List ℕ) → Uses (Some first) (Some inbox) start place data'
    → is_over place ≡ false → Lacks want data' → IsUnder most taken start data' → settles want start most taken first ≡ true → 0 < length inbox
some-left want most taken first (b ∷ inbox) start place data' uses open_end lacks under decided = omega arith
some-left want most taken first [] start place data' uses open_end lacks under decided =
    let used = uses.used in
    let same : first ≡ uses.gone ++ [] = cc in
    let all : uses.gone ≡ first = sym (same ∙ append-nil uses.gone) in
    let P : List ℕ → Type 0 = λ l. settles want start most taken l ≡ false in
    absurd (false≢true (sym (subst P all (undecided want most taken uses.gone start place data' uses.own uses.brings open_end lacks under)) ∙ decided))
