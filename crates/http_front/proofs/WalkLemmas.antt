-- The exits of a walk, over plain values.
use Rattle.std.proofs.Common.{◌≡◌, ◌≢◌, ℕ, zero, suc, ◌+◌, ◌-◌, ◌*◌, ◌≤◌, ◌<◌, ◌&&◌, min, Bool, true, false, List, [], ◌++◌, Option, Some, length, take, inl, inr, refl, sym, ap, subst, ◌∙◌, arith, append-nil, drop, length-append, length-take, length-drop}
use Rattle.std.proofs.lemmas.Bool.{false≢true, leb-false, cases_Bool}
use Rattle.std.proofs.lemmas.List.{length-take-le}
use borrow.Rule.Slice.PartMut.{put_mid, post_of}
use Rattle.jk_io.specs.Told.{prepended, IsEmpty}
use Rattle.http_front.specs.Body.{Uses, is_over}
use Rattle.jk_io.specs.declared.failures.IoError.{IoError}
use Rattle.jk_io.specs.declared.failures.IoError.TheVariants as io
use Rattle.http_front.specs.Falls.{framing_left, exact_left}
use Rattle.http_front.specs.Faults.{fault_of}
use Rattle.http_front.specs.Places.{data_left, data_step, is_bad, is_limited}
use Rattle.http_front.specs.Walks.{Breaks, Fails, IsUnder, is_reached, counted}
use Rattle.http_front.specs.declared.fault.BodyFault.{BodyFault}
use Rattle.http_front.specs.declared.fault.BodyFault.TheVariants as fault
use Rattle.http_front.specs.declared.place.Place.{Place}
use Rattle.http_front.specs.declared.place.Place.TheVariants as at
use Rattle.http_front.proofs.BodyLemmas.{Uses-then, data-run}

-- a count that stayed, and one that stayed and then did not fall
pub kept-count : (now before : ℕ) → now ≡ before → before ≤ now
kept-count now before same = omega arith

pub risen-count : (mid before now : ℕ) → mid ≡ before → mid ≤ now → before ≤ now
risen-count mid before now same risen = omega arith

-- the one bad place
pub bad-place : (p : Place) → is_bad p ≡ true → p ≡ at.Bad
bad-place at.Bad e = refl
bad-place (at.Exact n) e = absurd (false≢true e)
bad-place (at.Digits c s) e = absurd (false≢true e)
bad-place (at.Extension s c) e = absurd (false≢true e)
bad-place (at.LineFeed s) e = absurd (false≢true e)
bad-place (at.Chunk l) e = absurd (false≢true e)
bad-place at.DataFeed e = absurd (false≢true e)
bad-place (at.Trailer l) e = absurd (false≢true e)
bad-place (at.TrailerLine l) e = absurd (false≢true e)
bad-place (at.TrailerLineFeed l) e = absurd (false≢true e)
bad-place at.TrailerFeed e = absurd (false≢true e)
bad-place at.Done e = absurd (false≢true e)

-- after data little framing can stand
pub data-falls : (p : Place) (k : ℕ) → (data_left p ≡ 0 → ⊥) → framing_left (data_step p k) ≤ 33042
data-falls (at.Exact n) k some = omega arith
data-falls (at.Chunk n) k some = chunk-falls (n - k)
  where
    chunk-falls : (m : ℕ) → framing_left (at.Chunk m) ≤ 33042
    chunk-falls zero = omega arith
    chunk-falls (suc m) = omega arith
data-falls (at.Digits c s) k some = absurd (some refl)
data-falls (at.Extension s c) k some = absurd (some refl)
data-falls (at.LineFeed s) k some = absurd (some refl)
data-falls at.DataFeed k some = absurd (some refl)
data-falls (at.Trailer l) k some = absurd (some refl)
data-falls (at.TrailerLine l) k some = absurd (some refl)
data-falls (at.TrailerLineFeed l) k some = absurd (some refl)
data-falls at.TrailerFeed k some = absurd (some refl)
data-falls at.Done k some = absurd (some refl)
data-falls at.Bad k some = absurd (some refl)

-- the same facts when no byte moved
Uses-kept : (before now after : Option (List ℕ)) (p q : Place) (d : List ℕ) → after ≡ now → Uses before now p q d → Uses before after p q d
Uses-kept before now after p q d same uses = (let P : Option (List ℕ) → Type 0 = λ o. Uses before o p q d in subst P (sym same) uses)

-- framing was stepped over
pub uses-framing : (before mid now : Option (List ℕ)) (p q r : Place) (d : List ℕ) → Uses before mid p q d → Uses mid now q r [] → Uses before now p r d
uses-framing before mid now p q r d one two =
    let P : List ℕ → Type 0 = λ l. Uses before now p r l in
    subst P (append-nil d) (Uses-then before mid now p q r d [] one two)

-- the limit was reached
pub fails-long : (most taken sum count : ℕ) (before now : Option (List ℕ)) (start place : Place) (piece : List ℕ) → count ≤ length piece → Uses before now start place (take count piece)
    → sum ≡ counted taken count → is_reached place most sum ≡ true → Fails most taken (length piece) before now start fault.TooLong
fails-long most taken sum count before now start place piece within uses counts over =
    let len : length (take count piece) ≡ count = length-take-le count piece within in
    let reached : is_reached place most (counted taken (length (take count piece))) ≡ is_reached place most sum = ap (λ (n : ℕ). is_reached place most (counted taken n)) len ∙ ap (is_reached place most) (sym counts) in
    record { breaks = record { place = place; data' = take count piece; uses = uses; meets = reached ∙ over; stays = tt }; below = omega (arith, len, within) }

-- a bad chunk line stands there
pub fails-bad : (most taken count : ℕ) (before now : Option (List ℕ)) (start place : Place) (piece : List ℕ) → count < length piece → Uses before now start place (take count piece)
    → is_bad place ≡ true → (is_limited start ≡ true → taken + count < most) → Fails most taken (length piece) before now start fault.BadChunk
fails-bad most taken count before now start place piece within uses bad limit =
    let len : length (take count piece) ≡ count = length-take-le count piece (omega (arith, within)) in
    record { breaks = record { place = place; data' = take count piece; uses = uses; meets = bad-place place bad; stays = λ limited. omega (arith, len, limit limited) }; below = omega (arith, len, within) }

-- a read came to the end or was refused, and no byte moved
pub fails-read : (most taken count : ℕ) (before now after : Option (List ℕ)) (start place : Place) (piece : List ℕ) (why : BodyFault) → count < length piece → Uses before now start place (take count piece)
    → after ≡ now → is_over place ≡ false → (why ≡ fault.Truncated → IsEmpty after) → why ≢ fault.BadChunk → why ≢ fault.TooLong
    → (is_limited start ≡ true → taken + count < most) → Fails most taken (length piece) before after start why
fails-read most taken count before now after start place piece fault.Truncated within uses same open_end end bad long limit =
    let len : length (take count piece) ≡ count = length-take-le count piece (omega (arith, within)) in
    record { breaks = record { place = place; data' = take count piece; uses = Uses-kept before now after start place _ same uses; meets = (open_end, end refl); stays = λ limited. omega (arith, len, limit limited) }; below = omega (arith, len, within) }
fails-read most taken count before now after start place piece fault.BadChunk within uses same open_end end bad long limit = absurd (bad refl)
fails-read most taken count before now after start place piece fault.TooLong within uses same open_end end bad long limit = absurd (long refl)
fails-read most taken count before now after start place piece fault.Fault within uses same open_end end bad long limit =
    let len : length (take count piece) ≡ count = length-take-le count piece (omega (arith, within)) in
    record { breaks = record { place = place; data' = take count piece; uses = Uses-kept before now after start place _ same uses; meets = open_end; stays = λ limited. omega (arith, len, limit limited) }; below = omega (arith, len, within) }
fails-read most taken count before now after start place piece fault.NoMemory within uses same open_end end bad long limit =
    let len : length (take count piece) ≡ count = length-take-le count piece (omega (arith, within)) in
    record { breaks = record { place = place; data' = take count piece; uses = Uses-kept before now after start place _ same uses; meets = tt; stays = tt }; below = omega (arith, len, within) }

-- the end, or a read that failed, after the data that was passed
pub breaks-read : (most taken : ℕ) (before now after : Option (List ℕ)) (start place : Place) (data' : List ℕ) (why : BodyFault) → Uses before now start place data'
    → after ≡ now → is_over place ≡ false → (why ≡ fault.Truncated → IsEmpty after) → why ≢ fault.BadChunk → why ≢ fault.TooLong
    → IsUnder most taken start data' → Breaks most taken before after start why
breaks-read most taken before now after start place data' fault.Truncated uses same open_end end bad long under =
    record { place = place; data' = data'; uses = Uses-kept before now after start place data' same uses; meets = (open_end, end refl); stays = under }
breaks-read most taken before now after start place data' fault.BadChunk uses same open_end end bad long under = absurd (bad refl)
breaks-read most taken before now after start place data' fault.TooLong uses same open_end end bad long under = absurd (long refl)
breaks-read most taken before now after start place data' fault.Fault uses same open_end end bad long under =
    record { place = place; data' = data'; uses = Uses-kept before now after start place data' same uses; meets = open_end; stays = under }
breaks-read most taken before now after start place data' fault.NoMemory uses same open_end end bad long under =
    record { place = place; data' = data'; uses = Uses-kept before now after start place data' same uses; meets = tt; stays = tt }

-- data was dropped
pub uses-dropped : (before mid now : Option (List ℕ)) (p q : Place) (passed gone : List ℕ) (count : ℕ) → length gone ≡ count → count ≤ data_left q → Uses before mid p q passed
    → mid ≡ prepended gone now → Uses before now p (data_step q count) (passed ++ gone)
uses-dropped before mid now p q passed gone count len left uses gave =
    let run = data-run gone q (omega (arith, len, left)) in
    Uses-then before mid now p q (data_step q count) passed gone uses (record { gone = gone; used = gave; own = run.0 ∙ ap (λ (n : ℕ). Some (data_step q n)) len; brings = run.1 })

-- a part that was filled keeps the length
pub length-put_mid : (at k : ℕ) (xs ys : List ℕ) → at ≤ length xs → at + k ≤ length xs → length ys ≡ k → length (put_mid at k xs ys) ≡ length xs
length-put_mid at k xs ys within fits len =
    omega (arith, within, fits, len, length-append (take at xs) (ys ++ post_of at k xs), length-append ys (post_of at k xs), length-take at xs, length-drop k (drop at xs), length-drop at xs)

-- a refused read is a fault of the client or want of memory
pub fault_of-kind : (e : IoError) → (fault_of e ≢ fault.Truncated) × (fault_of e ≢ fault.BadChunk) × (fault_of e ≢ fault.TooLong)
fault_of-kind io.Failed = (λ is. cc, λ is. cc, λ is. cc)
fault_of-kind io.NoMemory = (λ is. cc, λ is. cc, λ is. cc)

-- a walk that drops data comes nearer to its end
pub drop-smaller : (p : Place) (k most sum next : ℕ) → 0 < k → k ≤ data_left p → is_reached p most sum ≡ false → next ≡ min (sum + k) 18446744073709551615 → most ≤ 18446744073709551615
    → 40000 * (most - next + exact_left (data_step p k)) + framing_left (data_step p k) < 40000 * (most - sum + exact_left p) + framing_left p
drop-smaller (at.Exact n) k most sum next some left under counts small = omega arith
drop-smaller (at.Chunk n) k most sum next some left under counts small =
    let below : sum < most = leb-false most sum under in
    omega (arith, below, data-falls (at.Chunk n) k (λ none. absurd (omega (arith, none))))
drop-smaller (at.Digits c s) k most sum next some left under counts small = absurd (omega arith)
drop-smaller (at.Extension s c) k most sum next some left under counts small = absurd (omega arith)
drop-smaller (at.LineFeed s) k most sum next some left under counts small = absurd (omega arith)
drop-smaller at.DataFeed k most sum next some left under counts small = absurd (omega arith)
drop-smaller (at.Trailer l) k most sum next some left under counts small = absurd (omega arith)
drop-smaller (at.TrailerLine l) k most sum next some left under counts small = absurd (omega arith)
drop-smaller (at.TrailerLineFeed l) k most sum next some left under counts small = absurd (omega arith)
drop-smaller at.TrailerFeed k most sum next some left under counts small = absurd (omega arith)
drop-smaller at.Done k most sum next some left under counts small = absurd (omega arith)
drop-smaller at.Bad k most sum next some left under counts small = absurd (omega arith)

and-true : (x y : Bool) → x ≡ true → (x && y) ≡ y
and-true true y e = refl
and-true false y e = absurd (false≢true e)

-- after the look at the limit, a body that was chunked from its start is below it
pub under-now : (start place : Place) (most taken count sum : ℕ) → sum ≡ counted taken count → is_reached place most sum ≡ false
    → (is_limited place ≡ false → is_limited start ≡ true → sum < most) → most ≤ 18446744073709551615 → is_limited start ≡ true → (sum < most) × (taken + count < most)
under-now start place most taken count sum counts under before small limited =
    elim (cases_Bool (is_limited place)) [
      | inl chunks ↦ (let less : sum < most = leb-false most sum (sym (and-true _ _ chunks) ∙ under) in (less, omega (arith, less, counts, small)))
      | inr out ↦ (let less : sum < most = before out limited in (less, omega (arith, less, counts, small)))
    ]

pub start-exact : (start : Place) → is_limited start ≡ true → exact_left start ≡ 0
start-exact (at.Exact n) e = absurd (false≢true e)
start-exact (at.Digits c s) e = refl
start-exact (at.Extension s c) e = refl
start-exact (at.LineFeed s) e = refl
start-exact (at.Chunk l) e = refl
start-exact at.DataFeed e = refl
start-exact (at.Trailer l) e = refl
start-exact (at.TrailerLine l) e = refl
start-exact (at.TrailerLineFeed l) e = refl
start-exact at.TrailerFeed e = refl
start-exact at.Done e = refl
start-exact at.Bad e = refl

-- within its chunks a body stays after data
pub data-chunks : (p : Place) (k : ℕ) → 0 < data_left p → exact_left p ≡ 0 → (is_limited (data_step p k) ≡ true) × (exact_left (data_step p k) ≡ 0)
data-chunks (at.Exact n) k some none = absurd (omega (arith, some, none))
data-chunks (at.Chunk n) k some none = (refl, refl)
data-chunks (at.Digits c s) k some none = absurd (omega arith)
data-chunks (at.Extension s c) k some none = absurd (omega arith)
data-chunks (at.LineFeed s) k some none = absurd (omega arith)
data-chunks at.DataFeed k some none = absurd (omega arith)
data-chunks (at.Trailer l) k some none = absurd (omega arith)
data-chunks (at.TrailerLine l) k some none = absurd (omega arith)
data-chunks (at.TrailerLineFeed l) k some none = absurd (omega arith)
data-chunks at.TrailerFeed k some none = absurd (omega arith)
data-chunks at.Done k some none = absurd (omega arith)
data-chunks at.Bad k some none = absurd (omega arith)
