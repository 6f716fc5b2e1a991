-- The data in front of a piece that is filled, over plain values.
use Rattle.std.proofs.Common.{◌≡◌, ◌≢◌, ℕ, ◌+◌, ◌≤◌, ◌<◌, true, false, List, Option, Some, length, take, inl, inr, ◌⊎◌, sym, ap, ◌∙◌, arith}
use Rattle.std.specs.Prelude.{◌||◌, ◌==◌}
use Rattle.std.proofs.lemmas.Bool.{eq-eqb, or_from, or_left, or_right}
use Rattle.std.proofs.lemmas.List.{length-take-le}
use Rattle.http_front.specs.Body.{Uses}
use Rattle.http_front.specs.Places.{is_bad, is_limited, is_whole}
use Rattle.http_front.specs.Walks.{IsUnder, Walks, counted, is_reached}
use Rattle.http_front.specs.Wants.{Next, settles}
use Rattle.http_front.specs.declared.place.Place.{Place}
use Rattle.http_front.proofs.QuietLemmas.{some-left}
use Rattle.http_front.proofs.WalkLemmas.{under-now}

-- after the look at the limit, the data in front is below it
pub front-limit : (start place : Place) (most taken count sum : ℕ) → sum ≡ counted taken count → is_reached place most sum ≡ false
    → (is_limited place ≡ false → is_limited start ≡ true → counted taken count < most) → most ≤ 18446744073709551615
    → is_limited start ≡ true → (counted taken count < most) × (taken + count < most)
front-limit start place most taken count sum counts reached under small limited =
    let now = under-now start place most taken count sum counts reached (λ out chunks. omega (arith, under out chunks, counts)) small limited in
    (omega (arith, now.0, counts), now.1)

pub front-under : (start : Place) (most taken count : ℕ) (piece : List ℕ) → count ≤ length piece → (is_limited start ≡ true → (counted taken count < most) × (taken + count < most))
    → IsUnder most taken start (take count piece)
front-under start most taken count piece within limit = λ limited. omega (arith, length-take-le count piece within, (limit limited).1)

-- where the inbox decides, and the piece isn't full yet, a byte is left in it
pub front-left : (start place : Place) (most taken count n : ℕ) (first inbox piece : List ℕ) → count ≤ length piece → count ≢ length piece → length piece ≡ n
    → Uses (Some first) (Some inbox) start place (take count piece) → is_whole place ≡ false → is_bad place ≡ false
    → (is_limited start ≡ true → (counted taken count < most) × (taken + count < most)) → settles (Next n) start most taken first ≡ true → 0 < length inbox
front-left start place most taken count n first inbox piece within short same uses whole bad limit decided =
    some-left (Next n) most taken first inbox start place (take count piece) uses (or_from _ _ whole bad)
    (omega (arith, length-take-le count piece within, within, short, same)) (front-under start most taken count piece within limit) decided

-- the piece is full, or the body is whole
pub walked : (start place : Place) (most taken count sum : ℕ) (before now : Option (List ℕ)) (piece : List ℕ) → count ≤ length piece → Uses before now start place (take count piece)
    → sum ≡ counted taken count → is_reached place most sum ≡ false → (is_limited start ≡ true → (counted taken count < most) × (taken + count < most))
    → (count ≡ length piece) ⊎ (is_whole place ≡ true) → Walks most taken (length piece) before now start place (take count piece)
walked start place most taken count sum before now piece within uses counts reached limit ends =
    let len : length (take count piece) ≡ count = length-take-le count piece within in
    record {
      uses = uses;
      within = omega (arith, len, within);
      all = all-of ends;
      under = ap (λ (n : ℕ). is_reached place most (counted taken n)) len ∙ ap (is_reached place most) (sym counts) ∙ reached;
      limit = front-under start most taken count piece within limit;
    }
  where
    all-of : (count ≡ length piece) ⊎ (is_whole place ≡ true) → (length (take count piece) == length piece || is_whole place) ≡ true
    all-of (inl full) = or_left _ _ (eq-eqb _ _ (length-take-le count piece within ∙ full))
    all-of (inr whole) = or_right _ _ whole
