-- Why a walk over the framing ends, and that no byte of the framing leads into a body by length.
use Rattle.std.proofs.Common.{◌≡◌, ℕ, zero, suc, ◌+◌, ◌-◌, ◌*◌, ◌%◌, ◌<◌, ◌≤◌, Bool, true, false, refl, arith}
use Rattle.std.specs.Prelude.{◌==◌, nat_lt, if◌then◌else◌}
use Rattle.std.specs.Char.{is_digit, digit_value}
use Rattle.std.proofs.lemmas.Bool.{eqb-false, ltb-true, ltb-false}
use Rattle.http_front.specs.Body.{is_over}
use Rattle.http_front.specs.Falls.{framing_left, exact_left}
use Rattle.http_front.specs.Places.{step, data_left, chunk_of}
use Rattle.http_front.specs.declared.place.Place.{Place}
use Rattle.http_front.specs.declared.place.Place.TheVariants as at

-- fewer bytes of framing than this are left, and no body by length
pub record FallsBelow (most : ℕ) (place : Place) : Type 0 where
  pub falls : framing_left place < most
  pub chunked : exact_left place ≡ 0

bad : (most : ℕ) → 0 < most → FallsBelow most at.Bad
bad most some = record { falls = some; chunked = refl }

digits_by : (count size value : ℕ) (digit short none semicolon cr : Bool) → (short ≡ true → count < 10)
    → FallsBelow (framing_left (at.Digits count size)) (if digit then (if short then at.Digits (count + 1) value else at.Bad)
    else if none then at.Bad else if semicolon then at.Extension size 0 else if cr then at.LineFeed size else at.Bad)
digits_by count size value true true none semicolon cr few = record { falls = omega (arith, few refl); chunked = refl }
digits_by count size value true false none semicolon cr few = bad (framing_left (at.Digits count size)) (omega arith)
digits_by count size value false short true semicolon cr few = bad (framing_left (at.Digits count size)) (omega arith)
digits_by count size value false short false true cr few = record { falls = omega arith; chunked = refl }
digits_by count size value false short false false true few = record { falls = omega arith; chunked = refl }
digits_by count size value false short false false false few = bad (framing_left (at.Digits count size)) (omega arith)

extension_by : (size count : ℕ) (cr lf short : Bool) → (short ≡ true → count < 256)
    → FallsBelow (framing_left (at.Extension size count)) (if cr then at.LineFeed size else if lf then at.Bad else if short then at.Extension size (count + 1) else at.Bad)
extension_by size count true lf short few = record { falls = omega arith; chunked = refl }
extension_by size count false true short few = bad (framing_left (at.Extension size count)) (omega arith)
extension_by size count false false true few = record { falls = omega (arith, few refl); chunked = refl }
extension_by size count false false false few = bad (framing_left (at.Extension size count)) (omega arith)

trailer_by : (left : ℕ) (cr lf short : Bool) → (short ≡ false → 3 ≤ left)
    → FallsBelow (framing_left (at.Trailer left)) (if cr then at.TrailerFeed else if lf then at.Bad else if short then at.Bad else at.TrailerLine (left - 3))
trailer_by left true lf short many = record { falls = omega arith; chunked = refl }
trailer_by left false true short many = bad (framing_left (at.Trailer left)) (omega arith)
trailer_by left false false true many = bad (framing_left (at.Trailer left)) (omega arith)
trailer_by left false false false many = record { falls = omega (arith, many refl); chunked = refl }

trailer_line_by : (left : ℕ) (cr lf none : Bool) → (none ≡ false → left ≡ 0 → ⊥)
    → FallsBelow (framing_left (at.TrailerLine left)) (if cr then at.TrailerLineFeed left else if lf then at.Bad else if none then at.Bad else at.TrailerLine (left - 1))
trailer_line_by left true lf none some = record { falls = omega arith; chunked = refl }
trailer_line_by left false true none some = bad (framing_left (at.TrailerLine left)) (omega arith)
trailer_line_by left false false true some = bad (framing_left (at.TrailerLine left)) (omega arith)
trailer_line_by zero false false false some = absurd (some refl refl)
trailer_line_by (suc left) false false false some = record { falls = omega arith; chunked = refl }

by_byte : (most : ℕ) (is : Bool) (next : Place) → FallsBelow most next → 0 < most → FallsBelow most (if is then next else at.Bad)
by_byte most true next falls some = falls
by_byte most false next falls some = bad most some

chunk_falls : (size : ℕ) → FallsBelow 32771 (chunk_of size)
chunk_falls zero = record { falls = omega arith; chunked = refl }
chunk_falls (suc size) = record { falls = omega arith; chunked = refl }

-- a byte of the framing leaves less of it
pub step_falls : (place : Place) (b : ℕ) → data_left place ≡ 0 → is_over place ≡ false → FallsBelow (framing_left place) (step place b)
step_falls (at.Exact zero) b none open_end = absurd (let wrong : true ≡ false = open_end in cc)
step_falls (at.Exact (suc n)) b none open_end = absurd (omega (arith, none))
step_falls (at.Digits count size) b none open_end =
    digits_by count size (16 * (size % 68719476736) + digit_value b) (is_digit b 16) (nat_lt count 10) (count == 0) (b == 59) (b == 13) (λ few. ltb-true count 10 few)
step_falls (at.Extension size count) b none open_end = extension_by size count (b == 13) (b == 10) (nat_lt count 256) (λ few. ltb-true count 256 few)
step_falls (at.LineFeed size) b none open_end = by_byte 32771 (b == 10) (chunk_of size) (chunk_falls size) (omega arith)
step_falls (at.Chunk zero) b none open_end = by_byte 33042 (b == 13) at.DataFeed (record { falls = omega arith; chunked = refl }) (omega arith)
step_falls (at.Chunk (suc left)) b none open_end = absurd (omega (arith, none))
step_falls at.DataFeed b none open_end = by_byte 33041 (b == 10) (at.Digits 0 0) (record { falls = omega arith; chunked = refl }) (omega arith)
step_falls (at.Trailer left) b none open_end = trailer_by left (b == 13) (b == 10) (nat_lt left 3) (λ many. ltb-false left 3 many)
step_falls (at.TrailerLine left) b none open_end = trailer_line_by left (b == 13) (b == 10) (left == 0) (λ some. eqb-false left 0 some)
step_falls (at.TrailerLineFeed left) b none open_end =
    by_byte (framing_left (at.TrailerLineFeed left)) (b == 10) (at.Trailer left) (record { falls = omega arith; chunked = refl }) (omega arith)
step_falls at.TrailerFeed b none open_end = by_byte 1 (b == 10) at.Done (record { falls = omega arith; chunked = refl }) (omega arith)
step_falls at.Done b none open_end = absurd (let wrong : true ≡ false = open_end in cc)
step_falls at.Bad b none open_end = absurd (let wrong : true ≡ false = open_end in cc)
