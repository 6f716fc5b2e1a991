-- A body that is read as whole is one that the grammar spells: what stands after each place.
use Rattle.std.proofs.Common.{◌≡◌, ℕ, zero, suc, ◌+◌, ◌-◌, ◌*◌, ◌%◌, ◌≤◌, ◌<◌, ◌==◌, Bool, true, false, List, [], ◌∷◌, ◌++◌, length, Option, Some, None, refl, sym, ap, subst, ◌∙◌, inl, inr, ◌⊎◌, arith, append_assoc, length-append}
use Rattle.std.specs.Prelude.{if◌then◌else◌, nat_lt, ⊤}
use Rattle.std.specs.Char.{is_digit, digit_value}
use Rattle.std.specs.List.{AllByRecursion, flat_map, list_all}
use Rattle.std.proofs.lemmas.Bool.{and_from, ltb-true, ltb-false, eqb-true, eqb-false, false≢true}
use Rattle.http_front.specs.Body.{is_over, place_behind}
use Rattle.http_front.specs.Chunked.{line_end, written_from, is_hexadecimal, is_inner, IsSize, extension_bytes, IsExtension, size_line, Chunk, IsChunk, chunk_bytes, trailer_bytes, IsTrailerLine, ChunkedBody, IsChunkedBody, spelled, ReadsOnlySpelled}
use Rattle.http_front.specs.Places.{step, is_whole, chunk_of}
use Rattle.http_front.specs.declared.place.Place.{Place}
use Rattle.http_front.specs.declared.place.Place.TheVariants as at
use Rattle.http_front.proofs.BodyLemmas.{next-place}
use Rattle.http_front.proofs.ChunkedLemmas.{bound, whole-size, size-more}

abbrev pub IsSpelled : List ℕ → Type 0
IsSpelled bytes = (b : ChunkedBody) × IsChunkedBody b × (bytes ≡ spelled b)

-- the LF of a line's end, and what stands after it
abbrev pub Fed : (List ℕ → Type 0) → List ℕ → Type 0
Fed T bytes = (tail : List ℕ) × (bytes ≡ 10 ∷ tail) × T tail

-- lines of a trailer, and the empty line
pub record TrailerTail (left : ℕ) (bytes : List ℕ) : Type 0 where
  pub lines : List (List ℕ)
  pub good : AllByRecursion IsTrailerLine lines
  pub fits : length (trailer_bytes lines) ≤ left
  pub is : bytes ≡ trailer_bytes lines ++ line_end

-- the rest of a line of a trailer, and what stands after it
pub record LineTail (left : ℕ) (bytes : List ℕ) : Type 0 where
  pub line : List ℕ
  pub tail : List ℕ
  pub inner : list_all is_inner line ≡ true
  pub fits : length line ≤ left
  pub is : bytes ≡ line ++ (13 ∷ 10 ∷ tail)
  pub rest : TrailerTail (left - length line) tail

-- n bytes of a chunk's data, and the chunks after it
pub record DataTail (n : ℕ) (bytes : List ℕ) : Type 0 where
  pub data' : List ℕ
  pub tail : List ℕ
  pub size : length data' ≡ n
  pub is : bytes ≡ data' ++ (13 ∷ 10 ∷ tail)
  pub rest : IsSpelled tail

-- after the line of a size
abbrev pub SizeTail : ℕ → List ℕ → Type 0
SizeTail zero bytes = TrailerTail 16384 bytes
SizeTail (suc n) bytes = DataTail (suc n) bytes

pub record ExtensionTail (size count : ℕ) (bytes : List ℕ) : Type 0 where
  pub text : List ℕ
  pub tail : List ℕ
  pub inner : list_all is_inner text ≡ true
  pub fits : count + length text ≤ 256
  pub is : bytes ≡ text ++ (13 ∷ 10 ∷ tail)
  pub rest : SizeTail size tail

pub record DigitsTail (count size : ℕ) (bytes : List ℕ) : Type 0 where
  pub digits : List ℕ
  pub extension : Option (List ℕ)
  pub tail : List ℕ
  pub some : 0 < count + length digits
  pub few : count + length digits ≤ 10
  pub hexadecimal : list_all is_hexadecimal digits ≡ true
  pub good : IsExtension extension
  pub is : bytes ≡ digits ++ (extension_bytes extension ++ (13 ∷ 10 ∷ tail))
  pub rest : SizeTail (written_from size digits) tail

-- what stands after a place in a whole body
abbrev pub Behind : Place → List ℕ → Type 0
Behind (at.Exact n) bytes = ⊤
Behind (at.Digits count size) bytes = count ≤ 10 → size < bound count → DigitsTail count size bytes
Behind (at.Extension size count) bytes = count ≤ 256 → ExtensionTail size count bytes
Behind (at.LineFeed size) bytes = Fed (SizeTail size) bytes
Behind (at.Chunk n) bytes = DataTail n bytes
Behind at.DataFeed bytes = Fed IsSpelled bytes
Behind (at.Trailer left) bytes = TrailerTail left bytes
Behind (at.TrailerLine left) bytes = LineTail left bytes
Behind (at.TrailerLineFeed left) bytes = Fed (TrailerTail left) bytes
Behind at.TrailerFeed bytes = bytes ≡ 10 ∷ []
Behind at.Done bytes = bytes ≡ []
Behind at.Bad bytes = ⊥

either : (x : Bool) (p q : Place) (bytes : List ℕ) → Behind (if x then p else q) bytes → ((x ≡ true) × Behind p bytes) ⊎ ((x ≡ false) × Behind q bytes)
either true p q bytes t = inl (refl, t)
either false p q bytes t = inr (refl, t)

must : (x : Bool) (p : Place) (bytes : List ℕ) → Behind (if x then p else at.Bad) bytes → (x ≡ true) × Behind p bytes
must true p bytes t = (refl, t)
must false p bytes t = absurd t

must_not : (x : Bool) (p : Place) (bytes : List ℕ) → Behind (if x then at.Bad else p) bytes → (x ≡ false) × Behind p bytes
must_not true p bytes t = absurd t
must_not false p bytes t = (refl, t)

inner-byte : (b : ℕ) → (b == 13) ≡ false → (b == 10) ≡ false → is_inner b ≡ true
inner-byte b cr lf = rw (cr, lf) refl

-- a byte that is told, in front of a list that is told
front : (b c : ℕ) (bytes rest : List ℕ) → (b == c) ≡ true → bytes ≡ rest → b ∷ bytes ≡ c ∷ rest
front b c bytes rest same is = (let e : b ≡ c = eqb-true b c same in ap (λ (n : ℕ). n ∷ bytes) e ∙ ap (λ (l : List ℕ). c ∷ l) is)

size-behind : (n : ℕ) (bytes : List ℕ) → Behind (chunk_of n) bytes → SizeTail n bytes
size-behind zero bytes t = t
size-behind (suc n) bytes t = t

digits-back : (count size b : ℕ) (bytes : List ℕ) → size < bound count → is_digit b 16 ≡ true → nat_lt count 10 ≡ true
    → Behind (at.Digits (count + 1) (16 * (size % 68719476736) + digit_value b)) bytes → DigitsTail count size (b ∷ bytes)
digits-back count size b bytes small hex few t =
    let P : ℕ → Type 0 = λ n. Behind (at.Digits (count + 1) (16 * n + digit_value b)) bytes in
    let moved : Behind (at.Digits (count + 1) (16 * size + digit_value b)) bytes = subst P (whole-size count size small (ltb-true _ _ few)) t in
    let rest = moved (omega (arith, ltb-true _ _ few)) (size-more count size (digit_value b) small (ltb-true _ _ hex)) in
    record {
      digits = b ∷ rest.digits;
      extension = rest.extension;
      tail = rest.tail;
      some = omega arith;
      few = omega (arith, rest.few);
      hexadecimal = and_from _ _ hex rest.hexadecimal;
      good = rest.good;
      is = ap (λ (l : List ℕ). b ∷ l) rest.is;
      rest = rest.rest;
    }

digits-over : (count size b : ℕ) (bytes : List ℕ) → (count == 0) ≡ false → 0 + count ≤ 10
    → Behind (if b == 59 then at.Extension size 0 else if b == 13 then at.LineFeed size else at.Bad) bytes → DigitsTail count size (b ∷ bytes)
digits-over count size b bytes some few t =
    let above : 0 < count = omega (arith, eqb-false count 0 some) in
    elim (either (b == 59) (at.Extension size 0) (if b == 13 then at.LineFeed size else at.Bad) bytes t) [
      | inl semicolon ↦
          let e = semicolon.1 (omega arith) in
          record {
            digits = [];
            extension = Some e.text;
            tail = e.tail;
            some = omega (arith, above);
            few = omega (arith, few);
            hexadecimal = refl;
            good = (omega (arith, e.fits), e.inner);
            is = front b 59 bytes (e.text ++ (13 ∷ 10 ∷ e.tail)) semicolon.0 e.is;
            rest = e.rest;
          }
      | inr other ↦
          let cr = must (b == 13) (at.LineFeed size) bytes other.1 in
          record {
            digits = [];
            extension = None;
            tail = cr.1.0;
            some = omega (arith, above);
            few = omega (arith, few);
            hexadecimal = refl;
            good = tt;
            is = front b 13 bytes (10 ∷ cr.1.0) cr.0 cr.1.1;
            rest = cr.1.2;
          }
    ]

digits_behind : (count size b : ℕ) (bytes : List ℕ) → count ≤ 10 → size < bound count → Behind (step (at.Digits count size) b) bytes → DigitsTail count size (b ∷ bytes)
digits_behind count size b bytes few small t =
    elim (either (is_digit b 16) (if nat_lt count 10 then at.Digits (count + 1) (16 * (size % 68719476736) + digit_value b) else at.Bad)
    (if count == 0 then at.Bad else if b == 59 then at.Extension size 0 else if b == 13 then at.LineFeed size else at.Bad) bytes t) [
      | inl hex ↦
          let more = must (nat_lt count 10) (at.Digits (count + 1) (16 * (size % 68719476736) + digit_value b)) bytes hex.1 in
          digits-back count size b bytes small hex.0 more.0 more.1
      | inr other ↦
          let some = must_not (count == 0) (if b == 59 then at.Extension size 0 else if b == 13 then at.LineFeed size else at.Bad) bytes other.1 in
          digits-over count size b bytes some.0 (omega (arith, few)) some.1
    ]

extension_behind : (size count b : ℕ) (bytes : List ℕ) → count ≤ 256 → Behind (step (at.Extension size count) b) bytes → ExtensionTail size count (b ∷ bytes)
extension_behind size count b bytes few t =
    elim (either (b == 13) (at.LineFeed size) (if b == 10 then at.Bad else if nat_lt count 256 then at.Extension size (count + 1) else at.Bad) bytes t) [
      | inl cr ↦
          record {
            text = [];
            tail = cr.1.0;
            inner = refl;
            fits = omega (arith, few);
            is = front b 13 bytes (10 ∷ cr.1.0) cr.0 cr.1.1;
            rest = cr.1.2;
          }
      | inr other ↦
          let lf = must_not (b == 10) (if nat_lt count 256 then at.Extension size (count + 1) else at.Bad) bytes other.1 in
          let more = must (nat_lt count 256) (at.Extension size (count + 1)) bytes lf.1 in
          let e = more.1 (omega (arith, ltb-true _ _ more.0)) in
          record {
            text = b ∷ e.text;
            tail = e.tail;
            inner = and_from _ _ (inner-byte b other.0 lf.0) e.inner;
            fits = omega (arith, e.fits);
            is = ap (λ (l : List ℕ). b ∷ l) e.is;
            rest = e.rest;
          }
    ]

trailer_behind : (left b : ℕ) (bytes : List ℕ) → Behind (step (at.Trailer left) b) bytes → TrailerTail left (b ∷ bytes)
trailer_behind left b bytes t =
    elim (either (b == 13) at.TrailerFeed (if b == 10 then at.Bad else if nat_lt left 3 then at.Bad else at.TrailerLine (left - 3)) bytes t) [
      | inl cr ↦ record { lines = []; good = tt; fits = omega arith; is = front b 13 bytes (10 ∷ []) cr.0 cr.1 }
      | inr other ↦
          let lf = must_not (b == 10) (if nat_lt left 3 then at.Bad else at.TrailerLine (left - 3)) bytes other.1 in
          let room = must_not (nat_lt left 3) (at.TrailerLine (left - 3)) bytes lf.1 in
          let e = room.1 in
          let line = b ∷ e.line in
          let long : length (trailer_bytes (line ∷ e.rest.lines)) ≡ length e.line + 3 + length (trailer_bytes e.rest.lines) =
          omega (arith, length-append (line ++ line_end) (trailer_bytes e.rest.lines), length-append line line_end) in
          record {
            lines = line ∷ e.rest.lines;
            good = (record { some = omega arith; inner = and_from _ _ (inner-byte b other.0 lf.0) e.inner }, e.rest.good);
            fits = omega (arith, long, e.fits, e.rest.fits, ltb-false left 3 room.0);
            is =
                ap (λ (l : List ℕ). b ∷ l) (e.is ∙ ap (λ (l : List ℕ). e.line ++ (13 ∷ 10 ∷ l)) e.rest.is)
                ∙ sym (append_assoc line line_end (trailer_bytes e.rest.lines ++ line_end))
                ∙ sym (append_assoc (line ++ line_end) (trailer_bytes e.rest.lines) line_end);
          }
    ]

line_behind : (left b : ℕ) (bytes : List ℕ) → Behind (step (at.TrailerLine left) b) bytes → LineTail left (b ∷ bytes)
line_behind left b bytes t =
    elim (either (b == 13) (at.TrailerLineFeed left) (if b == 10 then at.Bad else if left == 0 then at.Bad else at.TrailerLine (left - 1)) bytes t) [
      | inl cr ↦
          let P : ℕ → Type 0 = λ n. TrailerTail n cr.1.0 in
          record {
            line = [];
            tail = cr.1.0;
            inner = refl;
            fits = omega arith;
            is = front b 13 bytes (10 ∷ cr.1.0) cr.0 cr.1.1;
            rest = subst P (omega arith) cr.1.2;
          }
      | inr other ↦
          let lf = must_not (b == 10) (if left == 0 then at.Bad else at.TrailerLine (left - 1)) bytes other.1 in
          let room = must_not (left == 0) (at.TrailerLine (left - 1)) bytes lf.1 in
          let e = room.1 in
          let P : ℕ → Type 0 = λ n. TrailerTail n e.tail in
          record {
            line = b ∷ e.line;
            tail = e.tail;
            inner = and_from _ _ (inner-byte b other.0 lf.0) e.inner;
            fits = omega (arith, e.fits, eqb-false left 0 room.0);
            is = ap (λ (l : List ℕ). b ∷ l) e.is;
            rest = subst P (omega arith) e.rest;
          }
    ]

line-and : (digits extension tail : List ℕ) → (digits ++ (extension ++ line_end)) ++ tail ≡ digits ++ (extension ++ (13 ∷ 10 ∷ tail))
line-and digits extension tail = append_assoc digits (extension ++ line_end) tail ∙ ap (λ (l : List ℕ). digits ++ l) (append_assoc extension line_end tail)

-- a whole size line and what stands after it are a body
body-spelled : (n : ℕ) (digits : List ℕ) (extension : Option (List ℕ)) (tail : List ℕ) → IsSize digits n → IsExtension extension → SizeTail n tail
    → IsSpelled (digits ++ (extension_bytes extension ++ (13 ∷ 10 ∷ tail)))
body-spelled zero digits extension tail size good t = (
  record { chunks = []; last = digits; extension = extension; trailer = t.lines },
  record { chunks = tt; last = size; extension = good; trailer = t.good; short = t.fits },
  ap (λ (l : List ℕ). digits ++ (extension_bytes extension ++ (13 ∷ 10 ∷ l))) t.is ∙ sym (line-and digits (extension_bytes extension) (trailer_bytes t.lines ++ line_end)),
)
body-spelled (suc n) digits extension tail size good t =
    let b = t.rest.0 in
    let is = t.rest.1 in
    let c : Chunk = record { size = digits; extension = extension; data' = t.data' } in
    let P : ℕ → Type 0 = λ m. IsSize digits m in
    let one : IsChunk c = record { size = subst P (sym t.size) size; some = omega (arith, t.size); extension = good } in
    let last = size_line b.last b.extension ++ (trailer_bytes b.trailer ++ line_end) in
    let chunk : chunk_bytes c ++ spelled b ≡ digits ++ (extension_bytes extension ++ (13 ∷ 10 ∷ (t.data' ++ (13 ∷ 10 ∷ spelled b)))) =
    append_assoc (size_line digits extension) (t.data' ++ line_end) (spelled b)
    ∙ ap (λ (l : List ℕ). size_line digits extension ++ l) (append_assoc t.data' line_end (spelled b))
    ∙ line-and digits (extension_bytes extension) (t.data' ++ (13 ∷ 10 ∷ spelled b)) in (
      record { chunks = c ∷ b.chunks; last = b.last; extension = b.extension; trailer = b.trailer },
      record { chunks = (one, is.chunks); last = is.last; extension = is.extension; trailer = is.trailer; short = is.short },
      ap (λ (l : List ℕ). digits ++ (extension_bytes extension ++ (13 ∷ 10 ∷ l))) (t.is ∙ ap (λ (l : List ℕ). t.data' ++ (13 ∷ 10 ∷ l)) t.rest.2)
          ∙ sym chunk
          ∙ sym (append_assoc (chunk_bytes c) (flat_map chunk_bytes b.chunks) last),
    )

digits-spelled : (bytes : List ℕ) → Behind (at.Digits 0 0) bytes → IsSpelled bytes
digits-spelled bytes t =
    let d = t (omega arith) (omega arith) in
    let size : IsSize d.digits (written_from 0 d.digits) = record { some = omega (arith, d.some); few = omega (arith, d.few); hexadecimal = d.hexadecimal; value = refl } in
    let P : List ℕ → Type 0 = λ l. IsSpelled l in
    subst P (sym d.is) (body-spelled (written_from 0 d.digits) d.digits d.extension d.tail size d.good d.rest)

-- one byte further back
back : (p : Place) (b : ℕ) (bytes : List ℕ) → is_over p ≡ false → Behind (step p b) bytes → Behind p (b ∷ bytes)
back (at.Exact n) b bytes open_end t = tt
back (at.Digits count size) b bytes open_end t = λ few small. digits_behind count size b bytes few small t
back (at.Extension size count) b bytes open_end t = λ few. extension_behind size count b bytes few t
back (at.LineFeed size) b bytes open_end t = (let lf = must (b == 10) (chunk_of size) bytes t in (bytes, front b 10 bytes bytes lf.0 refl, size-behind size bytes lf.1))
back (at.Chunk zero) b bytes open_end t =
    let cr = must (b == 13) at.DataFeed bytes t in
    record { data' = []; tail = cr.1.0; size = refl; is = front b 13 bytes (10 ∷ cr.1.0) cr.0 cr.1.1; rest = cr.1.2 }
back (at.Chunk (suc n)) b bytes open_end t =
    record { data' = b ∷ t.data'; tail = t.tail; size = ap suc t.size; is = ap (λ (l : List ℕ). b ∷ l) t.is; rest = t.rest }
back at.DataFeed b bytes open_end t = (let lf = must (b == 10) (at.Digits 0 0) bytes t in (bytes, front b 10 bytes bytes lf.0 refl, digits-spelled bytes lf.1))
back (at.Trailer left) b bytes open_end t = trailer_behind left b bytes t
back (at.TrailerLine left) b bytes open_end t = line_behind left b bytes t
back (at.TrailerLineFeed left) b bytes open_end t = (let lf = must (b == 10) (at.Trailer left) bytes t in (bytes, front b 10 bytes bytes lf.0 refl, lf.1))
back at.TrailerFeed b bytes open_end t = (let lf = must (b == 10) at.Done bytes t in front b 10 bytes [] lf.0 lf.1)
back at.Done b bytes open_end t = absurd (false≢true (sym open_end))
back at.Bad b bytes open_end t = absurd (false≢true (sym open_end))

behind-whole : (p : Place) → is_whole p ≡ true → Behind p []
behind-whole (at.Exact n) whole = tt
behind-whole at.Done whole = refl
behind-whole (at.Digits count size) whole = absurd (false≢true whole)
behind-whole (at.Extension size count) whole = absurd (false≢true whole)
behind-whole (at.LineFeed size) whole = absurd (false≢true whole)
behind-whole (at.Chunk n) whole = absurd (false≢true whole)
behind-whole at.DataFeed whole = absurd (false≢true whole)
behind-whole (at.Trailer left) whole = absurd (false≢true whole)
behind-whole (at.TrailerLine left) whole = absurd (false≢true whole)
behind-whole (at.TrailerLineFeed left) whole = absurd (false≢true whole)
behind-whole at.TrailerFeed whole = absurd (false≢true whole)
behind-whole at.Bad whole = absurd (false≢true whole)

behind-place : (bytes : List ℕ) (p q : Place) → place_behind bytes p ≡ Some q → is_whole q ≡ true → Behind p bytes
behind-place [] p q e whole = (let same : p ≡ q = cc in behind-whole p (ap is_whole same ∙ whole))
behind-place (b ∷ bytes) p q e whole = (let next = next-place b bytes p q e in back p b bytes next.0 (behind-place bytes (step p b) q next.1 whole))

pub reads_only_spelled : ReadsOnlySpelled
reads_only_spelled bytes place own whole = digits-spelled bytes (behind-place bytes (at.Digits 0 0) place own whole)
