-- Bytes that the grammar spells, read from place to place.
use Rattle.std.proofs.Common.{◌≡◌, ℕ, zero, suc, ◌+◌, ◌-◌, ◌*◌, ◌%◌, ◌≤◌, ◌<◌, true, false, List, [], ◌∷◌, ◌++◌, length, Option, Some, None, refl, sym, ap, subst, ◌∙◌, arith, append-nil, length-append, ne_eqb}
use Rattle.std.specs.Char.{digit_value}
use Rattle.std.specs.List.{AllByRecursion, flat_map, list_all}
use Rattle.std.proofs.lemmas.Bool.{and_parts, cond-true, cond-false, ltb-true, lt-ltb, le-ltb, not-true}
use Rattle.http_front.specs.Body.{Data, is_over, behind, ended_at, data_from, place_behind}
use Rattle.http_front.specs.Chunked.{line_end, written_from, is_hexadecimal, is_inner, IsSize, extension_bytes, IsExtension, size_line, Chunk, IsChunk, chunk_bytes, trailer_line_bytes, trailer_bytes, IsTrailerLine, ChunkedBody, IsChunkedBody, spelled, data_in, ReadsSpelled}
use Rattle.http_front.specs.Places.{step, data_left, chunk_of}
use Rattle.http_front.specs.declared.place.Place.{Place}
use Rattle.http_front.specs.declared.place.Place.TheVariants as at
use Rattle.http_front.proofs.BodyLemmas.{place_behind-append, data_from-append, data-run, framing-run}

-- bytes lead from one place to another, and bring this data
pub record Leads (bytes : List ℕ) (p q : Place) (d : List ℕ) : Type 0 where
  pub own : place_behind bytes p ≡ Some q
  pub brings : (data_from bytes p).bytes ≡ d

leads-nil : (p : Place) → Leads [] p p []
leads-nil p = record { own = refl; brings = refl }

leads-then : (xs ys : List ℕ) (p q r : Place) (d e : List ℕ) → Leads xs p q d → Leads ys q r e → Leads (xs ++ ys) p r (d ++ e)
leads-then xs ys p q r d e one two = record {
  own = place_behind-append xs ys p q r one.own two.own;
  brings =
      ap (λ (x : Data). x.bytes) (data_from-append xs ys p q one.own)
      ∙ ap (λ (x : List ℕ). x ++ (data_from ys q).bytes) one.brings
      ∙ ap (λ (x : List ℕ). d ++ x) two.brings;
}

leads-byte : (b : ℕ) (bytes : List ℕ) (p q r : Place) (d : List ℕ) → data_left p ≡ 0 → is_over p ≡ false → step p b ≡ q → Leads bytes q r d → Leads (b ∷ bytes) p r d
leads-byte b bytes p q r d none open_end steps rest =
    let run = framing-run b p none open_end in
    let P : Place → Type 0 = λ x. Leads (b ∷ []) p x [] in
    leads-then (b ∷ []) bytes p q r [] d (subst P steps (record { own = run.0; brings = run.1 })) rest

leads-line_end : (p q r : Place) → data_left p ≡ 0 → is_over p ≡ false → step p 13 ≡ q → data_left q ≡ 0 → is_over q ≡ false → step q 10 ≡ r → Leads line_end p r []
leads-line_end p q r none open_end cr none' open_end' lf =
    leads-byte 13 (10 ∷ []) p q r [] none open_end cr (leads-byte 10 [] q r r [] none' open_end' lf (leads-nil r))

-- what this many digits write stays below this
abbrev pub bound : ℕ → ℕ
bound zero = 1
bound (suc count) = 16 * bound count

bound-more : (more count : ℕ) → bound count ≤ bound (more + count)
bound-more zero count = (let same : bound (0 + count) ≡ bound count = ap bound (omega arith) in omega (arith, same))
bound-more (suc more) count = (let same : suc more + count ≡ suc (more + count) = omega arith in let next : bound (suc more + count) ≡ 16 * bound (more + count) = ap bound same in omega (arith, next, bound-more more count))

-- nine digits lose nothing
pub whole-size : (count size : ℕ) → size < bound count → count < 10 → size % 68719476736 ≡ size
whole-size count size small few =
    let same : 9 - count + count ≡ 9 = omega (arith, few) in
    let most : bound count ≤ 68719476736 = subst (λ (n : ℕ). bound count ≤ bound n) same (bound-more (9 - count) count) in
    omega (arith, small, most)

pub size-more : (count size digit : ℕ) → size < bound count → digit < 16 → 16 * size + digit < bound (count + 1)
size-more count size digit small low = (let same : count + 1 ≡ suc count = omega arith in let next : bound (count + 1) ≡ 16 * bound count = ap bound same in omega (arith, small, low, next))

pub digits-step : (count size b : ℕ) → size < bound count → count < 10 → is_hexadecimal b ≡ true → step (at.Digits count size) b ≡ at.Digits (count + 1) (16 * size + digit_value b)
digits-step count size b small few hex =
    cond-true _ _ _ hex ∙ cond-true _ _ _ (lt-ltb count 10 few) ∙ ap (λ (m : ℕ). at.Digits (count + 1) (16 * m + digit_value b)) (whole-size count size small few)

digits-lead : (digits : List ℕ) (count size : ℕ) → size < bound count → count + length digits ≤ 10 → list_all is_hexadecimal digits ≡ true
    → Leads digits (at.Digits count size) (at.Digits (count + length digits) (written_from size digits)) []
digits-lead [] count size small few hex =
    let P : ℕ → Type 0 = λ n. Leads [] (at.Digits count size) (at.Digits n size) [] in
    subst P (omega arith) (leads-nil (at.Digits count size))
digits-lead (b ∷ digits) count size small few hex =
    let parts = and_parts _ _ hex in
    let next = 16 * size + digit_value b in
    let below = size-more count size (digit_value b) small (ltb-true _ _ parts.0) in
    let rest = digits-lead digits (count + 1) next below (omega (arith, few)) parts.1 in
    let P : ℕ → Type 0 = λ n. Leads digits (at.Digits (count + 1) next) (at.Digits n (written_from next digits)) [] in
    leads-byte b digits (at.Digits count size) (at.Digits (count + 1) next) _ [] refl refl (digits-step count size b small (omega (arith, few)) parts.0) (subst P (omega arith) rest)

extension-leads : (text : List ℕ) (size count : ℕ) → count + length text ≤ 256 → list_all is_inner text ≡ true
    → Leads text (at.Extension size count) (at.Extension size (count + length text)) []
extension-leads [] size count few inner =
    let P : ℕ → Type 0 = λ n. Leads [] (at.Extension size count) (at.Extension size n) [] in
    subst P (omega arith) (leads-nil (at.Extension size count))
extension-leads (b ∷ text) size count few inner =
    let parts = and_parts _ _ inner in
    let ends = and_parts _ _ parts.0 in
    let steps : step (at.Extension size count) b ≡ at.Extension size (count + 1) =
    cond-false _ _ _ (not-true _ ends.0) ∙ cond-false _ _ _ (not-true _ ends.1) ∙ cond-true _ _ _ (lt-ltb count 256 (omega (arith, few))) in
    let rest = extension-leads text size (count + 1) (omega (arith, few)) parts.1 in
    let P : ℕ → Type 0 = λ n. Leads text (at.Extension size (count + 1)) (at.Extension size n) [] in
    leads-byte b text (at.Extension size count) (at.Extension size (count + 1)) _ [] refl refl steps (subst P (omega arith) rest)

-- what stands after the digits of a size
behind-digits : (extension : Option (List ℕ)) (count size : ℕ) → 0 < count → IsExtension extension
    → Leads (extension_bytes extension ++ line_end) (at.Digits count size) (chunk_of size) []
behind-digits None count size some good =
    leads-line_end (at.Digits count size) (at.LineFeed size) (chunk_of size) refl refl (cond-false _ _ _ (ne_eqb count 0 (λ e. absurd (omega (arith, some, e))))) refl refl refl
behind-digits (Some text) count size some good =
    let steps : step (at.Digits count size) 59 ≡ at.Extension size 0 = cond-false _ _ _ (ne_eqb count 0 (λ e. absurd (omega (arith, some, e)))) in
    let ends = leads-line_end (at.Extension size (0 + length text)) (at.LineFeed size) (chunk_of size) refl refl refl refl refl refl in
    leads-byte 59 (text ++ line_end) (at.Digits count size) (at.Extension size 0) (chunk_of size) [] refl refl steps
    (leads-then text line_end (at.Extension size 0) (at.Extension size (0 + length text)) (chunk_of size) [] [] (extension-leads text size 0 (omega (arith, good.0)) good.1) ends)

size_line-leads : (digits : List ℕ) (extension : Option (List ℕ)) (n : ℕ) → IsSize digits n → IsExtension extension
    → Leads (size_line digits extension) (at.Digits 0 0) (chunk_of n) []
size_line-leads digits extension n size good =
    let P : ℕ → Type 0 = λ m. Leads (size_line digits extension) (at.Digits 0 0) (chunk_of m) [] in
    let count = 0 + length digits in
    let m = written_from 0 digits in
    subst P size.value (leads-then digits (extension_bytes extension ++ line_end) (at.Digits 0 0) (at.Digits count m) (chunk_of m) [] []
    (digits-lead digits 0 0 (omega arith) (omega (arith, size.few)) size.hexadecimal)
    (behind-digits extension count m (omega (arith, size.some)) good))

some-chunk : (n : ℕ) → 0 < n → chunk_of n ≡ at.Chunk n
some-chunk zero some = absurd (omega (arith, some))
some-chunk (suc n) some = refl

data-leads : (bytes : List ℕ) → 0 < length bytes → Leads (bytes ++ line_end) (chunk_of (length bytes)) (at.Digits 0 0) bytes
data-leads bytes some =
    let run = data-run bytes (at.Chunk (length bytes)) (omega arith) in
    let none : length bytes - length bytes ≡ 0 = omega arith in
    let front : Leads bytes (at.Chunk (length bytes)) (at.Chunk 0) bytes = record { own = run.0 ∙ ap (λ (m : ℕ). Some (at.Chunk m)) none; brings = run.1 } in
    let ends = leads-line_end (at.Chunk 0) at.DataFeed (at.Digits 0 0) refl refl refl refl refl refl in
    let whole = leads-then bytes line_end (at.Chunk (length bytes)) (at.Chunk 0) (at.Digits 0 0) bytes [] front ends in
    let P : Place → Type 0 = λ p. Leads (bytes ++ line_end) p (at.Digits 0 0) bytes in
    let Q : List ℕ → Type 0 = λ d. Leads (bytes ++ line_end) (at.Chunk (length bytes)) (at.Digits 0 0) d in
    subst P (sym (some-chunk (length bytes) some)) (subst Q (append-nil bytes) whole)

chunk-leads : (c : Chunk) → IsChunk c → Leads (chunk_bytes c) (at.Digits 0 0) (at.Digits 0 0) c.data'
chunk-leads c good =
    leads-then (size_line c.size c.extension) (c.data' ++ line_end) (at.Digits 0 0) (chunk_of (length c.data')) (at.Digits 0 0) [] c.data'
    (size_line-leads c.size c.extension (length c.data') good.size good.extension) (data-leads c.data' good.some)

chunks-lead : (chunks : List Chunk) → AllByRecursion IsChunk chunks → Leads (flat_map chunk_bytes chunks) (at.Digits 0 0) (at.Digits 0 0) (flat_map (λ (c : Chunk). c.data') chunks)
chunks-lead [] good = leads-nil (at.Digits 0 0)
chunks-lead (c ∷ chunks) good =
    leads-then (chunk_bytes c) (flat_map chunk_bytes chunks) (at.Digits 0 0) (at.Digits 0 0) (at.Digits 0 0) c.data' (flat_map (λ (x : Chunk). x.data') chunks)
    (chunk-leads c good.0) (chunks-lead chunks good.1)

-- within a line of the trailer
line-leads : (line : List ℕ) (left : ℕ) → length line ≤ left → list_all is_inner line ≡ true → Leads line (at.TrailerLine left) (at.TrailerLine (left - length line)) []
line-leads [] left fits inner =
    let P : ℕ → Type 0 = λ n. Leads [] (at.TrailerLine left) (at.TrailerLine n) [] in
    subst P (omega arith) (leads-nil (at.TrailerLine left))
line-leads (b ∷ line) left fits inner =
    let parts = and_parts _ _ inner in
    let ends = and_parts _ _ parts.0 in
    let steps : step (at.TrailerLine left) b ≡ at.TrailerLine (left - 1) =
    cond-false _ _ _ (not-true _ ends.0) ∙ cond-false _ _ _ (not-true _ ends.1) ∙ cond-false _ _ _ (ne_eqb left 0 (λ e. absurd (omega (arith, fits, e)))) in
    let rest = line-leads line (left - 1) (omega (arith, fits)) parts.1 in
    let P : ℕ → Type 0 = λ n. Leads line (at.TrailerLine (left - 1)) (at.TrailerLine n) [] in
    leads-byte b line (at.TrailerLine left) (at.TrailerLine (left - 1)) _ [] refl refl steps (subst P (omega arith) rest)

trailer_line-leads : (line : List ℕ) (left : ℕ) → IsTrailerLine line → length line + 2 ≤ left
    → Leads (trailer_line_bytes line) (at.Trailer left) (at.Trailer (left - (length line + 2))) []
trailer_line-leads [] left good fits = (let some : 0 < 0 = good.some in absurd (omega (arith, some)))
trailer_line-leads (b ∷ line) left good fits =
    let parts = and_parts _ _ good.inner in
    let ends = and_parts _ _ parts.0 in
    let steps : step (at.Trailer left) b ≡ at.TrailerLine (left - 3) =
    cond-false _ _ _ (not-true _ ends.0) ∙ cond-false _ _ _ (not-true _ ends.1) ∙ cond-false _ _ _ (le-ltb left 3 (omega (arith, fits))) in
    let now = left - 3 - length line in
    let close = leads-line_end (at.TrailerLine now) (at.TrailerLineFeed now) (at.Trailer now) refl refl refl refl refl refl in
    let rest = leads-then line line_end (at.TrailerLine (left - 3)) (at.TrailerLine now) (at.Trailer now) [] [] (line-leads line (left - 3) (omega (arith, fits)) parts.1) close in
    let P : ℕ → Type 0 = λ n. Leads (line ++ line_end) (at.TrailerLine (left - 3)) (at.Trailer n) [] in
    leads-byte b (line ++ line_end) (at.Trailer left) (at.TrailerLine (left - 3)) _ [] refl refl steps (subst P (omega arith) rest)

trailer-leads : (lines : List (List ℕ)) (left : ℕ) → AllByRecursion IsTrailerLine lines → length (trailer_bytes lines) ≤ left
    → Leads (trailer_bytes lines) (at.Trailer left) (at.Trailer (left - length (trailer_bytes lines))) []
trailer-leads [] left good fits =
    let P : ℕ → Type 0 = λ n. Leads [] (at.Trailer left) (at.Trailer n) [] in
    subst P (omega arith) (leads-nil (at.Trailer left))
trailer-leads (line ∷ lines) left good fits =
    let long : length (trailer_bytes (line ∷ lines)) ≡ length line + 2 + length (trailer_bytes lines) =
    omega (arith, length-append (line ++ line_end) (trailer_bytes lines), length-append line line_end) in
    let now = left - (length line + 2) in
    let rest = trailer-leads lines now good.1 (omega (arith, fits, long)) in
    let P : ℕ → Type 0 = λ n. Leads (trailer_bytes (line ∷ lines)) (at.Trailer left) (at.Trailer n) [] in
    subst P (omega (arith, long)) (leads-then (trailer_line_bytes line) (trailer_bytes lines) (at.Trailer left) (at.Trailer now) (at.Trailer (now - length (trailer_bytes lines))) [] []
    (trailer_line-leads line left good.0 (omega (arith, fits, long))) rest)

-- what the grammar spells leads from the beginning to the end
pub spelled-leads : (b : ChunkedBody) → IsChunkedBody b → Leads (spelled b) (at.Digits 0 0) at.Done (data_in b)
spelled-leads b good =
    let left = 16384 - length (trailer_bytes b.trailer) in
    let end = leads-line_end (at.Trailer left) at.TrailerFeed at.Done refl refl refl refl refl refl in
    let trailer = leads-then (trailer_bytes b.trailer) line_end (at.Trailer 16384) (at.Trailer left) at.Done [] [] (trailer-leads b.trailer 16384 good.trailer good.short) end in
    let last = leads-then (size_line b.last b.extension) (trailer_bytes b.trailer ++ line_end) (at.Digits 0 0) (at.Trailer 16384) at.Done [] [] (size_line-leads b.last b.extension 0 good.last good.extension) trailer in
    let whole = leads-then (flat_map chunk_bytes b.chunks) (size_line b.last b.extension ++ (trailer_bytes b.trailer ++ line_end)) (at.Digits 0 0) (at.Digits 0 0) at.Done (data_in b) [] (chunks-lead b.chunks good.chunks) last in
    let P : List ℕ → Type 0 = λ d. Leads (spelled b) (at.Digits 0 0) at.Done d in
    subst P (append-nil (data_in b)) whole

done-data : (rest : List ℕ) → data_from rest at.Done ≡ ended_at at.Done
done-data [] = refl
done-data (b ∷ rest) = refl

pub reads_spelled : ReadsSpelled
reads_spelled b rest good =
    let leads = spelled-leads b good in
    let bytes : behind (data_from (spelled b) (at.Digits 0 0)).bytes (ended_at at.Done) ≡ record { bytes = data_in b; whole = true; bad = false } =
    ap (λ (l : List ℕ). record { bytes = l; whole = true; bad = false }) (append-nil _ ∙ leads.brings) in (
      data_from-append (spelled b) rest (at.Digits 0 0) at.Done leads.own ∙ ap (behind (data_from (spelled b) (at.Digits 0 0)).bytes) (done-data rest) ∙ bytes,
      record { gone = spelled b; used = refl; own = leads.own; brings = leads.brings },
    )
