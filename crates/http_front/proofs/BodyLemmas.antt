-- The data of bytes in two parts, and what each step of a walk uses.
use Rattle.std.proofs.Common.{◌≡◌, ℕ, zero, suc, ◌+◌, ◌-◌, ◌≤◌, ◌<◌, false, List, [], ◌∷◌, ◌++◌, length, Option, Some, None, refl, sym, ap, subst, ◌∙◌, inl, inr, arith, append_assoc, ne_eqb, take, drop, get_or}
use Rattle.std.proofs.lemmas.Bool.{cases_Bool, cond-true, cond-false, or_from}
use Rattle.std.proofs.lemmas.List.{take_more, take-append-drop, nil_from_length}
use Rattle.jk_io.specs.Told.{prepended}
use Rattle.jk_io.proofs.ToldLaws.{prepended-prepended, prepended-nil}
use Rattle.http_front.specs.Body.{Data, Uses, is_over, given, given_of, behind, ended_at, data_from, place_behind}
use Rattle.http_front.specs.Places.{step, data_left, data_step}
use Rattle.http_front.specs.declared.place.Place.{Place}
use Rattle.http_front.specs.declared.place.Place.TheVariants as at

behind-behind : (a b : List ℕ) (d : Data) → behind a (behind b d) ≡ behind (a ++ b) d
behind-behind a b d = ap (λ (l : List ℕ). record { bytes = l; whole = d.whole; bad = d.bad }) (sym (append_assoc a b d.bytes))

-- a place that is not over goes on at the next byte
pub next-place : (b : ℕ) (bytes : List ℕ) (p q : Place) → place_behind (b ∷ bytes) p ≡ Some q → (is_over p ≡ false) × (place_behind bytes (step p b) ≡ Some q)
next-place b bytes p q e =
    elim (cases_Bool (is_over p)) [
      | inl over ↦ absurd (let none : None ≡ Some q = sym (cond-true (is_over p) None (place_behind bytes (step p b)) over) ∙ e in cc)
      | inr open_end ↦ (open_end, sym (cond-false (is_over p) None (place_behind bytes (step p b)) open_end) ∙ e)
    ]

-- the data of bytes in two parts
pub data_from-append : (xs ys : List ℕ) (p q : Place) → place_behind xs p ≡ Some q → data_from (xs ++ ys) p ≡ behind (data_from xs p).bytes (data_from ys q)
data_from-append [] ys p q e = (let same : p ≡ q = cc in ap (data_from ys) same)
data_from-append (b ∷ xs) ys p q e =
    let next = next-place b xs p q e in
    let whole : data_from (b ∷ (xs ++ ys)) p ≡ behind (given p b) (data_from (xs ++ ys) (step p b)) = cond-false _ _ _ next.0 in
    let front : data_from (b ∷ xs) p ≡ behind (given p b) (data_from xs (step p b)) = cond-false _ _ _ next.0 in
    whole
    ∙ ap (behind (given p b)) (data_from-append xs ys (step p b) q next.1)
    ∙ behind-behind (given p b) (data_from xs (step p b)).bytes (data_from ys q)
    ∙ ap (λ (d : Data). behind d.bytes (data_from ys q)) (sym front)

pub place_behind-append : (xs ys : List ℕ) (p q r : Place) → place_behind xs p ≡ Some q → place_behind ys q ≡ Some r → place_behind (xs ++ ys) p ≡ Some r
place_behind-append [] ys p q r e f = (let same : p ≡ q = cc in ap (place_behind ys) same ∙ f)
place_behind-append (b ∷ xs) ys p q r e f =
    let next = next-place b xs p q e in
    cond-false _ _ _ next.0 ∙ place_behind-append xs ys (step p b) q r next.1 f

-- nothing is used
pub Uses-nil : (now : Option (List ℕ)) (p : Place) → Uses now now p p []
Uses-nil now p = record { gone = []; used = sym (prepended-nil now); own = refl; brings = refl }

-- one use after another
pub Uses-then : (before mid now : Option (List ℕ)) (p q r : Place) (d e : List ℕ) → Uses before mid p q d → Uses mid now q r e → Uses before now p r (d ++ e)
Uses-then before mid now p q r d e one two = record {
  gone = one.gone ++ two.gone;
  used = one.used ∙ ap (prepended one.gone) two.used ∙ prepended-prepended one.gone two.gone now;
  own = place_behind-append one.gone two.gone p q r one.own two.own;
  brings =
      ap (λ (x : Data). x.bytes) (data_from-append one.gone two.gone p q one.own)
      ∙ ap (λ (x : List ℕ). x ++ (data_from two.gone q).bytes) one.brings
      ∙ ap (λ (x : List ℕ). d ++ x) two.brings;
}

-- data runs through
pub data-run : (xs : List ℕ) (p : Place) → length xs ≤ data_left p → (place_behind xs p ≡ Some (data_step p (length xs))) × ((data_from xs p).bytes ≡ xs)
data-run [] (at.Exact n) h = (ap (λ (m : ℕ). Some (at.Exact m)) (omega arith), refl)
data-run [] (at.Chunk n) h = (ap (λ (m : ℕ). Some (at.Chunk m)) (omega arith), refl)
data-run [] (at.Digits c s) h = (refl, refl)
data-run [] (at.Extension s c) h = (refl, refl)
data-run [] (at.LineFeed s) h = (refl, refl)
data-run [] at.DataFeed h = (refl, refl)
data-run [] (at.Trailer l) h = (refl, refl)
data-run [] (at.TrailerLine l) h = (refl, refl)
data-run [] (at.TrailerLineFeed l) h = (refl, refl)
data-run [] at.TrailerFeed h = (refl, refl)
data-run [] at.Done h = (refl, refl)
data-run [] at.Bad h = (refl, refl)
data-run (b ∷ xs) (at.Exact zero) h = absurd (omega arith)
data-run (b ∷ xs) (at.Exact (suc n)) h =
    let open_end : is_over (at.Exact (suc n)) ≡ false = or_from _ _ (ne_eqb (suc n) 0 (λ e. absurd (omega (arith, e)))) refl in
    let next : at.Exact (suc n - 1) ≡ at.Exact n = ap (λ (m : ℕ). at.Exact m) (omega arith) in
    let rest = data-run xs (at.Exact n) (omega arith) in
    let own : place_behind (b ∷ xs) (at.Exact (suc n)) ≡ place_behind xs (at.Exact n) = cond-false _ _ _ open_end ∙ ap (place_behind xs) next in
    let bytes : data_from (b ∷ xs) (at.Exact (suc n)) ≡ behind (b ∷ []) (data_from xs (at.Exact n)) = cond-false _ _ _ open_end ∙ ap (λ (p : Place). behind (b ∷ []) (data_from xs p)) next in
    (own ∙ rest.0 ∙ ap (λ (m : ℕ). Some (at.Exact m)) (omega arith), ap (λ (x : Data). x.bytes) bytes ∙ ap (λ (l : List ℕ). b ∷ l) rest.1)
data-run (b ∷ xs) (at.Chunk zero) h = absurd (omega arith)
data-run (b ∷ xs) (at.Chunk (suc n)) h =
    let rest = data-run xs (at.Chunk n) (omega arith) in
    (rest.0 ∙ ap (λ (m : ℕ). Some (at.Chunk m)) (omega arith), ap (λ (l : List ℕ). b ∷ l) rest.1)
data-run (b ∷ xs) (at.Digits c s) h = absurd (omega arith)
data-run (b ∷ xs) (at.Extension s c) h = absurd (omega arith)
data-run (b ∷ xs) (at.LineFeed s) h = absurd (omega arith)
data-run (b ∷ xs) at.DataFeed h = absurd (omega arith)
data-run (b ∷ xs) (at.Trailer l) h = absurd (omega arith)
data-run (b ∷ xs) (at.TrailerLine l) h = absurd (omega arith)
data-run (b ∷ xs) (at.TrailerLineFeed l) h = absurd (omega arith)
data-run (b ∷ xs) at.TrailerFeed h = absurd (omega arith)
data-run (b ∷ xs) at.Done h = absurd (omega arith)
data-run (b ∷ xs) at.Bad h = absurd (omega arith)

-- a byte of framing brings no data
pub framing-run : (b : ℕ) (p : Place) → data_left p ≡ 0 → is_over p ≡ false → (place_behind (b ∷ []) p ≡ Some (step p b)) × ((data_from (b ∷ []) p).bytes ≡ [])
framing-run b p none open_end =
    let data' : data_from (b ∷ []) p ≡ behind (given p b) (ended_at (step p b)) = cond-false _ _ _ open_end in
    let empty : given p b ≡ [] = ap (λ (n : ℕ). given_of n b) none in
    (cond-false _ _ _ open_end, ap (λ (x : Data). x.bytes) data' ∙ ap (λ (l : List ℕ). l ++ []) empty)

-- one more byte of framing
pub framing-more : (bytes : List ℕ) (used : ℕ) (start p : Place) → used < length bytes → place_behind (take used bytes) start ≡ Some p → (data_from (take used bytes) start).bytes ≡ []
    → data_left p ≡ 0 → is_over p ≡ false
    → (place_behind (take (used + 1) bytes) start ≡ Some (step p (get_or bytes used 0))) × ((data_from (take (used + 1) bytes) start).bytes ≡ [])
framing-more bytes used start p within own brings none open_end =
    let b = get_or bytes used 0 in
    let one = framing-run b p none open_end in
    let more : take (used + 1) bytes ≡ take used bytes ++ b ∷ [] = take_more bytes used 0 within in (
      ap (λ (l : List ℕ). place_behind l start) more ∙ place_behind-append (take used bytes) (b ∷ []) start p (step p b) own one.0,
      ap (λ (l : List ℕ). (data_from l start).bytes) more ∙ ap (λ (x : Data). x.bytes) (data_from-append (take used bytes) (b ∷ []) start p own) ∙ ap (λ (l : List ℕ). l ++ (data_from (b ∷ []) p).bytes) brings ∙ one.1,
    )

-- bytes of the inbox that are used
pub inbox-used : (inbox : List ℕ) (n : ℕ) (incoming : Option (List ℕ)) → prepended inbox incoming ≡ prepended (take n inbox) (prepended (drop n inbox) incoming)
inbox-used inbox n incoming = sym (prepended-prepended (take n inbox) (drop n inbox) incoming ∙ ap (λ (l : List ℕ). prepended l incoming) (take-append-drop n inbox))

-- a read past an empty inbox
pub inbox-empty : (inbox part : List ℕ) (before after : Option (List ℕ)) → length inbox ≡ 0 → before ≡ prepended part after → prepended inbox before ≡ prepended part (prepended inbox after)
inbox-empty inbox part before after none gave =
    let P : List ℕ → Type 0 = λ l. prepended l before ≡ prepended part (prepended l after) in
    subst P (sym (nil_from_length inbox none)) (prepended-nil before ∙ gave ∙ ap (prepended part) (sym (prepended-nil after)))
