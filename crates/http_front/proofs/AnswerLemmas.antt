-- A client's bytes say one thing.
use Rattle.std.proofs.Common.{◌≡◌, ◌≤◌, ◌+◌, ◌-◌, ℕ, List, [], ◌++◌, Some, Ok, Err, length, take, drop, inl, inr, refl, sym, ap, subst, ◌∙◌, arith, append_assoc, append-nil, length-append, take_at, drop_at}
use Rattle.std.proofs.Math.Seq.{take-append-add}
use Rattle.httparse.proofs.GrammarLemmas.{request_unique}
use Rattle.httparse.specs.Grammar.{RequestHead}
use Rattle.http_front.specs.Cut.{Cuts, head_len, header_lines}
use Rattle.http_front.specs.Request.{IsHeadOf, Refuses, RefusesFront, Reads, NoHead, AreEmptyLines, EndsInHead, judged}
use Rattle.http_front.specs.declared.answers.Form.{Form}
use Rattle.http_front.specs.declared.head.Head.{Head}
use Rattle.http_front.proofs.CutLemmas.{cut-blank, cut-head, head_len-two}

-- a cut of the used bytes is one of all bytes
cut-used : (bytes used rest blank front : List ℕ) → bytes ≡ used ++ rest → Cuts used blank front [] → Cuts bytes blank front rest
cut-used bytes used rest blank front whole cut = record {
  whole = whole ∙ ap (λ (l : List ℕ). l ++ rest) (cut.whole ∙ ap (λ (l : List ℕ). blank ++ l) (append-nil front)) ∙ append_assoc blank front rest;
  empty = cut.empty;
  begins = cut.begins;
  ends = cut.ends;
}

-- there is one cut
cut-one : (bytes b f r c g s : List ℕ) → Cuts bytes b f r → Cuts bytes c g s → (b ≡ c) × (f ≡ g)
cut-one bytes b f r c g s one two =
    let blank : length b ≡ length c = sym (cut-blank bytes b f r one) ∙ cut-blank bytes c g s two in
    let same : b ≡ c = sym (take_at b (f ++ r) (length b) refl) ∙ ap (λ (l : List ℕ). take (length b) l) (sym one.whole ∙ two.whole) ∙ ap (λ (n : ℕ). take n (c ++ (g ++ s))) blank ∙ take_at c (g ++ s) (length c) refl in
    let behind : f ++ r ≡ g ++ s = sym (drop_at b (f ++ r) (length b) refl) ∙ ap (λ (l : List ℕ). drop (length b) l) (sym one.whole ∙ two.whole) ∙ ap (λ (n : ℕ). drop n (c ++ (g ++ s))) blank ∙ drop_at c (g ++ s) (length c) refl in
    let lens : Some (length f) ≡ Some (length g) = sym (cut-head bytes b f r one) ∙ ap (λ (n : ℕ). head_len (drop n bytes)) blank ∙ cut-head bytes c g s two in
    let len : length f ≡ length g = cc in
    (same, sym (take_at f r (length f) refl) ∙ ap (λ (l : List ℕ). take (length f) l) behind ∙ ap (λ (n : ℕ). take n (g ++ s)) len ∙ take_at g s (length g) refl)

reads-one : (front : List ℕ) (h k : RequestHead) → Reads front h → Reads front k → h ≡ k
reads-one front h k one two = (request_unique front h k [] [] one.reads two.reads).0

pub head-one : (bytes used rest other left : List ℕ) (head another : Head) → bytes ≡ used ++ rest → IsHeadOf used head → bytes ≡ other ++ left → IsHeadOf other another → (used ≡ other) × (head ≡ another)
head-one bytes used rest other left head another whole is again too =
    let same = cut-one bytes is.blank is.front rest too.blank too.front left (cut-used bytes used rest is.blank is.front whole is.cut) (cut-used bytes other left too.blank too.front again too.cut) in
    let P : List ℕ → Type 0 = λ l. Reads l is.parsed in
    let parsed = reads-one too.front is.parsed too.parsed (subst P same.1 is.reads) too.reads in
    let heads : Ok head ≡ Ok another = sym is.is ∙ ap judged parsed ∙ too.is in
    let one = is.cut.whole in
    let two = too.cut.whole in
    let front = same.1 in
    let blank = same.0 in
    (cc, cc)

-- two refusals of one head are one
front-one : (front : List ℕ) (form other : Form) → RefusesFront front form → RefusesFront front other → form ≡ other
front-one front form other (inl a) (inl b) = a.0 ∙ sym b.0
front-one front form other (inl a) (inr (inl b)) = absurd (omega (arith, a.1, b.1.0))
front-one front form other (inl a) (inr (inr b)) = absurd (omega (arith, a.1, b.0))
front-one front form other (inr (inl a)) (inl b) = absurd (omega (arith, a.1.0, b.1))
front-one front form other (inr (inl a)) (inr (inl b)) = a.0 ∙ sym b.0
front-one front form other (inr (inl a)) (inr (inr b)) = absurd (a.1.1 b.1.0 b.1.1)
front-one front form other (inr (inr a)) (inl b) = absurd (omega (arith, a.0, b.1))
front-one front form other (inr (inr a)) (inr (inl b)) = absurd (b.1.1 a.1.0 a.1.1)
front-one front form other (inr (inr a)) (inr (inr b)) =
    let parsed = reads-one front a.1.0 b.1.0 a.1.1 b.1.1 in
    let forms : Err form ≡ Err other = sym a.1.2 ∙ ap judged parsed ∙ b.1.2 in
    cc

-- what is cut within the limit is cut in the bytes up to it
cut-within : (bytes b f r : List ℕ) → Cuts bytes b f r → length b + length f ≤ 16384 → NoHead (take 16384 bytes) → ⊥
cut-within bytes b f r cut within none =
    let k = 16384 - (length b + length f) in
    let joined : bytes ≡ (b ++ f) ++ r = cut.whole ∙ sym (append_assoc b f r) in
    let len : length (b ++ f) + k ≡ 16384 = omega (arith, within, length-append b f) in
    let front : take 16384 bytes ≡ (b ++ f) ++ take k r = ap (λ (n : ℕ). take n bytes) (sym len) ∙ ap (λ (l : List ℕ). take (length (b ++ f) + k) l) joined ∙ take-append-add (b ++ f) r k in
    none b f (take k r) (record { whole = front ∙ append_assoc b f (take k r); empty = cut.empty; begins = cut.begins; ends = cut.ends })

pub form-one : (bytes : List ℕ) (form other : Form) → Refuses bytes form → Refuses bytes other → form ≡ other
form-one bytes form other (inl a) (inl b) =
    let same = cut-one bytes a.blank a.front a.rest b.blank b.front b.rest a.cut b.cut in
    let P : List ℕ → Type 0 = λ l. RefusesFront l form in
    front-one b.front form other (subst P same.1 a.refused) b.refused
form-one bytes form other (inl a) (inr b) = absurd (cut-within bytes a.blank a.front a.rest a.cut a.within b.1.none)
form-one bytes form other (inr a) (inl b) = absurd (cut-within bytes b.blank b.front b.rest b.cut b.within a.1.none)
form-one bytes form other (inr a) (inr b) = a.0 ∙ sym b.0

pub head-refused : (bytes used rest : List ℕ) (head : Head) (form : Form) → bytes ≡ used ++ rest → IsHeadOf used head → Refuses bytes form → ⊥
head-refused bytes used rest head form whole is (inl a) =
    let same = cut-one bytes is.blank is.front rest a.blank a.front a.rest (cut-used bytes used rest is.blank is.front whole is.cut) a.cut in
    let P : List ℕ → Type 0 = λ l. RefusesFront l form in
    judged-head is.front form is.parsed head is.few is.reads is.is (subst P (sym same.1) a.refused)
  where
    judged-head : (front : List ℕ) (form : Form) (h : RequestHead) (head : Head) → header_lines front ≤ 100 → Reads front h → judged h ≡ Ok head → RefusesFront front form → ⊥
    judged-head front form h head few reads ok (inl b) = omega (arith, few, b.1)
    judged-head front form h head few reads ok (inr (inl b)) = b.1.1 h reads
    judged-head front form h head few reads ok (inr (inr b)) =
        let parsed = reads-one front h b.1.0 reads b.1.1 in
        let both : Ok head ≡ Err form = sym ok ∙ ap judged parsed ∙ b.1.2 in
        cc
head-refused bytes used rest head form whole is (inr a) =
    cut-within bytes is.blank is.front rest (cut-used bytes used rest is.blank is.front whole is.cut) (omega (arith, is.within, ap (λ (l : List ℕ). length l) is.cut.whole, length-append is.blank (is.front ++ []), length-append is.front [])) a.1.none

-- where a head has its end, not all bytes are empty lines
cut-empty : (bytes b f r : List ℕ) → Cuts bytes b f r → AreEmptyLines bytes → ⊥
cut-empty bytes b f r cut empty =
    omega (arith, empty.empty, cut-blank bytes b f r cut, ap (λ (l : List ℕ). length l) cut.whole, length-append b (f ++ r), length-append f r, head_len-two f (length f) cut.ends)

pub empty-head : (bytes used rest : List ℕ) (head : Head) → bytes ≡ used ++ rest → IsHeadOf used head → AreEmptyLines bytes → ⊥
empty-head bytes used rest head whole is empty = cut-empty bytes is.blank is.front rest (cut-used bytes used rest is.blank is.front whole is.cut) empty

pub empty-refused : (bytes : List ℕ) (form : Form) → Refuses bytes form → AreEmptyLines bytes → ⊥
empty-refused bytes form (inl a) empty = cut-empty bytes a.blank a.front a.rest a.cut empty
empty-refused bytes form (inr a) empty = omega (arith, a.1.long, empty.short)

pub short-head : (bytes used rest : List ℕ) (head : Head) → bytes ≡ used ++ rest → IsHeadOf used head → EndsInHead bytes → ⊥
short-head bytes used rest head whole is short = short.none is.blank is.front rest (cut-used bytes used rest is.blank is.front whole is.cut)

pub short-refused : (bytes : List ℕ) (form : Form) → Refuses bytes form → EndsInHead bytes → ⊥
short-refused bytes form (inl a) short = short.none a.blank a.front a.rest a.cut
short-refused bytes form (inr a) short = omega (arith, a.1.long, short.short)
