-- A head that was made is one of the bytes that it was parsed from.
use Rattle.std.proofs.Common.{◌≡◌, ◌≤◌, ◌<◌, ◌+◌, ℕ, Bool, List, [], ◌++◌, Option, Result, Ok, Err, length, take, drop, inl, inr, sym, ap, subst, ◌∙◌, arith, append_assoc, append-nil, length-append, length-drop, length-take, drop-drop}
use Rattle.std.proofs.Math.Seq.{drop-length}
use Rattle.jk_io.specs.Told.{prepended, IsEmpty}
use Rattle.jk_io.specs.declared.failures.IoError.{IoError}
use Rattle.jk_io.specs.declared.failures.IoError.TheVariants as io
use Rattle.jk_io.proofs.ToldLaws.{prepended-nil, prepended-prepended}
use Rattle.http_front.specs.Answer.{UsesHead, UsesEnd, IfRefused}
use Rattle.http_front.specs.Refusal.{status_of, read_error}
use Rattle.http_front.specs.Search.{IsWholeHead, IsPartOfHead, IsStop, IsFoundHead}
use Rattle.http_front.proofs.CutLemmas.{part-none, over-made}
use Rattle.httparse.specs.Grammar.{RequestHead}
use Rattle.http_front.specs.Cut.{header_lines}
use Rattle.http_front.specs.Fields.{HeaderLine}
use Rattle.http_front.specs.Judged.{head_of}
use Rattle.http_front.specs.Makes.{Makes, MakesOf, IsHeadFront}
use Rattle.http_front.specs.Request.{Reads, Refuses, RefusesFront, AreEmptyLines, EndsInHead, IsDecided, judged}
use Rattle.http_front.specs.declared.answers.Form.{Form}
use Rattle.http_front.specs.declared.answers.HeadError.{HeadError}
use Rattle.http_front.specs.declared.answers.HeadError.TheVariants.{Refused, Truncated, Fault, NoMemory}
use Rattle.http_front.specs.declared.head.Head.{Head}

pub makes-front : (front : List ℕ) (parsed : RequestHead) (wanted : Result Head Form) (r : Result Head HeadError) → header_lines front ≤ 100 → Reads front parsed → wanted ≡ judged parsed → Makes wanted r → MakesOf front r
makes-front front parsed wanted (Ok head) few reads same makes = record { few = few; parsed = parsed; reads = reads; is = sym same ∙ makes }
makes-front front parsed wanted (Err (Refused status form)) few reads same makes = (makes.0, inr (inr (few, (parsed, reads, sym same ∙ makes.1))))
makes-front front parsed wanted (Err Truncated) few reads same makes = makes
makes-front front parsed wanted (Err Fault) few reads same makes = makes
makes-front front parsed wanted (Err NoMemory) few reads same makes = tt

-- the head of the bytes in hand is a head of the client's bytes, which are used up to its end
pub uses-head : (inbox slice : List ℕ) (blank len : ℕ) (head : Head) (before incoming : Option (List ℕ)) → IsWholeHead inbox blank len → length inbox ≤ 16384 → slice ≡ take len (drop blank inbox)
    → IsHeadFront slice head → prepended inbox incoming ≡ before → UsesHead before (prepended (drop (blank + len) inbox) incoming) head
uses-head inbox slice blank len head before incoming whole few is front unread =
    let b = take blank inbox in
    let f = take len (drop blank inbox) in
    let P : List ℕ → Type 0 = λ l. IsHeadFront l head in
    let at = subst P is front in
    let room : blank ≤ length inbox = omega (arith, whole.within) in
    let rest : drop len (drop blank inbox) ≡ drop (blank + len) inbox = drop-drop len blank inbox in
    let joined : inbox ≡ (b ++ f) ++ drop (blank + len) inbox =
    whole.cut.whole ∙ sym (append_assoc b f (drop len (drop blank inbox))) ∙ ap (λ (l : List ℕ). (b ++ f) ++ l) rest in
    record {
      bytes = b ++ f;
      is = record {
        blank = b;
        front = f;
        parsed = at.parsed;
        cut = record { whole = ap (λ (l : List ℕ). b ++ l) (sym (append-nil f)); empty = whole.cut.empty; begins = whole.cut.begins; ends = whole.cut.ends };
        within = omega (arith, few, ap (λ (l : List ℕ). length l) joined, length-append (b ++ f) (drop (blank + len) inbox));
        few = at.few;
        reads = at.reads;
        is = at.is;
      };
      used = sym unread ∙ ap (λ (l : List ℕ). prepended l incoming) joined ∙ sym (prepended-prepended (b ++ f) (drop (blank + len) inbox) incoming);
    }

-- what the head of the bytes in hand is refused for, the client's bytes are refused for
pub refuses-head : (inbox slice : List ℕ) (blank len : ℕ) (e : HeadError) → IsWholeHead inbox blank len → length inbox ≤ 16384 → slice ≡ take len (drop blank inbox)
    → MakesOf slice (Err e) → IfRefused (Err e) (λ status form. (status ≡ status_of form) × Refuses inbox form)
refuses-head inbox slice blank len (Refused status form) whole few is makes =
    let P : List ℕ → Type 0 = λ l. RefusesFront l form in (
      makes.0,
      inl (record {
        blank = take blank inbox;
        front = take len (drop blank inbox);
        rest = drop len (drop blank inbox);
        cut = whole.cut;
        within = omega (arith, few, whole.within, length-take blank inbox, length-take len (drop blank inbox), length-drop blank inbox);
        refused = subst P is makes.1;
      }),
    )
refuses-head inbox slice blank len Truncated whole few is makes = tt
refuses-head inbox slice blank len Fault whole few is makes = tt
refuses-head inbox slice blank len NoMemory whole few is makes = tt

-- the bytes end within a head
pub ends-made : (bytes : List ℕ) (blank searched : ℕ) → IsPartOfHead bytes blank searched → length bytes < 16384 → (blank ≡ length bytes → ⊥) → EndsInHead bytes
ends-made bytes blank searched part short text = record {
  short = short;
  begun = λ full. text (sym part.empty ∙ full);
  none = part-none bytes blank searched part;
}

pub same-head : (m n t u : List ℕ) (a b : Bool) (l k : List HeaderLine) → m ≡ n → t ≡ u → a ≡ b → l ≡ k → head_of m t a l ≡ head_of n u b k
same-head m n t u a b l k p q r s = cc

-- where no head has its end yet and there is room, more bytes are needed
part-undecided : (bytes : List ℕ) (blank searched : ℕ) → IsPartOfHead bytes blank searched → length bytes < 16384 → IsDecided bytes → ⊥
part-undecided bytes blank searched part short (inl head) = part-none bytes blank searched part head.blank head.front head.rest head.cut
part-undecided bytes blank searched part short (inr long) = absurd (omega (arith, short, long))

pub part-awaits : (bytes slice first : List ℕ) (blank searched : ℕ) → IsPartOfHead slice blank searched → slice ≡ bytes → bytes ≡ first → length bytes < 16384 → IsDecided first → ⊥
part-awaits bytes slice first blank searched part value same short decided =
    let P : List ℕ → Type 0 = λ l. IsPartOfHead l blank searched in
    let Q : List ℕ → Type 0 = λ l. IsDecided l in
    part-undecided bytes blank searched (subst P value part) short (subst Q (sym same) decided)

-- a part that decides fills the inbox
decided-full : (bytes : List ℕ) (blank searched : ℕ) → IsPartOfHead bytes blank searched → IsDecided bytes → 16384 ≤ length bytes
decided-full bytes blank searched part (inl head) = absurd (part-none bytes blank searched part head.blank head.front head.rest head.cut)
decided-full bytes blank searched part (inr long) = long

pub part-full : (bytes slice first : List ℕ) (blank searched : ℕ) → IsPartOfHead slice blank searched → slice ≡ bytes → bytes ≡ first → IsDecided first → 16384 ≤ length bytes
part-full bytes slice first blank searched part value same decided =
    let P : List ℕ → Type 0 = λ l. IsPartOfHead l blank searched in
    let Q : List ℕ → Type 0 = λ l. IsDecided l in
    decided-full bytes blank searched (subst P value part) (subst Q (sym same) decided)

-- a read that failed had room in the inbox
pub stop-read : (bytes : List ℕ) (error : IoError) (e : HeadError) → e ≡ read_error error → length bytes < 16384 → IsStop bytes e
stop-read bytes error e is short = subst (λ (x : HeadError). IsStop bytes x) (sym is) (by_error error)
  where
    by_error : (x : IoError) → IsStop bytes (read_error x)
    by_error io.Failed = short
    by_error io.NoMemory = tt

-- where no more is read, the limit is reached, or a read was refused
pub stop-found : (bytes slice now : List ℕ) (blank searched : ℕ) (e : HeadError) → IsPartOfHead slice blank searched → slice ≡ bytes → IsStop bytes e → now ≡ bytes → IsFoundHead now (Err e)
stop-found bytes slice now blank searched e part value stop same =
    subst (λ (l : List ℕ). IsFoundHead l (Err e)) (sym same) (by_stop e stop)
  where
    by_stop : (x : HeadError) → IsStop bytes x → IsFoundHead bytes (Err x)
    by_stop (Refused status form) why = (why.0, why.1, over-made bytes blank searched (subst (λ (l : List ℕ). IsPartOfHead l blank searched) value part) why.2)
    by_stop Truncated why = absurd why
    by_stop Fault why = tt
    by_stop NoMemory why = tt

-- empty lines alone are used
pub uses-end : (inbox now : List ℕ) (more : Option (List ℕ)) → AreEmptyLines inbox → now ≡ drop (length inbox) inbox → IsEmpty more
    → UsesEnd (prepended inbox more) (prepended now more)
uses-end inbox now more empty is over =
    let none : now ≡ [] = is ∙ drop-length inbox in
    let P : List ℕ → Type 0 = λ l. UsesEnd (prepended inbox more) (prepended l more) in
    let Q : Option (List ℕ) → Type 0 = λ o. IsEmpty o in
    subst P (sym none) (record { bytes = inbox; empty = empty; used = ap (prepended inbox) (sym (prepended-nil more)); over = subst Q (sym (prepended-nil more)) over })
