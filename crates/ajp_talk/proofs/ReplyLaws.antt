-- The writer after some messages, and the rule of the sum as it counts down.
use Rattle.std.proofs.Common.{◌≡◌, ◌≢◌, ℕ, ◌+◌, ◌-◌, ◌<◌, true, false, ◌==◌, List, [], ◌∷◌, length, refl, sym, ap, subst, ◌∙◌, ◌⊎◌, arith, inl, inr, Ok, Err, Option, Some, None, IfSome, is_some, eq-eqb, ne_eqb}
use Rattle.std.specs.Prelude.{nat_lt, nat_le, if◌then◌else◌}
use Rattle.std.specs.List.{list_all}
use Rattle.std.proofs.lemmas.Bool.{cases_Bool, and_from, and_parts, le-leb, leb-true, ltb-true, ltb-false, lt-ltb, le-ltb, eqb-true, eqb-false}
use Rattle.ajp_reply.specs.declared.message.ReplyParts.{ReplyParts}
use Rattle.http_out.specs.declared.framing.Framing.{Framing}
use Rattle.http_out.specs.declared.framing.Framing.TheVariants as By
use Rattle.http_out.specs.declared.framing.RequestKind.{RequestKind}
use Rattle.http_out.specs.declared.reply_head.ReplyHead.{ReplyHead}
use Rattle.http_out.specs.declared.content_length.ContentLength.{ContentLength}
use Rattle.http_out.specs.declared.content_length.ContentLength.TheVariants as Said
use Rattle.http_out.specs.Head.{IsReplyHead, is_text, is_field, content_length}
use Rattle.http_out.specs.Framing.{framing_of, is_beyond, is_complete, spent}
use Rattle.http_out.specs.ReplyBytes.{has_begun}
use Rattle.http_out.specs.Writer.{Writer, IsOpenReply, IsJudgedReplyHead, framing_after, after_head}
use Rattle.ajp_talk.specs.Replies.{head_out, is_readable, is_good, sum_of, exceeds, agrees, has_passed, told_with, told_by}
use Rattle.http_out.specs.declared.reply_head.OutError.TheVariants as Out
use Rattle.ajp_talk.specs.Courses.{writer_for}
use Rattle.ajp_talk.specs.Turns.{with_seen, with_head}
use Rattle.ajp_talk.specs.declared.course.Course.{Course}
use Rattle.ajp_talk.specs.declared.ending.Told.{Told}

-- ---- which heads are good

readable-from : (said : ContentLength) → said ≢ Said.Unreadable → is_readable said ≡ true
readable-from Said.Absent h = refl
readable-from (Said.Announced n) h = refl
readable-from Said.Unreadable h = absurd (h refl)

readable-to : (said : ContentLength) → is_readable said ≡ true → said ≢ Said.Unreadable
readable-to Said.Absent h = λ e. absurd cc
readable-to (Said.Announced n) h = λ e. absurd cc
readable-to Said.Unreadable h = λ e. absurd cc

pub good-from : (parts : ReplyParts) → IsReplyHead (head_out parts) → is_good parts ≡ true
unfolding is_good
good-from parts h =
    and_from _ _ (le-leb 200 parts.status h.final.0)
    (and_from _ _ (le-leb parts.status 999 h.final.1)
    (and_from _ _ h.message (and_from _ _ h.fields (readable-from (content_length (head_out parts)) h.one_length))))

good-to : (parts : ReplyParts) → is_good parts ≡ true → IsReplyHead (head_out parts)
unfolding is_good
good-to parts e =
    let one = and_parts (nat_le 200 parts.status) _ e in
    let two = and_parts (nat_le parts.status 999) _ one.1 in
    let three = and_parts (is_text parts.message) _ two.1 in
    let four = and_parts (list_all is_field parts.headers) _ three.1 in
    record {
      final = (leb-true 200 parts.status one.0, leb-true parts.status 999 two.0);
      message = three.0;
      fields = four.0;
      one_length = readable-to (content_length (head_out parts)) four.1;
    }

pub bad-from : (parts : ReplyParts) → ¬ (IsReplyHead (head_out parts)) → is_good parts ≡ false
bad-from parts h = elim (cases_Bool (is_good parts)) [ inl good ↦ absurd (h (good-to parts good)) | inr bad ↦ bad ]

-- ---- the sum

pub same-tests : (a b c d : ℕ) → (a < b → c < d) → (c < d → a < b) → nat_lt a b ≡ nat_lt c d
same-tests a b c d to from =
    elim (cases_Bool (nat_lt c d)) [
      | inl holds ↦ lt-ltb a b (from (ltb-true c d holds)) ∙ sym holds
      | inr no_ ↦ elim (cases_Bool (nat_lt a b)) [
        | inl holds ↦ absurd (let not_less = ltb-false c d no_ in let less = to (ltb-true a b holds) in omega arith)
        | inr none ↦ none ∙ sym no_
      ]
    ]

pub same-equals : (a b c d : ℕ) → (a ≡ b → c ≡ d) → (c ≡ d → a ≡ b) → (a == b) ≡ (c == d)
same-equals a b c d to from =
    elim (cases_Bool (c == d)) [
      | inl holds ↦ eq-eqb a b (from (eqb-true c d holds)) ∙ sym holds
      | inr no_ ↦ ne_eqb a b (λ e. eqb-false c d no_ (to e)) ∙ sym no_
    ]

pub framing_after-due : (due : ℕ) (chunks : List (List ℕ)) → framing_after (By.Length due) chunks ≡ By.Length (due - sum_of chunks)
framing_after-due due [] = ap (λ (n : ℕ). By.Length n) (omega arith)
framing_after-due due (chunk ∷ chunks) =
    ap (λ (f : Framing). spent f (length chunk)) (framing_after-due due chunks) ∙ ap (λ (n : ℕ). By.Length n) (omega arith)

pub framing_after-none : (chunks : List (List ℕ)) → framing_after By.NoBody chunks ≡ By.NoBody
framing_after-none [] = refl
framing_after-none (chunk ∷ chunks) = ap (λ (f : Framing). spent f (length chunk)) (framing_after-none chunks)

pub framing_after-closing : (chunks : List (List ℕ)) → framing_after By.Closing chunks ≡ By.Closing
framing_after-closing [] = refl
framing_after-closing (chunk ∷ chunks) = ap (λ (f : Framing). spent f (length chunk)) (framing_after-closing chunks)

pub framing_after-chunks : (chunks : List (List ℕ)) → framing_after By.Chunks chunks ≡ By.Chunks
framing_after-chunks [] = refl
framing_after-chunks (chunk ∷ chunks) = ap (λ (f : Framing). spent f (length chunk)) (framing_after-chunks chunks)

-- a chunk goes beyond what is due exactly where the sum exceeds the length
pub beyond-exceeds : (f : Framing) (chunks : List (List ℕ)) (n : ℕ) → exceeds f (sum_of chunks) ≡ false
    → is_beyond (framing_after f chunks) n ≡ exceeds f (sum_of chunks + n)
beyond-exceeds By.NoBody chunks n w = ap (λ (f : Framing). is_beyond f n) (framing_after-none chunks)
beyond-exceeds (By.Length due) chunks n w =
    let within = ltb-false due (sum_of chunks) w in
    ap (λ (f : Framing). is_beyond f n) (framing_after-due due chunks)
    ∙ same-tests (due - sum_of chunks) n due (sum_of chunks + n) (λ h. omega arith) (λ h. omega arith)
beyond-exceeds By.Closing chunks n w = ap (λ (f : Framing). is_beyond f n) (framing_after-closing chunks)
beyond-exceeds By.Chunks chunks n w = ap (λ (f : Framing). is_beyond f n) (framing_after-chunks chunks)

-- nothing is due exactly where the sum agrees
pub complete-agrees : (f : Framing) (chunks : List (List ℕ)) → exceeds f (sum_of chunks) ≡ false → is_complete (framing_after f chunks) ≡ agrees f (sum_of chunks)
complete-agrees By.NoBody chunks w = ap is_complete (framing_after-none chunks)
complete-agrees (By.Length due) chunks w =
    let within = ltb-false due (sum_of chunks) w in
    ap is_complete (framing_after-due due chunks)
    ∙ same-equals (due - sum_of chunks) 0 due (sum_of chunks) (λ h. omega arith) (λ h. omega arith)
complete-agrees By.Closing chunks w = ap is_complete (framing_after-closing chunks)
complete-agrees By.Chunks chunks w = ap is_complete (framing_after-chunks chunks)

-- nothing exceeds a length before the first chunk
pub none-exceeds : (f : Framing) → exceeds f 0 ≡ false
none-exceeds By.NoBody = refl
none-exceeds (By.Length due) = le-ltb due 0 (omega arith)
none-exceeds By.Closing = refl
none-exceeds By.Chunks = refl

-- ---- the writer

pub some-of : {A : Type 0} → (o : Option A) → is_some o ≡ true → (x : A) × (o ≡ Some x)
some-of None e = absurd cc
some-of (Some x) e = (x, refl)

pub none-of : {A : Type 0} → (o : Option A) → is_some o ≡ false → o ≡ None
none-of None e = refl
none-of (Some x) e = absurd cc

pub writer-passed : (kind : RequestKind) (o : Option ReplyParts) (chunks : List (List ℕ)) → (writer_for kind o chunks).passed ≡ has_passed kind o chunks
writer-passed kind None chunks = refl
writer-passed kind (Some parts) chunks = refl

pub writer-open : (kind : RequestKind) (o : Option ReplyParts) (chunks : List (List ℕ)) → is_some o ≡ true → IsOpenReply (writer_for kind o chunks)
writer-open kind None chunks e = absurd cc
writer-open kind (Some parts) chunks e = record { framing = framing_after (framing_of kind (head_out parts)) chunks; given = refl; goes_on = refl }

pub writer-fresh : (kind : RequestKind) (o : Option ReplyParts) (chunks : List (List ℕ)) → is_some o ≡ false → (writer_for kind o chunks).framing ≡ None
writer-fresh kind None chunks e = refl
writer-fresh kind (Some parts) chunks e = absurd cc

-- what is told, as the code has it
pub told-is : (kind : RequestKind) (o : Option ReplyParts) (chunks : List (List ℕ)) (told : Told) → IfSome o (λ parts. told ≡ told_by kind parts chunks)
    → (if (writer_for kind o chunks).passed then Some told else None) ≡ told_with kind o chunks
told-is kind None chunks told e = refl
told-is kind (Some parts) chunks told e = ap (λ (t : Told). if has_begun (framing_of kind (head_out parts)) chunks then Some t else None) e

pub first-head : (kind : RequestKind) (o : Option ReplyParts) (chunks : List (List ℕ)) (parts : ReplyParts) → o ≡ None → chunks ≡ []
    → after_head (writer_for kind o chunks) (head_out parts) ≡ writer_for kind (Some parts) chunks
first-head kind o chunks parts none first = rw (none, first) refl

-- a head that was judged, as the course has it
pub head-refused : (c : Course) (parts : ReplyParts) (head : ReplyHead) (w : Writer) → head ≡ head_out parts → IsJudgedReplyHead head c.writer w (Err Out.BadReply)
    → ((c.headers ≡ true) ⊎ (is_good parts ≡ false)) × (◌≡◌ {A = Course} (record c { writer = w; headers = true }) (with_seen c))
head-refused c parts head w is j =
    (inr (bad-from parts (subst (λ (h : ReplyHead). ¬ (IsReplyHead h)) is j.0)), ap (λ (x : Writer). record c { writer = x; headers = true }) j.1)

pub head-taken : (c : Course) (parts : ReplyParts) (head : ReplyHead) (w : Writer) → head ≡ head_out parts → IsJudgedReplyHead head c.writer w (Ok tt)
    → (is_good parts ≡ true) × (◌≡◌ {A = Course} (record c { writer = w; headers = true; told = record { status = parts.status; body = 0 } }) (with_head c parts))
head-taken c parts head w is j = (
  good-from parts (subst IsReplyHead is j.0),
  ap (λ (x : Writer). record c { writer = x; headers = true; told = record { status = parts.status; body = 0 } }) (j.1 ∙ ap (after_head c.writer) is),
)
