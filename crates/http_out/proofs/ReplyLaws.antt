-- The steps of a writer make the reply's bytes.
use Rattle.std.proofs.Common.{◌≡◌, ℕ, ◌<◌, Bool, true, false, ◌||◌, List, [], ◌∷◌, ◌++◌, length, refl, sym, ◌∙◌, ap, append_assoc, append-nil, arith, inl, inr, length-append}
use Rattle.std.specs.Prelude.{nat_lt}
use Rattle.std.proofs.lemmas.Bool.{cases_Bool, ltb-true, lt-ltb}
use Rattle.http_out.specs.declared.framing.RequestKind.{RequestKind}
use Rattle.http_out.specs.declared.framing.Framing.{Framing}
use Rattle.http_out.specs.declared.framing.Framing.TheVariants as By
use Rattle.http_out.specs.declared.reply_head.ReplyHead.{ReplyHead}
use Rattle.http_out.specs.Framing.{framing_of, framed, is_passed, closing_bytes, spent}
use Rattle.http_out.specs.ReplyBytes.{head_bytes, body_bytes, has_begun, so_far_of, reply_bytes}
use Rattle.http_out.specs.Writer.{framing_after, writer_after, chunk_bytes, after_chunk, end_bytes, GrowsByChunk, EndsWhole, StaysPrefix}

-- what was spent doesn't change how a chunk is framed
pub framed-spent : (f : Framing) (n : ℕ) (chunk : List ℕ) → framed (spent f n) chunk ≡ framed f chunk
framed-spent By.NoBody n chunk = refl
framed-spent (By.Length due) n chunk = refl
framed-spent By.Closing n chunk = refl
framed-spent By.Chunks n chunk = refl

pub framed-after : (f : Framing) (past : List (List ℕ)) (chunk : List ℕ) → framed (framing_after f past) chunk ≡ framed f chunk
framed-after f [] chunk = refl
framed-after f (c ∷ past) chunk = framed-spent (framing_after f past) (length c) chunk ∙ framed-after f past chunk

closing-spent : (f : Framing) (n : ℕ) → closing_bytes (spent f n) ≡ closing_bytes f
closing-spent By.NoBody n = refl
closing-spent (By.Length due) n = refl
closing-spent By.Closing n = refl
closing-spent By.Chunks n = refl

pub closing-after : (f : Framing) (past : List (List ℕ)) → closing_bytes (framing_after f past) ≡ closing_bytes f
closing-after f [] = refl
closing-after f (c ∷ past) = closing-spent (framing_after f past) (length c) ∙ closing-after f past

nothing-passed : (bytes : List ℕ) → nat_lt 0 (length bytes) ≡ false → bytes ≡ []
nothing-passed [] h = refl
nothing-passed (b ∷ bytes) h = let yes_it : nat_lt 0 (length (b ∷ bytes)) ≡ true = lt-ltb _ _ (omega arith) in absurd (cc)

neither : (x y : Bool) → (x || y) ≡ false → (x ≡ false) × (y ≡ false)
neither true y h = absurd (cc)
neither false y h = (refl, h)

-- before the first chunk that passes there is no byte of a body
pub body-not_begun : (f : Framing) (past : List (List ℕ)) → has_begun f past ≡ false → body_bytes f past ≡ []
body-not_begun f [] h = refl
body-not_begun f (chunk ∷ past) h =
    let both = neither _ _ h in
    rw (body-not_begun f past both.1, nothing-passed (framed f chunk) both.0) refl

some-behind : (held bytes : List ℕ) → nat_lt 0 (length bytes) ≡ true → nat_lt 0 (length (held ++ bytes)) ≡ true
some-behind held bytes h = let some : 0 < length bytes = ltb-true _ _ h in lt-ltb _ _ (simp length-append (omega arith))

or-true : (x y : Bool) → y ≡ true → (x || y) ≡ true
or-true true y h = refl
or-true false y h = h

module _ (kind : RequestKind) (h : ReplyHead) (chunk : List ℕ) (past : List (List ℕ)) where
  passed_behind : is_passed (framing_of kind h) chunk ≡ true → has_begun (framing_of kind h) past ≡ true
      → so_far_of kind h (chunk ∷ past) ≡ so_far_of kind h past ++ chunk_bytes (writer_after kind h past) chunk
  passed_behind q b = rw (framed-after (framing_of kind h) past chunk, q, b) (sym (append_assoc (head_bytes kind h) (body_bytes (framing_of kind h) past) (framed (framing_of kind h) chunk)))

  passed_first : is_passed (framing_of kind h) chunk ≡ true → has_begun (framing_of kind h) past ≡ false
      → so_far_of kind h (chunk ∷ past) ≡ so_far_of kind h past ++ chunk_bytes (writer_after kind h past) chunk
  passed_first q b = rw (framed-after (framing_of kind h) past chunk, q, b, body-not_begun (framing_of kind h) past b) refl

  dropped_behind : is_passed (framing_of kind h) chunk ≡ false → has_begun (framing_of kind h) past ≡ true
      → so_far_of kind h (chunk ∷ past) ≡ so_far_of kind h past ++ chunk_bytes (writer_after kind h past) chunk
  dropped_behind q b = rw (framed-after (framing_of kind h) past chunk, q, b, nothing-passed (framed (framing_of kind h) chunk) q) (simp append-nil)

  dropped_first : is_passed (framing_of kind h) chunk ≡ false → has_begun (framing_of kind h) past ≡ false
      → so_far_of kind h (chunk ∷ past) ≡ so_far_of kind h past ++ chunk_bytes (writer_after kind h past) chunk
  dropped_first q b = rw (framed-after (framing_of kind h) past chunk, q, b) refl

  grows-bytes : so_far_of kind h (chunk ∷ past) ≡ so_far_of kind h past ++ chunk_bytes (writer_after kind h past) chunk
  grows-bytes =
      elim (cases_Bool (is_passed (framing_of kind h) chunk)) as (λ _. so_far_of kind h (chunk ∷ past) ≡ so_far_of kind h past ++ chunk_bytes (writer_after kind h past) chunk) [
        | inl q ↦ elim (cases_Bool (has_begun (framing_of kind h) past)) as (λ _. so_far_of kind h (chunk ∷ past) ≡ so_far_of kind h past ++ chunk_bytes (writer_after kind h past) chunk) [ inl b ↦ passed_behind q b | inr b ↦ passed_first q b ]
        | inr q ↦ elim (cases_Bool (has_begun (framing_of kind h) past)) as (λ _. so_far_of kind h (chunk ∷ past) ≡ so_far_of kind h past ++ chunk_bytes (writer_after kind h past) chunk) [ inl b ↦ dropped_behind q b | inr b ↦ dropped_first q b ]
      ]

  state_passed : is_passed (framing_of kind h) chunk ≡ true → after_chunk (writer_after kind h past) chunk ≡ writer_after kind h (chunk ∷ past)
  state_passed q =
      let some = some-behind (writer_after kind h past).held (framed (framing_of kind h) chunk) q in
      rw (framed-after (framing_of kind h) past chunk, q, some, or-true (has_begun (framing_of kind h) past) true refl) refl

  state_dropped : is_passed (framing_of kind h) chunk ≡ false → after_chunk (writer_after kind h past) chunk ≡ writer_after kind h (chunk ∷ past)
  state_dropped q = rw (framed-after (framing_of kind h) past chunk, q) refl

  grows-state : after_chunk (writer_after kind h past) chunk ≡ writer_after kind h (chunk ∷ past)
  grows-state =
      elim (cases_Bool (is_passed (framing_of kind h) chunk)) as (λ _. after_chunk (writer_after kind h past) chunk ≡ writer_after kind h (chunk ∷ past))
      [ inl q ↦ state_passed q | inr q ↦ state_dropped q ]

pub grows : GrowsByChunk
grows kind h chunk past = (grows-bytes kind h chunk past, grows-state kind h chunk past)

module _ (kind : RequestKind) (h : ReplyHead) (past : List (List ℕ)) where
  ends_begun : has_begun (framing_of kind h) past ≡ true → reply_bytes kind h past ≡ so_far_of kind h past ++ end_bytes (writer_after kind h past)
  ends_begun b = rw (closing-after (framing_of kind h) past, b) refl

  ends_held : has_begun (framing_of kind h) past ≡ false → reply_bytes kind h past ≡ so_far_of kind h past ++ end_bytes (writer_after kind h past)
  ends_held b = rw (closing-after (framing_of kind h) past, b, body-not_begun (framing_of kind h) past b) (simp append-nil)

  ends-bytes : reply_bytes kind h past ≡ so_far_of kind h past ++ end_bytes (writer_after kind h past)
  ends-bytes =
      elim (cases_Bool (has_begun (framing_of kind h) past)) as (λ _. reply_bytes kind h past ≡ so_far_of kind h past ++ end_bytes (writer_after kind h past))
      [ inl b ↦ ends_begun b | inr b ↦ ends_held b ]

pub ends : EndsWhole
ends kind h past = ends-bytes kind h past

-- what was written stays a front of what is written later
pub so_far-later : (kind : RequestKind) (h : ReplyHead) (later past : List (List ℕ))
    → (rest : List ℕ) × (so_far_of kind h (later ++ past) ≡ so_far_of kind h past ++ rest)
so_far-later kind h [] past = ([], sym (append-nil (so_far_of kind h past)))
so_far-later kind h (chunk ∷ later) past =
    let before = so_far-later kind h later past in
    let more = chunk_bytes (writer_after kind h (later ++ past)) chunk in
    (before.0 ++ more, grows-bytes kind h chunk (later ++ past) ∙ ap (λ x. x ++ more) before.1 ∙ append_assoc (so_far_of kind h past) before.0 more)

pub stays : StaysPrefix
stays kind h later past =
    let before = so_far-later kind h later past in
    let more = end_bytes (writer_after kind h (later ++ past)) in
    (before.0 ++ more, ends kind h (later ++ past) ∙ ap (λ x. x ++ more) before.1 ∙ append_assoc (so_far_of kind h past) before.0 more)
