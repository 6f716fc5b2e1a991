-- A payload that is read spells what was read, and one that spells a message is read as that message.
use Rattle.std.proofs.Common.{◌≡◌, ◌≢◌, ℕ, zero, suc, ◌<◌, ◌≤◌, Bool, true, false, cond, ltb, eqb, List, [], ◌∷◌, ◌++◌, length, take, drop, get_or, Result, Ok, Err, refl, sym, ap, subst, ◌∙◌, arith, ◌⊎◌, inl, inr}
use Rattle.std.proofs.lemmas.Bool.{cases_lt, ltb-false, le-ltb, eqb-true}
use Rattle.std.proofs.lemmas.List.{append-nil, take_at, drop_at, take-append-drop, length-take, length-append, get_or_past}
use Rattle.ajp_wire.specs.declared.refusal.Refusal.{Refusal}
use Rattle.ajp_wire.specs.declared.refusal.RefusalKind.{RefusalKind}
use Rattle.ajp_wire.specs.declared.refusal.RefusalKind.TheVariants as kinds
use Rattle.ajp_wire.specs.declared.refusal.RefusalKind.TheVariants.{Short, BadCode}
use Rattle.ajp_wire.specs.Spelling.{int, string, SpellsText}
use Rattle.ajp_wire.specs.declared.refusal.NotRead.{NotRead}
use Rattle.ajp_wire.specs.declared.refusal.NotRead.TheVariants as why
use Rattle.ajp_wire.specs.declared.errors.DecodeError.{DecodeError}
use Rattle.ajp_wire.specs.declared.errors.DecodeError.TheVariants as errors
use Rattle.ajp_wire.specs.Reading.{◌>>=◌, Halts, error_at, told, refused, int_at, text_at, headers_at}
use Rattle.ajp_wire.proofs.ReadingLaws.{IsBytes, IsBytes-rest, IsBytes-behind, Front-rest, bind_ok, ok_is, chosen, int_value, int_takes, text_takes, text_again}
use Rattle.ajp_wire.proofs.HeaderLaws.{headers_take, headers_again}
use Rattle.ajp_reply.specs.declared.message.Message.{Message}
use Rattle.ajp_reply.specs.declared.message.Message.TheVariants.{Headers, Chunk, End, Ask, Pong}
use Rattle.ajp_reply.specs.declared.message.ReplyParts.{ReplyParts}
use Rattle.ajp_wire.specs.Names.{headers_bytes}
use Rattle.ajp_wire.proofs.WritingLaws.{headers-spelled, length-headers_as_read}
use Rattle.ajp_reply.specs.Spelling.{reply_names, SpellsHead, SpellsChunk, Spells, IsMessage, FieldsFit, TakesMemory, payload_of, as_read}
use Rattle.ajp_reply.specs.Reading.{ended, chunk_end, chunk_at, head_at, end_at, ask_at, message_at, ReadsWithMemory}

-- ---- what is read is spelled

ended_takes : (x m : Message) (rest : List ℕ) → ended x rest ≡ Ok m → (x ≡ m) × (rest ≡ [])
ended_takes x m [] e = (ok_is x m e, refl)
ended_takes x m (byte ∷ rest) e = absurd cc

abbrev pub parts_of : ℕ → List ℕ → List (List ℕ × List ℕ) → ReplyParts
parts_of status message headers = record { status = status; message = message; headers = headers }

head_takes : (bytes : List ℕ) (m : Message) → IsBytes bytes → head_at bytes ≡ Ok m → Spells m (4 ∷ bytes)
unfolding head_at
head_takes bytes m fits e =
    let a = bind_ok (int_at bytes) (λ status. text_at true status.1 >>= λ text. headers_at reply_names true text.1 >>= λ listed. ended (Headers (parts_of status.0 text.0 listed.0)) listed.1) m e in
    let b = bind_ok (text_at true a.0.1) (λ text. headers_at reply_names true text.1 >>= λ listed. ended (Headers (parts_of a.0.0 text.0 listed.0)) listed.1) m a.2 in
    let c = bind_ok (headers_at reply_names true b.0.1) (λ listed. ended (Headers (parts_of a.0.0 b.0.0 listed.0)) listed.1) m b.2 in
    let d = ended_takes (Headers (parts_of a.0.0 b.0.0 c.0.0)) m c.0.1 c.2 in
    let status = int_takes bytes a.0.1 a.0.0 fits a.1 in
    let behind_status = IsBytes-behind (int a.0.0) a.0.1 (subst IsBytes status.0 fits) in
    let text = text_takes true a.0.1 b.0.0 b.0.1 behind_status b.1 in
    let listed = headers_take reply_names true b.0.1 c.0.0 c.0.1 (Front-rest (SpellsText true b.0.0) a.0.1 b.0.1 text behind_status) c.1 in
    let last : listed.listed ++ c.0.1 ≡ listed.listed = ap (λ (r : List ℕ). listed.listed ++ r) d.1 ∙ append-nil listed.listed in
    let whole : bytes ≡ int a.0.0 ++ (text.front ++ (int (length c.0.0) ++ listed.listed)) =
    status.0 ∙ ap (λ (r : List ℕ). int a.0.0 ++ r) (text.parts ∙ ap (λ (r : List ℕ). text.front ++ r) (listed.parts ∙ ap (λ (r : List ℕ). int (length c.0.0) ++ r) last)) in
    subst (λ (y : Message). Spells y (4 ∷ bytes)) d.0
    (record { message = text.front; headers = listed.listed; whole = ap (λ (r : List ℕ). 4 ∷ r) whole; status = status.1; text = text.spelled; few = listed.few; each = listed.spelled })

chunk_end_takes : (bytes behind : List ℕ) (m : Message) → chunk_end bytes behind ≡ Ok m → (Chunk bytes ≡ m) × ((behind ≡ []) ⊎ (behind ≡ 0 ∷ []))
chunk_end_takes bytes [] m e = (ok_is (Chunk bytes) m e, inl refl)
chunk_end_takes bytes (zero ∷ rest) m e =
    let d = ended_takes (Chunk bytes) m rest e in
    (d.0, inr (ap (λ (r : List ℕ). 0 ∷ r) d.1))
chunk_end_takes bytes (suc byte ∷ rest) m e = absurd cc

chunk_takes : (bytes : List ℕ) (m : Message) → IsBytes bytes → chunk_at bytes ≡ Ok m → Spells m (3 ∷ bytes)
unfolding chunk_at
chunk_takes bytes m fits e =
    let a = bind_ok (int_at bytes) (λ size. cond (ltb (length size.1) size.0) (refused Short []) (chunk_end (take size.0 size.1) (drop size.0 size.1))) m e in
    let n = a.0.0 in
    let after = a.0.1 in
    let size = int_takes bytes after n fits a.1 in
    elim (chosen (ltb (length after) n) (refused Short []) (chunk_end (take n after) (drop n after)) (Ok m) a.2) [
      | inl w ↦ absurd cc
      | inr w ↦
          let long : n ≤ length after = ltb-false _ _ w.0 in
          let len : length (take n after) ≡ n = omega (arith, length-take n after) in
          let d = chunk_end_takes (take n after) (drop n after) m w.1 in
          let front : bytes ≡ int (length (take n after)) ++ (take n after ++ drop n after) =
          size.0 ∙ ap (λ (r : List ℕ). int n ++ r) (sym (take-append-drop n after)) ∙ ap (λ (k : ℕ). int k ++ (take n after ++ drop n after)) (sym len) in
          subst (λ (y : Message). Spells y (3 ∷ bytes)) d.0
          (record {
            narrow = omega (arith, size.1, len);
            whole = elim d.1 [
              | inl none ↦ inr (ap (λ (r : List ℕ). 3 ∷ r) (front ∙ ap (λ (r : List ℕ). int (length (take n after)) ++ (take n after ++ r)) none ∙ ap (λ (r : List ℕ). int (length (take n after)) ++ r) (append-nil (take n after))))
              | inr mark ↦ inl (ap (λ (r : List ℕ). 3 ∷ r) (front ∙ ap (λ (r : List ℕ). int (length (take n after)) ++ (take n after ++ r)) mark))
            ];
          })
    ]

end_takes : (bytes : List ℕ) (m : Message) → IsBytes bytes → end_at bytes ≡ Ok m → Spells m (5 ∷ bytes)
end_takes [] m fits e = absurd cc
end_takes (byte ∷ rest) m fits e =
    let d = ended_takes (End (eqb byte 1)) m rest e in
    subst (λ (y : Message). Spells y (5 ∷ byte ∷ rest)) d.0
    (record { byte = byte; narrow = fits 0; whole = ap (λ (r : List ℕ). 5 ∷ byte ∷ r) d.1; again = refl })

ask_takes : (bytes : List ℕ) (m : Message) → IsBytes bytes → ask_at bytes ≡ Ok m → Spells m (6 ∷ bytes)
unfolding ask_at
ask_takes bytes m fits e =
    let a = bind_ok (int_at bytes) (λ most. ended (Ask most.0) most.1) m e in
    let d = ended_takes (Ask a.0.0) m a.0.1 a.2 in
    let most = int_takes bytes a.0.1 a.0.0 fits a.1 in
    subst (λ (y : Message). Spells y (6 ∷ bytes)) d.0
    (most.1, ap (λ (r : List ℕ). 6 ∷ r) (most.0 ∙ ap (λ (r : List ℕ). int a.0.0 ++ r) d.1))

pong_takes : (bytes : List ℕ) (m : Message) → ended Pong bytes ≡ Ok m → Spells m (9 ∷ bytes)
pong_takes bytes m e =
    let d = ended_takes Pong m bytes e in
    subst (λ (y : Message). Spells y (9 ∷ bytes)) d.0 (ap (λ (r : List ℕ). 9 ∷ r) d.1)

abbrev at_nine : ℕ → List ℕ → Result Message Refusal
at_nine code rest = cond (eqb code 9) (ended Pong rest) (refused BadCode (code ∷ rest))

abbrev at_six : ℕ → List ℕ → Result Message Refusal
at_six code rest = cond (eqb code 6) (ask_at rest) (at_nine code rest)

abbrev at_five : ℕ → List ℕ → Result Message Refusal
at_five code rest = cond (eqb code 5) (end_at rest) (at_six code rest)

abbrev at_three : ℕ → List ℕ → Result Message Refusal
at_three code rest = cond (eqb code 3) (chunk_at rest) (at_five code rest)

coded : (code known : ℕ) (rest : List ℕ) (m : Message) → eqb code known ≡ true → Spells m (known ∷ rest) → Spells m (code ∷ rest)
coded code known rest m e s = subst (λ (c : ℕ). Spells m (c ∷ rest)) (sym (eqb-true code known e)) s

nine_takes : (code : ℕ) (rest : List ℕ) (m : Message) → IsBytes rest → at_nine code rest ≡ Ok m → Spells m (code ∷ rest)
nine_takes code rest m fits e =
    elim (chosen (eqb code 9) (ended Pong rest) (refused BadCode (code ∷ rest)) (Ok m) e) [ inl w ↦ coded code 9 rest m w.0 (pong_takes rest m w.1) | inr w ↦ absurd cc ]

six_takes : (code : ℕ) (rest : List ℕ) (m : Message) → IsBytes rest → at_six code rest ≡ Ok m → Spells m (code ∷ rest)
six_takes code rest m fits e =
    elim (chosen (eqb code 6) (ask_at rest) (at_nine code rest) (Ok m) e) [ inl w ↦ coded code 6 rest m w.0 (ask_takes rest m fits w.1) | inr w ↦ nine_takes code rest m fits w.1 ]

five_takes : (code : ℕ) (rest : List ℕ) (m : Message) → IsBytes rest → at_five code rest ≡ Ok m → Spells m (code ∷ rest)
five_takes code rest m fits e =
    elim (chosen (eqb code 5) (end_at rest) (at_six code rest) (Ok m) e) [ inl w ↦ coded code 5 rest m w.0 (end_takes rest m fits w.1) | inr w ↦ six_takes code rest m fits w.1 ]

three_takes : (code : ℕ) (rest : List ℕ) (m : Message) → IsBytes rest → at_three code rest ≡ Ok m → Spells m (code ∷ rest)
three_takes code rest m fits e =
    elim (chosen (eqb code 3) (chunk_at rest) (at_five code rest) (Ok m) e) [ inl w ↦ coded code 3 rest m w.0 (chunk_takes rest m fits w.1) | inr w ↦ five_takes code rest m fits w.1 ]

pub message_takes : (payload : List ℕ) (m : Message) → IsBytes payload → message_at payload ≡ Ok m → Spells m payload
message_takes [] m fits e = absurd cc
message_takes (code ∷ rest) m fits e =
    let behind = IsBytes-rest code rest fits in
    elim (chosen (eqb code 4) (head_at rest) (at_three code rest) (Ok m) e) [ inl w ↦ coded code 4 rest m w.0 (head_takes rest m behind w.1) | inr w ↦ three_takes code rest m behind w.1 ]

-- ---- what is spelled is read

head_again : (parts : ReplyParts) (payload : List ℕ) → SpellsHead parts payload → message_at payload ≡ Ok (Headers parts)
unfolding head_at
head_again parts payload s =
    let few = s.few in
    let listed : headers_at reply_names true (int (length parts.headers) ++ s.headers) ≡ Ok (parts.headers, []) =
    ap (λ (r : List ℕ). headers_at reply_names true (int (length parts.headers) ++ r)) (sym (append-nil s.headers)) ∙ headers_again reply_names true parts.headers s.headers [] (omega arith) few s.each in
    ap message_at s.whole ∙ rw (int_value parts.status, text_again true parts.message s.message (int (length parts.headers) ++ s.headers) s.text, listed) refl

chunk_read : (bytes behind : List ℕ) → length bytes < 65536 → chunk_at (int (length bytes) ++ (bytes ++ behind)) ≡ chunk_end bytes behind
unfolding chunk_at
chunk_read bytes behind narrow =
    let long : ltb (length (bytes ++ behind)) (length bytes) ≡ false = le-ltb _ _ (omega (arith, length-append bytes behind)) in
    rw (int_value (length bytes), long, take_at bytes behind (length bytes) refl, drop_at bytes behind (length bytes) refl) refl

chunk_again : (bytes payload : List ℕ) → SpellsChunk bytes payload → message_at payload ≡ Ok (Chunk bytes)
chunk_again bytes payload s =
    elim s.whole [
      | inl marked ↦ ap message_at marked ∙ chunk_read bytes (0 ∷ []) s.narrow
      | inr bare ↦ ap message_at bare ∙ ap (λ (r : List ℕ). chunk_at (int (length bytes) ++ r)) (sym (append-nil bytes)) ∙ chunk_read bytes [] s.narrow
    ]

pub message_again : (m : Message) (payload : List ℕ) → Spells m payload → message_at payload ≡ Ok m
unfolding ask_at
message_again (Headers parts) payload s = head_again parts payload s
message_again (Chunk bytes) payload s = chunk_again bytes payload s
message_again (End reuse) payload s = ap message_at s.whole ∙ ap (λ (b : Bool). Ok (End b)) (sym s.again)
message_again (Ask most) payload s = ap message_at s.1 ∙ ap (λ (k : ℕ). Ok (Ask k)) (int_value most)
message_again Pong payload s = ap message_at s

-- a payload spells one message
pub spells-only : (m n : Message) (payload : List ℕ) → Spells m payload → Spells n payload → m ≡ n
spells-only m n payload s t = ok_is m n (sym (message_again m payload s) ∙ message_again n payload t)

-- the items of bytes in memory are bytes
pub are-bytes : (items : List ℕ) → ((i : ℕ) → i < length items → get_or items i 0 < 256) → IsBytes items
are-bytes items each = λ i. elim (cases_lt i (length items)) [ inl within ↦ each i within | inr past ↦ omega (arith, get_or_past items i 0 past) ]

-- what is spelled can be written
pub spelled-writable : (m : Message) (payload : List ℕ) → Spells m payload → IsMessage m
spelled-writable (Headers parts) payload s = (s.status, s.few)
spelled-writable (Chunk bytes) payload s = tt
spelled-writable (End reuse) payload s = tt
spelled-writable (Ask most) payload s = s.0
spelled-writable Pong payload s = tt

never_memory : (kind : RefusalKind) (at : ℕ) → error_at kind at ≡ errors.NoMemory → ⊥
never_memory kinds.Short at e = cc
never_memory kinds.BadCode at e = cc
never_memory kinds.BadMark at e = cc
never_memory kinds.BadBoolean at e = cc
never_memory kinds.Extra at e = cc
never_memory kinds.TooMany at e = cc
never_memory kinds.Absent at e = cc

-- want of memory is told where memory was wanted
pub told-wanted : (stop : NotRead) (len : ℕ) (error : DecodeError) → error ≡ told len stop → ◌≡◌ {A = Result Message DecodeError} (Err error) (Err errors.NoMemory)
    → stop ≡ why.NoMemory
told-wanted why.NoMemory len error is e = refl
told-wanted (why.Refused r) len error is e =
    let same : error ≡ errors.NoMemory = cc in absurd (never_memory r.kind _ (sym is ∙ same))

-- what is read as a chunk spells one
pub memory_taken : (payload : List ℕ) → IsBytes payload → ReadsWithMemory payload → TakesMemory payload
memory_taken payload fits (inl head) = inl head
memory_taken payload fits (inr chunk) = inr (chunk.0, message_takes payload (Chunk chunk.0) fits chunk.1)

-- where a payload is refused, it spells no message
pub halted-none : (stop : NotRead) (len : ℕ) (error : DecodeError) (payload : List ℕ) → Halts stop (message_at payload) → error ≡ told len stop → error ≢ errors.NoMemory
    → (m : Message) → Spells m payload → ⊥
halted-none why.NoMemory len error payload h e not_memory m s = absurd (not_memory e)
halted-none (why.Refused r) len error payload h e not_memory m s =
    let read = message_again m payload s in
    let refused_is : message_at payload ≡ Err r = h in
    cc

-- ---- what is written

end-spelled : (reuse : Bool) → Spells (End reuse) (payload_of (End reuse))
end-spelled true = record { byte = 1; narrow = omega arith; whole = refl; again = refl }
end-spelled false = record { byte = 0; narrow = omega arith; whole = refl; again = refl }

pub written-spelled : (m : Message) → IsMessage m → FieldsFit m → Spells (as_read m) (payload_of m)
written-spelled (Headers parts) small fits =
    let same = length-headers_as_read reply_names parts.headers in
    record {
      message = string parts.message;
      headers = headers_bytes reply_names parts.headers;
      whole = ap (λ (n : ℕ). 4 ∷ int parts.status ++ (string parts.message ++ (int n ++ headers_bytes reply_names parts.headers))) (sym same);
      status = small.0;
      text = inl (fits.0, refl);
      few = omega (arith, same, small.1);
      each = headers-spelled reply_names true parts.headers fits.1;
    }
written-spelled (Chunk bytes) small fits = record { narrow = fits; whole = inl refl }
written-spelled (End reuse) small fits = end-spelled reuse
written-spelled (Ask most) small fits = (small, refl)
written-spelled Pong small fits = refl

pub written-only : (m n : Message) → IsMessage m → FieldsFit m → Spells n (payload_of m) → n ≡ as_read m
written-only m n small fits s = spells-only n (as_read m) (payload_of m) s (written-spelled m small fits)
