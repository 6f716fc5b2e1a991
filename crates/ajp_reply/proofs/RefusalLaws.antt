-- Where the reading of a message stops: what stands before the place begins a message, and what stands there spoils it.
use Rattle.std.proofs.Common.{◌≡◌, ℕ, zero, suc, ◌<◌, ◌≤◌, true, false, cond, ltb, eqb, List, [], ◌∷◌, ◌++◌, length, take, drop, replicate, Result, Ok, Err, refl, sym, ap, subst, ◌∙◌, arith, append_assoc, ◌⊎◌, inl, inr, ◌-◌}
use Rattle.std.proofs.lemmas.Bool.{ltb-true, ltb-false, le-ltb, eqb-true}
use Rattle.std.proofs.lemmas.List.{append-nil, take_at, drop_at, take-append-drop, length-take, length-append, length-replicate}
use Rattle.ajp_wire.specs.declared.refusal.Refusal.{Refusal}
use Rattle.ajp_wire.specs.declared.refusal.RefusalKind.TheVariants.{Short, BadCode, BadMark, Extra}
use Rattle.ajp_wire.specs.declared.refusal.NotRead.{NotRead}
use Rattle.ajp_wire.specs.Spelling.{int, absent, SpellsText}
use Rattle.ajp_wire.specs.Reading.{◌>>=◌, Halts, told, refused, text_at, headers_at}
use Rattle.ajp_wire.specs.FirstPlace.{IsRefused}
use Rattle.ajp_wire.proofs.ReadingLaws.{IsBytes, IsBytes-rest, IsBytes-behind, Front-rest, chosen, int_value, text_takes, text_again}
use Rattle.ajp_wire.proofs.HeaderLaws.{headers_take, headers_again}
use Rattle.ajp_wire.proofs.FirstPlaces.{is_placed, Fails, Stops, fails-bind, bind_err, refusal_is, starts, behind_it, int_cases, same_refusal, told-refused}
use Rattle.ajp_wire.proofs.StopLaws.{GoodText, text_stops, GoodHeaders, headers_stops}
use Rattle.ajp_reply.specs.declared.message.Message.{Message}
use Rattle.ajp_reply.specs.declared.message.Message.TheVariants.{Headers, Chunk, End, Ask, Pong}
use Rattle.ajp_reply.specs.declared.message.ReplyParts.{ReplyParts}
use Rattle.ajp_reply.specs.Spelling.{reply_names, SpellsHead, SpellsChunk, IsSpelled}
use Rattle.ajp_reply.specs.Reading.{ended, chunk_end, chunk_at, head_at, end_at, ask_at, message_at}
use Rattle.ajp_reply.proofs.ReplyLaws.{message_again, parts_of}

abbrev IsNothing : List ℕ → Type 0
IsNothing bytes = bytes ≡ []

ended_stops : (x : Message) (bytes : List ℕ) (r : Refusal) → ended x bytes ≡ Err r → Stops IsNothing (ended x) bytes r
ended_stops x [] r e = absurd cc
ended_stops x (byte ∷ rest) r e =
    let k = refusal_is {A = Message} Extra (byte ∷ rest) r e in
    record {
      front = [];
      there = byte ∷ [];
      behind = rest;
      more = [];
      whole = refl;
      opens = refl;
      how = inr (record { kind = ap is_placed k.0; left = k.1; some = omega arith; few = omega arith; always = λ y. tt });
    }

-- ---- Send Headers

abbrev GoodHead : List ℕ → Type 0
GoodHead bytes = (parts : ReplyParts) × SpellsHead parts (4 ∷ bytes)

abbrev after_text : ℕ → List ℕ × List ℕ → Result Message Refusal
after_text status text = headers_at reply_names true text.1 >>= λ listed. ended (Headers (parts_of status text.0 listed.0)) listed.1

abbrev after_status : ℕ × List ℕ → Result Message Refusal
after_status status = text_at true status.1 >>= after_text status.0

head_stops : (bytes : List ℕ) (r : Refusal) → IsBytes bytes → head_at bytes ≡ Err r → Stops GoodHead head_at bytes r
unfolding head_at
head_stops bytes r fits e =
    elim (int_cases bytes fits) [
      | inl (s, read, kind, left, few) ↦
          let same : s ≡ r = same_refusal {A = Message} s r (sym (ap (λ (x : Result (ℕ × List ℕ) Refusal). x >>= after_status) read) ∙ e) in
          starts GoodHead head_at bytes r (0 ∷ 0 ∷ (absent ++ (0 ∷ 0 ∷ []))) (ap (λ (x : Refusal). x.kind) (sym same) ∙ kind) (ap (λ (x : Refusal). x.left) (sym same) ∙ left) few
          (parts_of 0 [] [], record { message = absent; headers = []; whole = refl; status = omega arith; text = inr (refl, refl, refl); few = omega arith; each = refl })
      | inr (n, after, read, whole, narrow) ↦
          let behind_status = IsBytes-behind (int n) after (subst IsBytes whole fits) in
          let on = sym (ap (λ (x : Result (ℕ × List ℕ) Refusal). x >>= after_status) read) ∙ e in
          elim (bind_err (text_at true after) (after_text n) r on) [
            | inl stopped ↦
                behind_it (GoodText true) GoodHead (text_at true) head_at (int n) bytes after r whole (text_stops true after r behind_status stopped)
                (λ b good. (0 ∷ 0 ∷ [], (parts_of n good.0 [], record { message = b; headers = []; whole = refl; status = narrow; text = good.1; few = omega arith; each = refl })))
                (λ y h. rw (int_value n) (fails-bind (text_at true y) (after_text n) h))
            | inr (text, read_text, on_text) ↦
                let f = text_takes true after text.0 text.1 behind_status read_text in
                let behind_text = Front-rest (SpellsText true text.0) after text.1 f behind_status in
                let front_is : bytes ≡ (int n ++ f.front) ++ text.1 = whole ∙ ap (λ (b : List ℕ). int n ++ b) f.parts ∙ sym (append_assoc (int n) f.front text.1) in
                let reads_on : (y : List ℕ) → head_at ((int n ++ f.front) ++ y) ≡ after_text n (text.0, y) =
                λ y. ap head_at (append_assoc (int n) f.front y) ∙ rw (int_value n, text_again true text.0 f.front y f.spelled) refl in
                elim (bind_err (headers_at reply_names true text.1) (λ listed. ended (Headers (parts_of n text.0 listed.0)) listed.1) r on_text) [
                  | inl stopped ↦
                      behind_it (GoodHeaders reply_names true) GoodHead (headers_at reply_names true) head_at (int n ++ f.front) bytes text.1 r front_is
                      (headers_stops reply_names true text.1 r (omega arith) behind_text stopped)
                      (λ b good. (
                        [],
                        (
                          parts_of n text.0 good.0,
                          record {
                            message = f.front;
                            headers = good.1;
                            whole = ap (λ (x : List ℕ). 4 ∷ x) (append_assoc (int n) f.front (b ++ []) ∙ ap (λ (x : List ℕ). int n ++ (f.front ++ x)) (append-nil b ∙ good.4));
                            status = narrow;
                            text = f.spelled;
                            few = good.2;
                            each = good.3;
                          },
                        ),
                      ))
                      (λ y h. subst Fails (sym (reads_on y)) (fails-bind (headers_at reply_names true y) (λ listed. ended (Headers (parts_of n text.0 listed.0)) listed.1) h))
                  | inr (listed, read_listed, on_listed) ↦
                      let l = headers_take reply_names true text.1 listed.0 listed.1 behind_text read_listed in
                      let all : List ℕ = int (length listed.0) ++ l.listed in
                      let all_is : bytes ≡ ((int n ++ f.front) ++ all) ++ listed.1 =
                      front_is ∙ ap (λ (b : List ℕ). (int n ++ f.front) ++ b) (l.parts ∙ sym (append_assoc (int (length listed.0)) l.listed listed.1)) ∙ sym (append_assoc (int n ++ f.front) all listed.1) in
                      behind_it IsNothing GoodHead (ended (Headers (parts_of n text.0 listed.0))) head_at ((int n ++ f.front) ++ all) bytes listed.1 r all_is
                      (ended_stops (Headers (parts_of n text.0 listed.0)) listed.1 r on_listed)
                      (λ b none. (
                        [],
                        (
                          parts_of n text.0 listed.0,
                          record {
                            message = f.front;
                            headers = l.listed;
                            whole = ap (λ (x : List ℕ). 4 ∷ x) (ap (λ (x : List ℕ). ((int n ++ f.front) ++ all) ++ x) (append-nil b ∙ none) ∙ append-nil ((int n ++ f.front) ++ all) ∙ append_assoc (int n) f.front all);
                            status = narrow;
                            text = f.spelled;
                            few = l.few;
                            each = l.spelled;
                          },
                        ),
                      ))
                      (λ y h.
                      let again : headers_at reply_names true (all ++ y) ≡ Ok (listed.0, y) = ap (headers_at reply_names true) (append_assoc (int (length listed.0)) l.listed y) ∙ headers_again reply_names true listed.0 l.listed y (omega arith) l.few l.spelled in
                      let whole_is : head_at (((int n ++ f.front) ++ all) ++ y) ≡ ended (Headers (parts_of n text.0 listed.0)) y =
                      ap head_at (append_assoc (int n ++ f.front) all y) ∙ reads_on (all ++ y) ∙ ap (λ (x : Result (List (List ℕ × List ℕ) × List ℕ) Refusal). x >>= λ listed. ended (Headers (parts_of n text.0 listed.0)) listed.1) again in
                      subst Fails (sym whole_is) h)
                ]
          ]
    ]

-- ---- Send Body Chunk

abbrev GoodChunk : List ℕ → Type 0
GoodChunk bytes = (data_is : List ℕ) × SpellsChunk data_is (3 ∷ bytes)

abbrev after_size : ℕ × List ℕ → Result Message Refusal
after_size size = cond (ltb (length size.1) size.0) (refused Short []) (chunk_end (take size.0 size.1) (drop size.0 size.1))

-- what can't stand after a chunk's data
abbrev IsTail : List ℕ → Type 0
IsTail tail = (tail ≡ []) ⊎ (tail ≡ 0 ∷ [])

chunk_end_stops : (bytes behind : List ℕ) (r : Refusal) → chunk_end bytes behind ≡ Err r → Stops IsTail (chunk_end bytes) behind r
chunk_end_stops bytes [] r e = absurd cc
chunk_end_stops bytes (suc byte ∷ rest) r e =
    let k = refusal_is {A = Message} BadMark (suc byte ∷ rest) r e in
    record {
      front = [];
      there = suc byte ∷ [];
      behind = rest;
      more = [];
      whole = refl;
      opens = inl refl;
      how = inr (record { kind = ap is_placed k.0; left = k.1; some = omega arith; few = omega arith; always = λ y. tt });
    }
chunk_end_stops bytes (zero ∷ rest) r e =
    behind_it IsNothing IsTail (ended (Chunk bytes)) (chunk_end bytes) (0 ∷ []) (0 ∷ rest) rest r refl (ended_stops (Chunk bytes) rest r e)
    (λ b none. ([], inr (ap (λ (x : List ℕ). 0 ∷ x) (append-nil b ∙ none))))
    (λ y h. h)

abbrev zeros : ℕ → List ℕ
zeros n = replicate n 0

length-zeros : (n : ℕ) → length (zeros n) ≡ n
length-zeros n = length-replicate n 0

chunk_stops : (bytes : List ℕ) (r : Refusal) → IsBytes bytes → chunk_at bytes ≡ Err r → Stops GoodChunk chunk_at bytes r
unfolding chunk_at
chunk_stops bytes r fits e =
    elim (int_cases bytes fits) [
      | inl (s, read, kind, left, few) ↦
          let same : s ≡ r = same_refusal {A = Message} s r (sym (ap (λ (x : Result (ℕ × List ℕ) Refusal). x >>= after_size) read) ∙ e) in
          starts GoodChunk chunk_at bytes r (0 ∷ 0 ∷ []) (ap (λ (x : Refusal). x.kind) (sym same) ∙ kind) (ap (λ (x : Refusal). x.left) (sym same) ∙ left) few
          ([], record { narrow = omega arith; whole = inr refl })
      | inr (n, after, read, whole, narrow) ↦
          let on = sym (ap (λ (x : Result (ℕ × List ℕ) Refusal). x >>= after_size) read) ∙ e in
          elim (chosen (ltb (length after) n) (refused Short []) (chunk_end (take n after) (drop n after)) (Err r) on) [
            | inl w ↦
                let k = refusal_is {A = Message} Short [] r w.1 in
                let lacking : length after < n = ltb-true _ _ w.0 in
                let filler : List ℕ = zeros (n - length after) in
                let long : length (after ++ filler) ≡ n = omega (arith, length-append after filler, length-zeros (n - length after)) in
                record {
                  front = bytes;
                  there = [];
                  behind = [];
                  more = filler;
                  whole = sym (append-nil bytes);
                  opens = (
                    after ++ filler,
                    record {
                      narrow = omega (arith, long);
                      whole = inr (ap (λ (x : List ℕ). 3 ∷ x) (ap (λ (x : List ℕ). x ++ filler) whole ∙ append_assoc (int n) after filler ∙ ap (λ (m : ℕ). int m ++ (after ++ filler)) (sym long)));
                    },
                  );
                  how = inl (record { kind = k.0; left = k.1; few = omega arith; last = refl });
                }
            | inr w ↦
                let enough : n ≤ length after = ltb-false _ _ w.0 in
                let text : List ℕ = take n after in
                let long : length text ≡ n = omega (arith, length-take n after) in
                let front_is : bytes ≡ (int n ++ text) ++ drop n after =
                whole ∙ ap (λ (x : List ℕ). int n ++ x) (sym (take-append-drop n after)) ∙ sym (append_assoc (int n) text (drop n after)) in
                behind_it IsTail GoodChunk (chunk_end text) chunk_at (int n ++ text) bytes (drop n after) r front_is (chunk_end_stops text (drop n after) r w.1)
                (λ b tail. (
                  [],
                  (
                    text,
                    record {
                      narrow = omega (arith, long);
                      whole = elim tail [
                        | inl none ↦ inr (ap (λ (x : List ℕ). 3 ∷ x) (ap (λ (x : List ℕ). (int n ++ text) ++ x) (append-nil b ∙ none) ∙ append-nil (int n ++ text) ∙ ap (λ (m : ℕ). int m ++ text) (sym long)))
                        | inr mark ↦ inl (ap (λ (x : List ℕ). 3 ∷ x) (ap (λ (x : List ℕ). (int n ++ text) ++ x) (append-nil b ∙ mark) ∙ append_assoc (int n) text (0 ∷ []) ∙ ap (λ (m : ℕ). int m ++ (text ++ 0 ∷ [])) (sym long)))
                      ];
                    },
                  ),
                ))
                (λ y h.
                let some : ltb (length (text ++ y)) n ≡ false = le-ltb _ _ (omega (arith, long, length-append text y)) in
                let read_is : chunk_at ((int n ++ text) ++ y) ≡ chunk_end text y =
                ap chunk_at (append_assoc (int n) text y) ∙ rw (int_value n, some, take_at text y n long, drop_at text y n long) refl in
                subst Fails (sym read_is) h)
          ]
    ]

-- ---- End Response, Get Body Chunk, CPong

abbrev Behind : ℕ → List ℕ → Type 0
Behind code bytes = IsSpelled (code ∷ bytes)

end_stops : (bytes : List ℕ) (r : Refusal) → IsBytes bytes → end_at bytes ≡ Err r → Stops (Behind 5) end_at bytes r
end_stops [] r fits e =
    let k = refusal_is {A = Message} Short [] r e in
    starts (Behind 5) end_at [] r (1 ∷ []) k.0 k.1 (omega arith) (End true, record { byte = 1; narrow = omega arith; whole = refl; again = refl })
end_stops (byte ∷ rest) r fits e =
    behind_it IsNothing (Behind 5) (ended (End (eqb byte 1))) end_at (byte ∷ []) (byte ∷ rest) rest r refl (ended_stops (End (eqb byte 1)) rest r e)
    (λ b none. ([], (End (eqb byte 1), record { byte = byte; narrow = fits 0; whole = ap (λ (x : List ℕ). 5 ∷ byte ∷ x) (append-nil b ∙ none); again = refl })))
    (λ y h. h)

abbrev after_most : ℕ × List ℕ → Result Message Refusal
after_most most = ended (Ask most.0) most.1

ask_stops : (bytes : List ℕ) (r : Refusal) → IsBytes bytes → ask_at bytes ≡ Err r → Stops (Behind 6) ask_at bytes r
unfolding ask_at
ask_stops bytes r fits e =
    elim (int_cases bytes fits) [
      | inl (s, read, kind, left, few) ↦
          let same : s ≡ r = same_refusal {A = Message} s r (sym (ap (λ (x : Result (ℕ × List ℕ) Refusal). x >>= after_most) read) ∙ e) in
          starts (Behind 6) ask_at bytes r (0 ∷ 0 ∷ []) (ap (λ (x : Refusal). x.kind) (sym same) ∙ kind) (ap (λ (x : Refusal). x.left) (sym same) ∙ left) few (Ask 0, (omega arith, refl))
      | inr (n, after, read, whole, narrow) ↦
          let on = sym (ap (λ (x : Result (ℕ × List ℕ) Refusal). x >>= after_most) read) ∙ e in
          behind_it IsNothing (Behind 6) (ended (Ask n)) ask_at (int n) bytes after r whole (ended_stops (Ask n) after r on)
          (λ b none. ([], (Ask n, (narrow, ap (λ (x : List ℕ). 6 ∷ int n ++ x) (append-nil b ∙ none)))))
          (λ y h. rw (int_value n) h)
    ]

-- ---- a message, by its first byte

-- a message after its first byte
coded_stops : (Good : List ℕ → Type 0) (read : List ℕ → Result Message Refusal) (code : ℕ) (rest : List ℕ) (r : Refusal) → Stops Good read rest r
    → ((b : List ℕ) → Good b → IsSpelled (code ∷ b)) → ((y : List ℕ) → Fails (read y) → Fails (message_at (code ∷ y))) → Stops IsSpelled message_at (code ∷ rest) r
coded_stops Good read code rest r s grow carry =
    behind_it Good IsSpelled read message_at (code ∷ []) (code ∷ rest) rest r refl s
    (λ b good. ([], subst (λ (x : List ℕ). IsSpelled (code ∷ x)) (sym (append-nil b)) (grow b good))) carry

-- the first byte is this one
known : (code one : ℕ) (b : List ℕ) → eqb code one ≡ true → IsSpelled (one ∷ b) → IsSpelled (code ∷ b)
known code one b is s = subst (λ (c : ℕ). IsSpelled (c ∷ b)) (sym (eqb-true code one is)) s

abbrev at_nine : ℕ → List ℕ → Result Message Refusal
at_nine code rest = cond (eqb code 9) (ended Pong rest) (refused BadCode (code ∷ rest))

abbrev at_six : ℕ → List ℕ → Result Message Refusal
at_six code rest = cond (eqb code 6) (ask_at rest) (at_nine code rest)

abbrev at_five : ℕ → List ℕ → Result Message Refusal
at_five code rest = cond (eqb code 5) (end_at rest) (at_six code rest)

abbrev at_three : ℕ → List ℕ → Result Message Refusal
at_three code rest = cond (eqb code 3) (chunk_at rest) (at_five code rest)

message_stops : (payload : List ℕ) (r : Refusal) → IsBytes payload → message_at payload ≡ Err r → Stops IsSpelled message_at payload r
message_stops [] r fits e =
    let k = refusal_is {A = Message} Short [] r e in
    starts IsSpelled message_at [] r (9 ∷ []) k.0 k.1 (omega arith) (Pong, refl)
message_stops (code ∷ rest) r fits e =
    let behind = IsBytes-rest code rest fits in
    elim (chosen (eqb code 4) (head_at rest) (at_three code rest) (Err r) e) [
      | inl four ↦ coded_stops GoodHead head_at code rest r (head_stops rest r behind four.1) (λ b good. known code 4 b four.0 (Headers good.0, good.1)) (λ y h. rw four.0 h)
      | inr f ↦ elim (chosen (eqb code 3) (chunk_at rest) (at_five code rest) (Err r) f.1) [
        | inl three ↦ coded_stops GoodChunk chunk_at code rest r (chunk_stops rest r behind three.1) (λ b good. known code 3 b three.0 (Chunk good.0, good.1)) (λ y h. rw (f.0, three.0) h)
        | inr g ↦ elim (chosen (eqb code 5) (end_at rest) (at_six code rest) (Err r) g.1) [
          | inl five ↦ coded_stops (Behind 5) end_at code rest r (end_stops rest r behind five.1) (λ b good. known code 5 b five.0 good) (λ y h. rw (f.0, g.0, five.0) h)
          | inr h5 ↦ elim (chosen (eqb code 6) (ask_at rest) (at_nine code rest) (Err r) h5.1) [
            | inl six ↦ coded_stops (Behind 6) ask_at code rest r (ask_stops rest r behind six.1) (λ b good. known code 6 b six.0 good) (λ y h. rw (f.0, g.0, h5.0, six.0) h)
            | inr h6 ↦ elim (chosen (eqb code 9) (ended Pong rest) (refused BadCode (code ∷ rest)) (Err r) h6.1) [
              | inl nine ↦ coded_stops IsNothing (ended Pong) code rest r (ended_stops Pong rest r nine.1) (λ b none. known code 9 b nine.0 (Pong, ap (λ (x : List ℕ). 9 ∷ x) none)) (λ y h. rw (f.0, g.0, h5.0, h6.0, nine.0) h)
              | inr none ↦
                  let k = refusal_is {A = Message} BadCode (code ∷ rest) r none.1 in
                  record {
                    front = [];
                    there = code ∷ [];
                    behind = rest;
                    more = 9 ∷ [];
                    whole = refl;
                    opens = (Pong, refl);
                    how = inr (record { kind = ap is_placed k.0; left = k.1; some = omega arith; few = omega arith; always = λ y. rw (f.0, g.0, h5.0, h6.0, none.0) tt });
                  }
            ]
          ]
        ]
      ]
    ]

-- the error that the decoder gives names the first place that can't be read
pub reply-refused : (payload : List ℕ) (stop : NotRead) → IsBytes payload → Halts stop (message_at payload) → IsRefused IsSpelled payload (told (length payload) stop)
reply-refused payload stop fits h =
    told-refused IsSpelled message_at payload stop (λ bytes whole fails. read_again bytes whole fails) (λ r e. message_stops payload r fits e) h
  where
    read_again : (bytes : List ℕ) → IsSpelled bytes → Fails (message_at bytes) → ⊥
    read_again bytes (m, s) fails = subst Fails (message_again m bytes s) fails
