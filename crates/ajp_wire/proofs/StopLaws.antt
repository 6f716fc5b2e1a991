-- Where the reading of a string, a name or a list of headers stops.
use Rattle.std.proofs.Common.{◌≡◌, ℕ, zero, suc, ◌<◌, ◌≤◌, Bool, true, false, cond, ltb, eqb, List, [], ◌∷◌, ◌++◌, length, Option, Some, None, Result, Ok, Err, refl, sym, ap, subst, ◌∙◌, arith, inl, inr}
use Rattle.std.proofs.lemmas.Bool.{ltb-true, ltb-false, eqb-true, eqb-false}
use Rattle.std.proofs.lemmas.List.{append-nil}
use Rattle.ajp_wire.specs.declared.refusal.Refusal.{Refusal}
use Rattle.ajp_wire.specs.declared.refusal.RefusalKind.TheVariants.{BadCode, TooMany, Absent}
use Rattle.ajp_wire.specs.Spelling.{int, string, absent, SpellsString, SpellsText, SpellsName, SpellsHeader, SpellsHeaders}
use Rattle.ajp_wire.specs.Reading.{◌>>=◌, refused, marked_at, string_at, present, text_at, named_from, known_or, name_at, header_at, header_list_at, headers_at}
use Rattle.ajp_wire.proofs.ReadingLaws.{IsBytes, IsBytes-behind, Front, Front-rest, chosen, int_value, string_takes}
use Rattle.ajp_wire.proofs.HeaderLaws.{name_takes, name_again, header_takes, header_again}
use Rattle.ajp_wire.proofs.FirstPlaces.{is_placed, Fails, Stops, fails-bind, bind_err, refusal_is, starts, behind_it, int_cases, same_refusal, GoodMarked, marked_stops}

-- ---- strings

abbrev pub GoodString : List ℕ → Type 0
GoodString bytes = (text : List ℕ) × SpellsString (Some text) bytes

-- a text of that length after its length
text_of : (len : ℕ) (bytes : List ℕ) → GoodMarked len bytes → (text : List ℕ) × (length text ≡ len) × (int len ++ (bytes ++ []) ≡ string text)
text_of len bytes (text, long, whole) =
    (text, long, ap (λ (b : List ℕ). int len ++ b) (append-nil bytes ∙ whole) ∙ ap (λ (n : ℕ). int n ++ (text ++ 0 ∷ [])) (sym long))

empty : GoodString (0 ∷ 0 ∷ 0 ∷ [])
empty = ([], (omega arith, refl))

abbrev after_length : ℕ × List ℕ → Result (Option (List ℕ) × List ℕ) Refusal
after_length len = cond (eqb len.0 65535) (Ok (None, len.1)) (marked_at len.0 len.1 >>= λ text. Ok (Some text.0, text.1))

pub string_stops : (bytes : List ℕ) (r : Refusal) → IsBytes bytes → string_at bytes ≡ Err r → Stops GoodString string_at bytes r
unfolding string_at
string_stops bytes r fits e =
    elim (int_cases bytes fits) [
      | inl (s, read, kind, left, few) ↦
          let same : s ≡ r = same_refusal {A = Option (List ℕ) × List ℕ} s r (sym (ap (λ (x : Result (ℕ × List ℕ) Refusal). x >>= after_length) read) ∙ e) in
          starts GoodString string_at bytes r (0 ∷ 0 ∷ 0 ∷ []) (ap (λ (x : Refusal). x.kind) (sym same) ∙ kind) (ap (λ (x : Refusal). x.left) (sym same) ∙ left) few empty
      | inr (n, after, read, whole, narrow) ↦
          let read_on = sym (ap (λ (x : Result (ℕ × List ℕ) Refusal). x >>= after_length) read) ∙ e in
          elim (chosen (eqb n 65535) (Ok (None, after)) (marked_at n after >>= λ text. Ok (Some text.0, text.1)) (Err r) read_on) [
            | inl w ↦ absurd cc
            | inr w ↦ elim (bind_err (marked_at n after) (λ text. Ok (Some text.0, text.1)) r w.1) [
              | inl stopped ↦
                  let other : n ≡ 65535 → ⊥ = eqb-false _ _ w.0 in
                  let below : n < 65535 = omega arith in
                  behind_it (GoodMarked n) GoodString (marked_at n) string_at (int n) bytes after r whole (marked_stops n after r stopped)
                  (λ b good. let t = text_of n b good in ([], (t.0, (omega (arith, t.1), t.2))))
                  (λ y h. rw (int_value n, w.0) (fails-bind (marked_at n y) (λ text. Ok (Some text.0, text.1)) h))
              | inr (x, read_it, done) ↦ absurd cc
            ]
          ]
    ]

abbrev pub GoodText : Bool → List ℕ → Type 0
GoodText may_be_absent bytes = (text : List ℕ) × SpellsText may_be_absent text bytes

absent_stops : (may_be_absent : Bool) (bytes : List ℕ) (r : Refusal) (s : Option (List ℕ)) (after : List ℕ)
    → Front (SpellsString s) bytes after → present may_be_absent bytes (s, after) ≡ Err r → Stops (GoodText may_be_absent) (text_at may_be_absent) bytes r
unfolding text_at string_at
absent_stops may_be_absent bytes r (Some text) after f e = absurd cc
absent_stops true bytes r None after f e = absurd cc
absent_stops false bytes r None after f e =
    let k = refusal_is {A = List ℕ × List ℕ} Absent bytes r e in
    let parts : bytes ≡ absent ++ after = f.parts ∙ ap (λ (b : List ℕ). b ++ after) f.spelled in
    record {
      front = [];
      there = absent;
      behind = after;
      more = 0 ∷ 0 ∷ 0 ∷ [];
      whole = parts;
      opens = ([], inl (omega arith, refl));
      how = inr (record { kind = ap is_placed k.0; left = k.1 ∙ ap length parts; some = omega arith; few = omega arith; always = λ y. tt });
    }

pub text_stops : (may_be_absent : Bool) (bytes : List ℕ) (r : Refusal) → IsBytes bytes → text_at may_be_absent bytes ≡ Err r → Stops (GoodText may_be_absent) (text_at may_be_absent) bytes r
unfolding text_at
text_stops may_be_absent bytes r fits e =
    elim (bind_err (string_at bytes) (present may_be_absent bytes) r e) [
      | inl stopped ↦
          behind_it GoodString (GoodText may_be_absent) string_at (text_at may_be_absent) [] bytes bytes r refl (string_stops bytes r fits stopped)
          (λ b good. ([], (good.0, inl (good.1.0, append-nil b ∙ good.1.1))))
          (λ y h. fails-bind (string_at y) (present may_be_absent y) h)
      | inr (x, read, bad) ↦ absent_stops may_be_absent bytes r x.0 x.1 (string_takes bytes x.1 x.0 fits read) bad
    ]

-- ---- names

abbrev pub GoodName : List (List ℕ) → Bool → List ℕ → Type 0
GoodName table absent_names bytes = (name : List ℕ) × SpellsName table absent_names name bytes

empty_name : (table : List (List ℕ)) (absent_names : Bool) → GoodName table absent_names (0 ∷ 0 ∷ 0 ∷ [])
empty_name table absent_names = ([], inr (omega arith, inl (omega arith, refl)))

-- what stands in a name's place and is none, two bytes
spoiled_name : (table : List (List ℕ)) (absent_names : Bool) (bytes after : List ℕ) (n : ℕ) (r : Refusal) → bytes ≡ int n ++ after
    → is_placed r.kind ≡ true → r.left ≡ length bytes → ((y : List ℕ) → Fails (name_at table absent_names (int n ++ y))) → Stops (GoodName table absent_names) (name_at table absent_names) bytes r
spoiled_name table absent_names bytes after n r whole kind left always = record {
  front = [];
  there = int n;
  behind = after;
  more = 0 ∷ 0 ∷ 0 ∷ [];
  whole = whole;
  opens = empty_name table absent_names;
  how = inr (record { kind = kind; left = left ∙ ap length whole; some = omega arith; few = omega arith; always = always });
}

absent_name_stops : (table : List (List ℕ)) (absent_names : Bool) (bytes after : List ℕ) (n : ℕ) (r : Refusal) → bytes ≡ int n ++ after
    → n ≡ 65535 → present absent_names bytes (None, after) ≡ Err r → Stops (GoodName table absent_names) (name_at table absent_names) bytes r
unfolding name_at
absent_name_stops table true bytes after n r whole is e = absurd cc
absent_name_stops table false bytes after n r whole is e =
    let k = refusal_is {A = List ℕ × List ℕ} Absent bytes r e in
    spoiled_name table false bytes after 65535 r (whole ∙ ap (λ (m : ℕ). int m ++ after) is) (ap is_placed k.0) k.1 (λ y. tt)

unknown_name_stops : (table : List (List ℕ)) (absent_names : Bool) (bytes after : List ℕ) (n : ℕ) (r : Refusal) (known : Option (List ℕ)) → bytes ≡ int n ++ after
    → named_from 40961 table n ≡ known → ltb n 40960 ≡ false → eqb n 65535 ≡ false → known_or known bytes after ≡ Err r → Stops (GoodName table absent_names) (name_at table absent_names) bytes r
unfolding name_at
unknown_name_stops table absent_names bytes after n r (Some name) whole is code other e = absurd cc
unknown_name_stops table absent_names bytes after n r None whole is code other e =
    let k = refusal_is {A = List ℕ × List ℕ} BadCode bytes r e in
    spoiled_name table absent_names bytes after n r whole (ap is_placed k.0) k.1 (λ y. rw (int_value n, code, other, is) tt)

abbrev after_first : List (List ℕ) → Bool → List ℕ → ℕ × List ℕ → Result (List ℕ × List ℕ) Refusal
after_first table absent_names bytes first =
    cond (ltb first.0 40960) (marked_at first.0 first.1) (cond (eqb first.0 65535) (present absent_names bytes (None, first.1)) (known_or (named_from 40961 table first.0) bytes first.1))

pub name_stops : (table : List (List ℕ)) (absent_names : Bool) (bytes : List ℕ) (r : Refusal) → IsBytes bytes → name_at table absent_names bytes ≡ Err r
    → Stops (GoodName table absent_names) (name_at table absent_names) bytes r
unfolding name_at
name_stops table absent_names bytes r fits e =
    elim (int_cases bytes fits) [
      | inl (s, read, kind, left, few) ↦
          let same : s ≡ r = same_refusal {A = List ℕ × List ℕ} s r (sym (ap (λ (x : Result (ℕ × List ℕ) Refusal). x >>= after_first table absent_names bytes) read) ∙ e) in
          starts (GoodName table absent_names) (name_at table absent_names) bytes r (0 ∷ 0 ∷ 0 ∷ []) (ap (λ (x : Refusal). x.kind) (sym same) ∙ kind) (ap (λ (x : Refusal). x.left) (sym same) ∙ left) few (empty_name table absent_names)
      | inr (n, after, read, whole, narrow) ↦
          let read_on = sym (ap (λ (x : Result (ℕ × List ℕ) Refusal). x >>= after_first table absent_names bytes) read) ∙ e in
          elim (chosen (ltb n 40960) (marked_at n after) (cond (eqb n 65535) (present absent_names bytes (None, after)) (known_or (named_from 40961 table n) bytes after)) (Err r) read_on) [
            | inl w ↦
                let below : n < 40960 = ltb-true _ _ w.0 in
                behind_it (GoodMarked n) (GoodName table absent_names) (marked_at n) (name_at table absent_names) (int n) bytes after r whole (marked_stops n after r w.1)
                (λ b good. let t = text_of n b good in ([], (t.0, inr (omega (arith, t.1), inl (omega (arith, t.1), t.2)))))
                (λ y h. rw (int_value n, w.0) h)
            | inr w ↦ elim (chosen (eqb n 65535) (present absent_names bytes (None, after)) (known_or (named_from 40961 table n) bytes after) (Err r) w.1) [
              | inl v ↦ absent_name_stops table absent_names bytes after n r whole (eqb-true _ _ v.0) v.1
              | inr v ↦ unknown_name_stops table absent_names bytes after n r (named_from 40961 table n) whole refl w.0 v.0 v.1
            ]
          ]
    ]

-- ---- headers

abbrev pub GoodHeader : List (List ℕ) → Bool → List ℕ → Type 0
GoodHeader table absent_names bytes = (header : List ℕ × List ℕ) × SpellsHeader table absent_names header bytes

pub header_stops : (table : List (List ℕ)) (absent_names : Bool) (bytes : List ℕ) (r : Refusal) → length table < 100 → IsBytes bytes → header_at table absent_names bytes ≡ Err r
    → Stops (GoodHeader table absent_names) (header_at table absent_names) bytes r
unfolding header_at
header_stops table absent_names bytes r few fits e =
    elim (bind_err (name_at table absent_names bytes) (λ name. text_at true name.1 >>= λ value. Ok ((name.0, value.0), value.1)) r e) [
      | inl stopped ↦
          behind_it (GoodName table absent_names) (GoodHeader table absent_names) (name_at table absent_names) (header_at table absent_names) [] bytes bytes r refl (name_stops table absent_names bytes r fits stopped)
          (λ b good. (absent, ((good.0, []), (b, absent, good.1, inr (refl, refl, refl), refl))))
          (λ y h. fails-bind (name_at table absent_names y) (λ name. text_at true name.1 >>= λ value. Ok ((name.0, value.0), value.1)) h)
      | inr (name, read, bad) ↦
          let f = name_takes table absent_names bytes name.0 name.1 fits read in
          elim (bind_err (text_at true name.1) (λ value. Ok ((name.0, value.0), value.1)) r bad) [
            | inl stopped ↦
                behind_it (GoodText true) (GoodHeader table absent_names) (text_at true) (header_at table absent_names) f.front bytes name.1 r f.parts
                (text_stops true name.1 r (Front-rest (SpellsName table absent_names name.0) bytes name.1 f fits) stopped)
                (λ b good. ([], ((name.0, good.0), (f.front, b, f.spelled, good.1, ap (λ (x : List ℕ). f.front ++ x) (append-nil b)))))
                (λ y h. rw (name_again table absent_names name.0 f.front y few f.spelled) (fails-bind (text_at true y) (λ value. Ok ((name.0, value.0), value.1)) h))
            | inr (value, read_it, done) ↦ absurd cc
          ]
    ]

abbrev pub GoodList : List (List ℕ) → Bool → ℕ → List ℕ → Type 0
GoodList table absent_names count bytes = (headers : List (List ℕ × List ℕ)) × (length headers ≡ count) × SpellsHeaders table absent_names headers bytes

-- this many headers of two empty strings
pub filled : (table : List (List ℕ)) (absent_names : Bool) (count : ℕ) → (bytes : List ℕ) × GoodList table absent_names count bytes
unfolding empty_name
filled table absent_names zero = ([], ([], refl, refl))
filled table absent_names (suc count) =
    let others = filled table absent_names count in (
      (0 ∷ 0 ∷ 0 ∷ []) ++ (absent ++ others.0),
      (
        ([], []) ∷ others.1.0,
        ap suc others.1.1,
        ((0 ∷ 0 ∷ 0 ∷ []) ++ absent, others.0, (0 ∷ 0 ∷ 0 ∷ [], absent, (empty_name table absent_names).1, inr (refl, refl, refl), refl), others.1.2, refl),
      ),
    )

pub list_stops : (table : List (List ℕ)) (absent_names : Bool) (count : ℕ) (bytes : List ℕ) (r : Refusal) → length table < 100 → IsBytes bytes → header_list_at table absent_names count bytes ≡ Err r
    → Stops (GoodList table absent_names count) (header_list_at table absent_names count) bytes r
unfolding header_list_at
list_stops table absent_names zero bytes r few fits e = absurd cc
list_stops table absent_names (suc count) bytes r few fits e =
    elim (bind_err (header_at table absent_names bytes) (λ first. header_list_at table absent_names count first.1 >>= λ others. Ok (first.0 ∷ others.0, others.1)) r e) [
      | inl stopped ↦
          let others = filled table absent_names count in
          behind_it (GoodHeader table absent_names) (GoodList table absent_names (suc count)) (header_at table absent_names) (header_list_at table absent_names (suc count)) [] bytes bytes r refl (header_stops table absent_names bytes r few fits stopped)
          (λ b good. (others.0, (good.0 ∷ others.1.0, ap suc others.1.1, (b, others.0, good.1, others.1.2, refl))))
          (λ y h. fails-bind (header_at table absent_names y) (λ first. header_list_at table absent_names count first.1 >>= λ others. Ok (first.0 ∷ others.0, others.1)) h)
      | inr (first, read, bad) ↦
          let f = header_takes table absent_names bytes first.0 first.1 fits read in
          elim (bind_err (header_list_at table absent_names count first.1) (λ others. Ok (first.0 ∷ others.0, others.1)) r bad) [
            | inl stopped ↦
                behind_it (GoodList table absent_names count) (GoodList table absent_names (suc count)) (header_list_at table absent_names count) (header_list_at table absent_names (suc count)) f.front bytes first.1 r f.parts
                (list_stops table absent_names count first.1 r few (Front-rest (SpellsHeader table absent_names first.0) bytes first.1 f fits) stopped)
                (λ b good. ([], (first.0 ∷ good.0, ap suc good.1, (f.front, b, f.spelled, good.2, ap (λ (x : List ℕ). f.front ++ x) (append-nil b)))))
                (λ y h. rw (header_again table absent_names first.0 f.front y few f.spelled) (fails-bind (header_list_at table absent_names count y) (λ others. Ok (first.0 ∷ others.0, others.1)) h))
            | inr (others, read_it, done) ↦ absurd cc
          ]
    ]

-- a count and this many headers, at most 100
abbrev pub GoodHeaders : List (List ℕ) → Bool → List ℕ → Type 0
GoodHeaders table absent_names bytes =
    (headers : List (List ℕ × List ℕ)) × (listed : List ℕ) × (length headers ≤ 100) × SpellsHeaders table absent_names headers listed × (bytes ≡ int (length headers) ++ listed)

abbrev after_count : List (List ℕ) → Bool → List ℕ → ℕ × List ℕ → Result (List (List ℕ × List ℕ) × List ℕ) Refusal
after_count table absent_names bytes count = cond (ltb 100 count.0) (refused TooMany bytes) (header_list_at table absent_names count.0 count.1)

pub headers_stops : (table : List (List ℕ)) (absent_names : Bool) (bytes : List ℕ) (r : Refusal) → length table < 100 → IsBytes bytes → headers_at table absent_names bytes ≡ Err r
    → Stops (GoodHeaders table absent_names) (headers_at table absent_names) bytes r
unfolding headers_at
headers_stops table absent_names bytes r few fits e =
    elim (int_cases bytes fits) [
      | inl (s, read, kind, left, short) ↦
          let same : s ≡ r = same_refusal {A = List (List ℕ × List ℕ) × List ℕ} s r (sym (ap (λ (x : Result (ℕ × List ℕ) Refusal). x >>= after_count table absent_names bytes) read) ∙ e) in
          starts (GoodHeaders table absent_names) (headers_at table absent_names) bytes r (0 ∷ 0 ∷ []) (ap (λ (x : Refusal). x.kind) (sym same) ∙ kind) (ap (λ (x : Refusal). x.left) (sym same) ∙ left) short ([], [], omega arith, refl, refl)
      | inr (n, after, read, whole, narrow) ↦
          let read_on = sym (ap (λ (x : Result (ℕ × List ℕ) Refusal). x >>= after_count table absent_names bytes) read) ∙ e in
          elim (chosen (ltb 100 n) (refused TooMany bytes) (header_list_at table absent_names n after) (Err r) read_on) [
            | inl w ↦
                let k = refusal_is {A = List (List ℕ × List ℕ) × List ℕ} TooMany bytes r w.1 in
                record {
                  front = [];
                  there = int n;
                  behind = after;
                  more = 0 ∷ 0 ∷ [];
                  whole = whole;
                  opens = ([], [], omega arith, refl, refl);
                  how = inr (record { kind = ap is_placed k.0; left = k.1 ∙ ap length whole; some = omega arith; few = omega arith; always = λ y. rw (int_value n, w.0) tt });
                }
            | inr w ↦
                let below : n ≤ 100 = ltb-false _ _ w.0 in
                behind_it (GoodList table absent_names n) (GoodHeaders table absent_names) (header_list_at table absent_names n) (headers_at table absent_names) (int n) bytes after r whole
                (list_stops table absent_names n after r few (IsBytes-behind (int n) after (subst IsBytes whole fits)) w.1)
                (λ b good. ([], (good.0, b, omega (arith, good.1), good.2, ap (λ (x : List ℕ). int n ++ x) (append-nil b) ∙ ap (λ (m : ℕ). int m ++ b) (sym good.1))))
                (λ y h. rw (int_value n, w.0) h)
          ]
    ]
