-- Names, headers and lists of headers: what is read is spelled so, and what is spelled so is read.
use Rattle.std.proofs.Common.{◌≡◌, ℕ, zero, suc, ◌+◌, ◌<◌, ◌≤◌, Bool, true, false, cond, ltb, eqb, List, [], ◌∷◌, ◌++◌, length, Option, Some, None, Ok, refl, sym, ap, subst, ◌∙◌, append_assoc, arith, inl, inr}
use Rattle.std.specs.Prelude.{slice_get}
use Rattle.std.proofs.lemmas.Bool.{ltb-true, ltb-false, lt-ltb, le-ltb, eqb-true, eq-eqb, ne_eqb, true≢false}
use Rattle.std.proofs.lemmas.Option.{slice_get_within}
use Rattle.ajp_wire.specs.Spelling.{int, absent, SpellsName, SpellsHeader, SpellsHeaders}
use Rattle.ajp_wire.specs.Reading.{◌>>=◌, refused, int_at, marked_at, present, text_at, named_from, known_or, name_at, header_at, header_list_at, headers_at}
use Rattle.ajp_wire.specs.declared.refusal.RefusalKind.TheVariants.{TooMany}
use Rattle.ajp_wire.proofs.ReadingLaws.{IsBytes, IsBytes-behind, Front, Front-rest, joined, bind_ok, ok_is, chosen, int_value, int_takes, marked_takes, marked_again, string_front, string_parts, text_takes, text_again}

-- ---- codes

code_takes : (base : ℕ) (table : List (List ℕ)) (wanted : ℕ) (name : List ℕ) → named_from base table wanted ≡ Some name → (place : ℕ) × (slice_get table place ≡ Some name) × (wanted ≡ base + place)
code_takes base [] wanted name e = absurd cc
code_takes base (known ∷ table) wanted name e =
    elim (chosen (eqb base wanted) (Some known) (named_from (base + 1) table wanted) (Some name) e) [
      | inl w ↦ (0, w.1, let same : base ≡ wanted = eqb-true _ _ w.0 in omega arith)
      | inr w ↦
          let r = code_takes (base + 1) table wanted name w.1 in
          (suc r.0, r.1, omega (arith, r.2))
    ]

code_again : (base place : ℕ) (table : List (List ℕ)) (name : List ℕ) → slice_get table place ≡ Some name → named_from base table (base + place) ≡ Some name
code_again base place [] name e = absurd cc
code_again base zero (known ∷ table) name e =
    let same : eqb base (base + 0) ≡ true = eq-eqb _ _ (omega arith) in
    rw same e
code_again base (suc place) (known ∷ table) name e =
    let other : eqb base (base + suc place) ≡ false = ne_eqb _ _ (λ (same : base ≡ base + suc place). absurd (omega arith)) in
    let moved : (base + 1) + place ≡ base + suc place = omega arith in
    rw (other, ← moved) (code_again (base + 1) place table name e)

-- ---- names

absent_name_takes : (table : List (List ℕ)) (absent_names : Bool) (bytes after name rest : List ℕ) → bytes ≡ absent ++ after → present absent_names bytes (None, after) ≡ Ok (name, rest) → Front (SpellsName table absent_names name) bytes rest
absent_name_takes table true bytes after name rest p e =
    subst (λ (x : List ℕ × List ℕ). Front (SpellsName table true x.0) bytes x.1) (ok_is ([], after) (name, rest) e)
    (record { front = absent; spelled = inr (omega arith, inr (refl, refl, refl)); parts = p })
absent_name_takes table false bytes after name rest p e = absurd cc

known_name_takes : (table : List (List ℕ)) (absent_names : Bool) (code : ℕ) (bytes after name rest : List ℕ) (o : Option (List ℕ)) → bytes ≡ int code ++ after → named_from 40961 table code ≡ o → known_or o bytes after ≡ Ok (name, rest) → Front (SpellsName table absent_names name) bytes rest
known_name_takes table absent_names code bytes after name rest None p k e = absurd cc
known_name_takes table absent_names code bytes after name rest (Some known) p k e =
    let c = code_takes 40961 table code known k in
    subst (λ (x : List ℕ × List ℕ). Front (SpellsName table absent_names x.0) bytes x.1) (ok_is (known, after) (name, rest) e)
    (record { front = int code; spelled = inl (c.0, c.1, ap int c.2); parts = p })

text_name_takes : (table : List (List ℕ)) (absent_names : Bool) (len : ℕ) (bytes after name rest : List ℕ) → bytes ≡ int len ++ after → len < 40960 → marked_at len after ≡ Ok (name, rest) → Front (SpellsName table absent_names name) bytes rest
text_name_takes table absent_names len bytes after name rest p below e =
    let m = marked_takes len after name rest e in
    let f = string_front bytes after name rest len p m.0 m.1 (omega arith) in
    record { front = f.front; spelled = inr (omega (arith, m.1, below), inl f.spelled); parts = f.parts }

pub name_takes : (table : List (List ℕ)) (absent_names : Bool) (bytes name rest : List ℕ) → IsBytes bytes → name_at table absent_names bytes ≡ Ok (name, rest) → Front (SpellsName table absent_names name) bytes rest
unfolding name_at
name_takes table absent_names bytes name rest fits e =
    let a = bind_ok (int_at bytes) (λ first. cond (ltb first.0 40960) (marked_at first.0 first.1) (cond (eqb first.0 65535) (present absent_names bytes (None, first.1)) (known_or (named_from 40961 table first.0) bytes first.1))) (name, rest) e in
    let first = a.0 in
    let t = int_takes bytes first.1 first.0 fits a.1 in
    elim (chosen (ltb first.0 40960) (marked_at first.0 first.1) (cond (eqb first.0 65535) (present absent_names bytes (None, first.1)) (known_or (named_from 40961 table first.0) bytes first.1)) (Ok (name, rest)) a.2) [
      | inl w ↦ text_name_takes table absent_names first.0 bytes first.1 name rest t.0 (ltb-true _ _ w.0) w.1
      | inr w ↦
          elim (chosen (eqb first.0 65535) (present absent_names bytes (None, first.1)) (known_or (named_from 40961 table first.0) bytes first.1) (Ok (name, rest)) w.1) [
            | inl v ↦ absent_name_takes table absent_names bytes first.1 name rest (t.0 ∙ ap (λ (k : ℕ). int k ++ first.1) (eqb-true _ _ v.0)) v.1
            | inr v ↦ known_name_takes table absent_names first.0 bytes first.1 name rest (named_from 40961 table first.0) t.0 refl v.1
          ]
    ]

pub name_again : (table : List (List ℕ)) (absent_names : Bool) (name front rest : List ℕ) → length table < 100 → SpellsName table absent_names name front → name_at table absent_names (front ++ rest) ≡ Ok (name, rest)
unfolding name_at
name_again table absent_names name front rest few (inl c) =
    let within : c.0 < length table = slice_get_within table c.0 name c.1 in
    let above : ltb (40961 + c.0) 40960 ≡ false = le-ltb _ _ (omega arith) in
    let other : eqb (40961 + c.0) 65535 ≡ false = ne_eqb _ _ (λ (same : 40961 + c.0 ≡ 65535). absurd (omega arith)) in
    ap (λ (b : List ℕ). name_at table absent_names (b ++ rest)) c.2 ∙ rw (int_value (40961 + c.0), above, other, code_again 40961 c.0 table name c.1) refl
name_again table absent_names name front rest few (inr (below, inl s)) =
    let lower : ltb (length name) 40960 ≡ true = lt-ltb _ _ below in
    ap (λ (b : List ℕ). name_at table absent_names (b ++ rest)) s.1 ∙ ap (name_at table absent_names) (string_parts name rest) ∙ rw (int_value (length name), lower, marked_again name rest) refl
name_again table true name front rest few (inr (below, inr s)) = rw (s.2, s.1) refl
name_again table false name front rest few (inr (below, inr s)) = absurd (true≢false (sym s.0))

-- ---- headers

pub header_takes : (table : List (List ℕ)) (absent_names : Bool) (bytes : List ℕ) (header : List ℕ × List ℕ) (rest : List ℕ) → IsBytes bytes → header_at table absent_names bytes ≡ Ok (header, rest) → Front (SpellsHeader table absent_names header) bytes rest
unfolding header_at
header_takes table absent_names bytes header rest fits e =
    let a = bind_ok (name_at table absent_names bytes) (λ name. text_at true name.1 >>= λ value. Ok ((name.0, value.0), value.1)) (header, rest) e in
    let name = a.0 in
    let b = bind_ok (text_at true name.1) (λ value. Ok ((name.0, value.0), value.1)) (header, rest) a.2 in
    let value = b.0 in
    let n = name_takes table absent_names bytes name.0 name.1 fits a.1 in
    let v = text_takes true name.1 value.0 value.1 (Front-rest (SpellsName table absent_names name.0) bytes name.1 n fits) b.1 in
    let whole : Front (SpellsHeader table absent_names (name.0, value.0)) bytes value.1 = record {
      front = n.front ++ v.front;
      spelled = (n.front, v.front, n.spelled, v.spelled, refl);
      parts = joined bytes n.front name.1 v.front value.1 n.parts v.parts;
    } in
    subst (λ (x : (List ℕ × List ℕ) × List ℕ). Front (SpellsHeader table absent_names x.0) bytes x.1) (ok_is ((name.0, value.0), value.1) (header, rest) b.2) whole

pub header_again : (table : List (List ℕ)) (absent_names : Bool) (header : List ℕ × List ℕ) (front rest : List ℕ) → length table < 100 → SpellsHeader table absent_names header front → header_at table absent_names (front ++ rest) ≡ Ok (header, rest)
unfolding header_at
header_again table absent_names header front rest few (n, v, spells_name, spells_value, whole) =
    ap (λ (b : List ℕ). header_at table absent_names (b ++ rest)) whole ∙ ap (header_at table absent_names) (append_assoc n v rest)
    ∙ rw (name_again table absent_names header.0 n (v ++ rest) few spells_name, text_again true header.1 v rest spells_value) refl

pub header_list_takes : (table : List (List ℕ)) (absent_names : Bool) (count : ℕ) (bytes : List ℕ) (headers : List (List ℕ × List ℕ)) (rest : List ℕ) → IsBytes bytes → header_list_at table absent_names count bytes ≡ Ok (headers, rest)
    → Front (SpellsHeaders table absent_names headers) bytes rest × (length headers ≡ count)
unfolding header_list_at
header_list_takes table absent_names zero bytes headers rest fits e =
    subst (λ (x : List (List ℕ × List ℕ) × List ℕ). Front (SpellsHeaders table absent_names x.0) bytes x.1 × (length x.0 ≡ 0)) (ok_is ([], bytes) (headers, rest) e) (record { front = []; spelled = refl; parts = refl }, refl)
header_list_takes table absent_names (suc n) bytes headers rest fits e =
    let a = bind_ok (header_at table absent_names bytes) (λ first. header_list_at table absent_names n first.1 >>= λ others. Ok (first.0 ∷ others.0, others.1)) (headers, rest) e in
    let first = a.0 in
    let b = bind_ok (header_list_at table absent_names n first.1) (λ others. Ok (first.0 ∷ others.0, others.1)) (headers, rest) a.2 in
    let others = b.0 in
    let f = header_takes table absent_names bytes first.0 first.1 fits a.1 in
    let o = header_list_takes table absent_names n first.1 others.0 others.1 (Front-rest (SpellsHeader table absent_names first.0) bytes first.1 f fits) b.1 in
    let whole : Front (SpellsHeaders table absent_names (first.0 ∷ others.0)) bytes others.1 = record {
      front = f.front ++ o.0.front;
      spelled = (f.front, o.0.front, f.spelled, o.0.spelled, refl);
      parts = joined bytes f.front first.1 o.0.front others.1 f.parts o.0.parts;
    } in
    subst (λ (x : List (List ℕ × List ℕ) × List ℕ). Front (SpellsHeaders table absent_names x.0) bytes x.1 × (length x.0 ≡ suc n)) (ok_is (first.0 ∷ others.0, others.1) (headers, rest) b.2) (whole, ap suc o.1)

pub header_list_again : (table : List (List ℕ)) (absent_names : Bool) (headers : List (List ℕ × List ℕ)) (front rest : List ℕ) → length table < 100 → SpellsHeaders table absent_names headers front → header_list_at table absent_names (length headers) (front ++ rest) ≡ Ok (headers, rest)
unfolding header_list_at
header_list_again table absent_names [] front rest few s = rw s refl
header_list_again table absent_names (header ∷ headers) front rest few (first, others, spells_first, spells_others, whole) =
    ap (λ (b : List ℕ). header_list_at table absent_names (suc (length headers)) (b ++ rest)) whole ∙ ap (header_list_at table absent_names (suc (length headers))) (append_assoc first others rest)
    ∙ rw (header_again table absent_names header first (others ++ rest) few spells_first, header_list_again table absent_names headers others rest few spells_others) refl

-- the count and the headers
pub record HasHeaders (table : List (List ℕ)) (absent_names : Bool) (headers : List (List ℕ × List ℕ)) (bytes rest : List ℕ) : Type 0 where
  pub listed : List ℕ
  pub spelled : SpellsHeaders table absent_names headers listed
  pub few : length headers ≤ 100
  pub parts : bytes ≡ int (length headers) ++ (listed ++ rest)

pub headers_take : (table : List (List ℕ)) (absent_names : Bool) (bytes : List ℕ) (headers : List (List ℕ × List ℕ)) (rest : List ℕ) → IsBytes bytes → headers_at table absent_names bytes ≡ Ok (headers, rest) → HasHeaders table absent_names headers bytes rest
unfolding headers_at
headers_take table absent_names bytes headers rest fits e =
    let a = bind_ok (int_at bytes) (λ count. cond (ltb 100 count.0) (refused TooMany bytes) (header_list_at table absent_names count.0 count.1)) (headers, rest) e in
    let count = a.0 in
    let t = int_takes bytes count.1 count.0 fits a.1 in
    elim (chosen (ltb 100 count.0) (refused TooMany bytes) (header_list_at table absent_names count.0 count.1) (Ok (headers, rest)) a.2) [
      | inl w ↦ absurd cc
      | inr w ↦
          let l = header_list_takes table absent_names count.0 count.1 headers rest (IsBytes-behind (int count.0) count.1 (subst IsBytes t.0 fits)) w.1 in
          let below : count.0 ≤ 100 = ltb-false _ _ w.0 in
          record {
            listed = l.0.front;
            spelled = l.0.spelled;
            few = omega (arith, l.1);
            parts = t.0 ∙ ap (λ (r : List ℕ). int count.0 ++ r) l.0.parts ∙ ap (λ (k : ℕ). int k ++ (l.0.front ++ rest)) (sym l.1);
          }
    ]

pub headers_again : (table : List (List ℕ)) (absent_names : Bool) (headers : List (List ℕ × List ℕ)) (listed rest : List ℕ) → length table < 100 → length headers ≤ 100 → SpellsHeaders table absent_names headers listed → headers_at table absent_names (int (length headers) ++ (listed ++ rest)) ≡ Ok (headers, rest)
unfolding headers_at
headers_again table absent_names headers listed rest few enough s =
    let below : ltb 100 (length headers) ≡ false = le-ltb _ _ enough in
    rw (int_value (length headers), below, header_list_again table absent_names headers listed rest few s) refl
