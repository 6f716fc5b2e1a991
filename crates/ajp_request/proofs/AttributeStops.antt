-- The attributes of a Forward Request, and where their reading stops.
use Rattle.std.proofs.Common.{◌≡◌, ℕ, zero, suc, ◌+◌, ◌*◌, ◌<◌, ◌≤◌, Bool, true, false, cond, eqb, IsTrue, List, [], ◌∷◌, ◌++◌, length, take, drop, Option, Some, None, Result, Ok, Err, refl, sym, ap, subst, ◌∙◌, arith, append_assoc, ◌⊎◌, inl, inr}
use Rattle.std.proofs.lemmas.Bool.{eqb-true, eqb-false, cases_Bool}
use Rattle.std.proofs.lemmas.List.{append-nil, length-append}
use Rattle.ajp_wire.specs.declared.refusal.Refusal.{Refusal}
use Rattle.ajp_wire.specs.declared.refusal.RefusalKind.TheVariants.{Short, BadCode}
use Rattle.ajp_wire.specs.Spelling.{int, string, SpellsText}
use Rattle.ajp_wire.specs.Reading.{Reading, ◌>>=◌, refused, byte_at, int_at, marked_at, string_at, present, text_at}
use Rattle.ajp_wire.proofs.ReadingLaws.{IsBytes, IsBytes-rest, IsBytes-behind, Front, Front-rest, bind_ok, ok_is, chosen, marked_takes}
use Rattle.ajp_wire.proofs.FirstPlaces.{is_placed, Fails, Stops, Ended, Spoiled, fails-bind, bind_err, refusal_is, starts, behind_it}
use Rattle.ajp_request.specs.declared.attribute.Attribute.{Attribute}
use Rattle.ajp_request.specs.declared.attribute.Attribute.TheVariants.{Plain, Named, KeySize}
use Rattle.ajp_request.specs.Tables.{is_plain}
use Rattle.ajp_request.specs.Spelling.{SpellsAttribute, SpellsAttributes}
use Rattle.ajp_request.specs.Reading.{named_at, size_at, plain_at, attribute_at, attributes_at}
use Rattle.ajp_request.proofs.AttributeLaws.{IsAgain, attribute_takes, attribute_again, attributes_take, attributes_again}
use Rattle.ajp_request.proofs.StopTools.{Word, Then, then_stops, stops_as, stops_like, spoils, lacks}
use Rattle.ajp_request.proofs.FieldStops.{empty, empty_text, text_word, SpellsInt, int_word}

-- ---- one attribute

abbrev pub AnyAttribute : List ℕ → Type 0
AnyAttribute bytes = (attribute : Attribute) × SpellsAttribute attribute bytes

abbrev named_made : List ℕ → List ℕ → List ℕ → Reading Attribute
named_made name value rest = Ok (Named name value, rest)

abbrev after_name : List ℕ → List ℕ → Reading Attribute
after_name name bytes = text_at true bytes >>= λ value. named_made name value.0 value.1

abbrev GoodValue : List ℕ → Type 0
GoodValue = Then (SpellsText true) (λ value b. b ≡ [])

abbrev GoodNamed : List ℕ → Type 0
GoodNamed = Then (SpellsText false) (λ name b. GoodValue b)

value_stops : (name bytes : List ℕ) (r : Refusal) → IsBytes bytes → after_name name bytes ≡ Err r → Stops GoodValue (after_name name) bytes r
value_stops name bytes r fits e =
    then_stops (text_at true) (SpellsText true) (text_word true) (named_made name) (λ value b. b ≡ []) (λ value. ([], refl)) (λ value rest s ok f. absurd cc) bytes r fits e

named_stops : (bytes : List ℕ) (r : Refusal) → IsBytes bytes → named_at bytes ≡ Err r → Stops GoodNamed named_at bytes r
unfolding named_at
named_stops bytes r fits e =
    then_stops (text_at false) (SpellsText false) (text_word false) after_name (λ name b. GoodValue b) (λ name. (empty, ([], empty, [], empty_text true, refl, refl))) (λ name rest s ok f. value_stops name rest s ok f) bytes r fits e

abbrev size_made : ℕ → List ℕ → Reading Attribute
size_made size rest = Ok (KeySize size, rest)

size_stops : (bytes : List ℕ) (r : Refusal) → IsBytes bytes → size_at bytes ≡ Err r → Stops (Then SpellsInt (λ size b. b ≡ [])) size_at bytes r
size_stops bytes r fits e = then_stops int_at SpellsInt int_word size_made (λ size b. b ≡ []) (λ size. ([], refl)) (λ size rest s ok f. absurd cc) bytes r fits e

abbrev plain_made : ℕ → List ℕ → List ℕ → Reading Attribute
plain_made code text rest = Ok (Plain code text, rest)

plain_stops : (code : ℕ) (bytes : List ℕ) (r : Refusal) → IsBytes bytes → plain_at code bytes ≡ Err r → Stops (Then (SpellsText false) (λ text b. b ≡ [])) (plain_at code) bytes r
plain_stops code bytes r fits e = then_stops (text_at false) (SpellsText false) (text_word false) (plain_made code) (λ text b. b ≡ []) (λ text. ([], refl)) (λ text rest s ok f. absurd cc) bytes r fits e

-- reading an attribute from its code on
abbrev pub one_at : List ℕ → Reading Attribute
one_at bytes = byte_at bytes >>= λ code. attribute_at code.0 bytes code.1

abbrev at_plain : ℕ → List ℕ → List ℕ → Reading Attribute
at_plain code bytes rest = cond (is_plain code) (plain_at code rest) (refused BadCode bytes)

abbrev at_size : ℕ → List ℕ → List ℕ → Reading Attribute
at_size code bytes rest = cond (eqb code 11) (size_at rest) (at_plain code bytes rest)

named_of : (b : List ℕ) → GoodNamed b → AnyAttribute (10 ∷ b)
named_of b (name, first, rest, spells_name, (value, second, none, spells_value, nothing, last), parts) =
    (Named name value, (first, second, spells_name, spells_value, ap (λ (z : List ℕ). 10 ∷ z) (parts ∙ ap (λ (z : List ℕ). first ++ z) (last ∙ ap (λ (z : List ℕ). second ++ z) nothing ∙ append-nil second))))

size_of : (b : List ℕ) → Then SpellsInt (λ size m. m ≡ []) b → AnyAttribute (11 ∷ b)
size_of b (size, front, none, spells, nothing, parts) =
    (KeySize size, (spells.0, ap (λ (z : List ℕ). 11 ∷ z) (parts ∙ ap (λ (z : List ℕ). front ++ z) nothing ∙ append-nil front ∙ spells.1)))

plain_of : (code : ℕ) (b : List ℕ) → is_plain code ≡ true → Then (SpellsText false) (λ text m. m ≡ []) b → AnyAttribute (code ∷ b)
plain_of code b plain (text, front, none, spells, nothing, parts) =
    (Plain code text, (front, plain, spells, ap (λ (z : List ℕ). code ∷ z) (parts ∙ ap (λ (z : List ℕ). front ++ z) nothing ∙ append-nil front)))

-- an attribute after its code, whatever its kind
behind_code : (Good : List ℕ → Type 0) (read : List ℕ → Reading Attribute) (code one : ℕ) (rest : List ℕ) (r : Refusal) → code ≡ one → Stops Good read rest r
    → ((b : List ℕ) → Good b → AnyAttribute (one ∷ b)) → ((y : List ℕ) → Fails (read y) → Fails (one_at (one ∷ y))) → Stops AnyAttribute one_at (code ∷ rest) r
behind_code Good read code one rest r is s grow carry =
    behind_it Good AnyAttribute read one_at (one ∷ []) (code ∷ rest) rest r (ap (λ (k : ℕ). k ∷ rest) is) s
    (λ b good. ([], subst (λ (z : List ℕ). AnyAttribute (one ∷ z)) (sym (append-nil b)) (grow b good))) carry

one_stops : (code : ℕ) (rest : List ℕ) (r : Refusal) → IsBytes rest → attribute_at code (code ∷ rest) rest ≡ Err r → Stops AnyAttribute one_at (code ∷ rest) r
unfolding attribute_at
one_stops code rest r fits e =
    elim (chosen (eqb code 10) (named_at rest) (at_size code (code ∷ rest) rest) (Err r) e) [
      | inl ten ↦ behind_code GoodNamed named_at code 10 rest r (eqb-true _ _ ten.0) (named_stops rest r fits ten.1) named_of (λ y h. h)
      | inr a ↦
          elim (chosen (eqb code 11) (size_at rest) (at_plain code (code ∷ rest) rest) (Err r) a.1) [
            | inl eleven ↦ behind_code (Then SpellsInt (λ size b. b ≡ [])) size_at code 11 rest r (eqb-true _ _ eleven.0) (size_stops rest r fits eleven.1) size_of (λ y h. h)
            | inr b ↦
                elim (chosen (is_plain code) (plain_at code rest) (refused BadCode (code ∷ rest)) (Err r) b.1) [
                  | inl plain ↦ behind_code (Then (SpellsText false) (λ text m. m ≡ [])) (plain_at code) code code rest r refl (plain_stops code rest r fits plain.1) (λ m good. plain_of code m plain.0 good) (λ y h. rw (a.0, b.0, plain.0) h)
                  | inr none ↦ spoils {A = Attribute × List ℕ} AnyAttribute one_at code rest r BadCode (11 ∷ 0 ∷ 0 ∷ []) none.1 refl (KeySize 0, (omega arith, refl)) (λ y. rw (a.0, b.0, none.0) tt)
                ]
          ]
    ]

-- ---- a field takes bytes from the front

int_shrinks : (bytes : List ℕ) (n : ℕ) (rest : List ℕ) → int_at bytes ≡ Ok (n, rest) → length rest ≤ length bytes
int_shrinks [] n rest e = absurd cc
int_shrinks (high ∷ []) n rest e = absurd cc
int_shrinks (high ∷ low ∷ bytes) n rest e =
    let same : bytes ≡ rest = ap (λ (x : ℕ × List ℕ). x.1) (ok_is {A = ℕ × List ℕ} (256 * high + low, bytes) (n, rest) e) in
    omega (arith, ap length same)

string_shrinks : (bytes : List ℕ) (s : Option (List ℕ)) (rest : List ℕ) → string_at bytes ≡ Ok (s, rest) → length rest ≤ length bytes
unfolding string_at
string_shrinks bytes s rest e =
    let a = bind_ok (int_at bytes) (λ len. cond (eqb len.0 65535) (Ok (None, len.1)) (marked_at len.0 len.1 >>= λ text. Ok (Some text.0, text.1))) (s, rest) e in
    let i = int_shrinks bytes a.0.0 a.0.1 a.1 in
    elim (chosen (eqb a.0.0 65535) (Ok (None, a.0.1)) (marked_at a.0.0 a.0.1 >>= λ text. Ok (Some text.0, text.1)) (Ok (s, rest)) a.2) [
      | inl w ↦
          let same : a.0.1 ≡ rest = ap (λ (x : Option (List ℕ) × List ℕ). x.1) (ok_is {A = Option (List ℕ) × List ℕ} (None, a.0.1) (s, rest) w.1) in
          omega (arith, i, ap length same)
      | inr w ↦
          let b = bind_ok (marked_at a.0.0 a.0.1) (λ text. Ok (Some text.0, text.1)) (s, rest) w.1 in
          let m = marked_takes a.0.0 a.0.1 b.0.0 b.0.1 b.1 in
          let same : b.0.1 ≡ rest = ap (λ (x : Option (List ℕ) × List ℕ). x.1) (ok_is {A = Option (List ℕ) × List ℕ} (Some b.0.0, b.0.1) (s, rest) b.2) in
          omega (arith, i, ap length m.0, length-append b.0.0 (0 ∷ b.0.1), ap length same)
    ]

present_keeps : (may_be_absent : Bool) (bytes : List ℕ) (s : Option (List ℕ)) (after text rest : List ℕ) → present may_be_absent bytes (s, after) ≡ Ok (text, rest) → after ≡ rest
present_keeps may_be_absent bytes (Some t) after text rest e = ap (λ (x : List ℕ × List ℕ). x.1) (ok_is {A = List ℕ × List ℕ} (t, after) (text, rest) e)
present_keeps true bytes None after text rest e = ap (λ (x : List ℕ × List ℕ). x.1) (ok_is {A = List ℕ × List ℕ} ([], after) (text, rest) e)
present_keeps false bytes None after text rest e = absurd cc

text_shrinks : (may_be_absent : Bool) (bytes text rest : List ℕ) → text_at may_be_absent bytes ≡ Ok (text, rest) → length rest ≤ length bytes
unfolding text_at
text_shrinks may_be_absent bytes text rest e =
    let a = bind_ok (string_at bytes) (present may_be_absent bytes) (text, rest) e in
    let same = present_keeps may_be_absent bytes a.0.0 a.0.1 text rest a.2 in
    omega (arith, string_shrinks bytes a.0.0 a.0.1 a.1, ap length same)

attribute_shrinks : (code : ℕ) (bytes rest : List ℕ) (attribute : Attribute) (after : List ℕ) → attribute_at code bytes rest ≡ Ok (attribute, after) → length after ≤ length rest
unfolding attribute_at named_at
attribute_shrinks code bytes rest attribute after e =
    elim (chosen (eqb code 10) (named_at rest) (at_size code bytes rest) (Ok (attribute, after)) e) [
      | inl ten ↦
          let a = bind_ok (text_at false rest) (λ name. after_name name.0 name.1) (attribute, after) ten.1 in
          let b = bind_ok (text_at true a.0.1) (λ value. named_made a.0.0 value.0 value.1) (attribute, after) a.2 in
          let same : b.0.1 ≡ after = ap (λ (x : Attribute × List ℕ). x.1) (ok_is {A = Attribute × List ℕ} (Named a.0.0 b.0.0, b.0.1) (attribute, after) b.2) in
          omega (arith, text_shrinks false rest a.0.0 a.0.1 a.1, text_shrinks true a.0.1 b.0.0 b.0.1 b.1, ap length same)
      | inr w ↦
          elim (chosen (eqb code 11) (size_at rest) (at_plain code bytes rest) (Ok (attribute, after)) w.1) [
            | inl eleven ↦
                let a = bind_ok (int_at rest) (λ size. size_made size.0 size.1) (attribute, after) eleven.1 in
                let same : a.0.1 ≡ after = ap (λ (x : Attribute × List ℕ). x.1) (ok_is {A = Attribute × List ℕ} (KeySize a.0.0, a.0.1) (attribute, after) a.2) in
                omega (arith, int_shrinks rest a.0.0 a.0.1 a.1, ap length same)
            | inr v ↦
                elim (chosen (is_plain code) (plain_at code rest) (refused BadCode bytes) (Ok (attribute, after)) v.1) [
                  | inl plain ↦
                      let a = bind_ok (text_at false rest) (λ text. plain_made code text.0 text.1) (attribute, after) plain.1 in
                      let same : a.0.1 ≡ after = ap (λ (x : Attribute × List ℕ). x.1) (ok_is {A = Attribute × List ℕ} (Plain code a.0.0, a.0.1) (attribute, after) a.2) in
                      omega (arith, text_shrinks false rest a.0.0 a.0.1 a.1, ap length same)
                  | inr none ↦ absurd cc
                ]
          ]
    ]

-- ---- a list of attributes

abbrev more_of : ℕ → Attribute × List ℕ → Reading (List Attribute)
more_of most first = attributes_at most first.1 >>= λ others. Ok (first.0 ∷ others.0, others.1)

same_more : (n m code : ℕ) (bytes rest : List ℕ) (read : Reading Attribute) → attribute_at code bytes rest ≡ read → length rest ≤ n → length rest ≤ m
    → ((after : List ℕ) → length after ≤ n → length after ≤ m → attributes_at n after ≡ attributes_at m after) → (read >>= more_of n) ≡ (read >>= more_of m)
same_more n m code bytes rest (Err r) is le ge same = refl
same_more n m code bytes rest (Ok first) is le ge same =
    let shorter = attribute_shrinks code bytes rest first.0 first.1 is in
    ap (λ (x : Reading (List Attribute)). x >>= λ others. Ok (first.0 ∷ others.0, others.1)) (same first.1 (omega (arith, shorter)) (omega (arith, shorter)))

-- any bound that is no less than the bytes gives the same
same_bound : (n m : ℕ) (bytes : List ℕ) → length bytes ≤ n → length bytes ≤ m → attributes_at n bytes ≡ attributes_at m bytes
unfolding attributes_at
same_bound zero zero bytes le ge = refl
same_bound zero (suc m) [] le ge = refl
same_bound zero (suc m) (code ∷ bytes) le ge = absurd (omega arith)
same_bound (suc n) zero [] le ge = refl
same_bound (suc n) zero (code ∷ bytes) le ge = absurd (omega arith)
same_bound (suc n) (suc m) [] le ge = refl
same_bound (suc n) (suc m) (code ∷ bytes) le ge =
    let same : (attribute_at code (code ∷ bytes) bytes >>= more_of n) ≡ (attribute_at code (code ∷ bytes) bytes >>= more_of m) =
    same_more n m code (code ∷ bytes) bytes (attribute_at code (code ∷ bytes) bytes) refl (omega arith) (omega arith) (λ rest lt gt. same_bound n m rest lt gt) in
    ap (λ (x : Reading (List Attribute)). cond (eqb code 255) (Ok ([], bytes)) x) same

-- the attributes that bytes begin with
abbrev pub list_at : List ℕ → Reading (List Attribute)
list_at bytes = attributes_at (length bytes) bytes

-- attributes that more may follow
abbrev pub AnyList : List ℕ → Type 0
AnyList bytes = (attributes : List Attribute) × SpellsAttributes attributes bytes

list_carries : (code : ℕ) (held y : List ℕ) (attribute : Attribute) → eqb code 255 ≡ false → attribute_at code (code ∷ (held ++ y)) (held ++ y) ≡ Ok (attribute, y) → Fails (list_at y) → Fails (list_at (code ∷ (held ++ y)))
unfolding attributes_at
list_carries code held y attribute other read h =
    let enough : length y ≤ length (held ++ y) = omega (arith, length-append held y) in
    rw (other, read, same_bound (length (held ++ y)) (length y) y enough (omega arith)) (fails-bind (list_at y) (λ others. Ok (attribute ∷ others.0, others.1)) h)

fails_first : (code : ℕ) (rest : List ℕ) → eqb code 255 ≡ false → Fails (attribute_at code (code ∷ rest) rest) → Fails (list_at (code ∷ rest))
unfolding attributes_at
fails_first code rest other h = rw other (fails-bind (attribute_at code (code ∷ rest) rest) (more_of (length rest)) h)

-- what begins with a byte still does where something else follows
head_stays : (code : ℕ) (rest front there behind y : List ℕ) → (code ∷ rest) ≡ front ++ (there ++ behind) → 0 < length there → (tail : List ℕ) × (front ++ (there ++ y) ≡ code ∷ tail)
head_stays code rest [] [] behind y parts some = absurd (omega arith)
head_stays code rest [] (c ∷ there) behind y parts some = let same : code ≡ c = cc in (there ++ y, ap (λ (k : ℕ). k ∷ (there ++ y)) (sym same))
head_stays code rest (c ∷ front) there behind y parts some = let same : code ≡ c = cc in (front ++ (there ++ y), ap (λ (k : ℕ). k ∷ (front ++ (there ++ y))) (sym same))

first_stops : (code : ℕ) (rest : List ℕ) (r : Refusal) → IsBytes rest → eqb code 255 ≡ false → attribute_at code (code ∷ rest) rest ≡ Err r → Stops AnyList list_at (code ∷ rest) r
first_stops code rest r fits other stopped =
    let s = one_stops code rest r fits stopped in
    record {
      front = s.front;
      there = s.there;
      behind = s.behind;
      more = s.more;
      whole = s.whole;
      opens = (s.opens.0 ∷ [], (s.front ++ s.more, [], s.opens.1, refl, sym (append-nil (s.front ++ s.more))));
      how = elim s.how [
        | inl ended ↦ inl ended
        | inr spoiled ↦ inr (record {
          kind = spoiled.kind;
          left = spoiled.left;
          some = spoiled.some;
          few = spoiled.few;
          always = λ y.
              let h = head_stays code rest s.front s.there s.behind y s.whole spoiled.some in
              subst (λ (b : List ℕ). Fails (list_at b)) (sym h.1) (fails_first code h.0 other (subst (λ (b : List ℕ). Fails (one_at b)) h.1 (spoiled.always y)));
        })
      ];
    }

others_stop : (bytes : List ℕ) (attribute : Attribute) (front after : List ℕ) (r : Refusal) → bytes ≡ front ++ after → SpellsAttribute attribute front → Stops AnyList list_at after r → Stops AnyList list_at bytes r
others_stop bytes attribute front after r parts spelled s =
    behind_it AnyList AnyList list_at list_at front bytes after r parts s
    (λ b good. ([], (attribute ∷ good.0, (front, b, spelled, good.1, ap (λ (z : List ℕ). front ++ z) (append-nil b)))))
    (λ y h.
    let a = attribute_again attribute front y spelled in
    subst (λ (b : List ℕ). Fails (list_at (b ++ y))) (sym a.parts) (list_carries a.code a.held y attribute a.other (a.again (a.code ∷ (a.held ++ y))) h))

pub list_stops : (most : ℕ) (bytes : List ℕ) (r : Refusal) → length bytes ≤ most → IsBytes bytes → attributes_at most bytes ≡ Err r → Stops AnyList list_at bytes r
unfolding attributes_at
list_stops zero [] r le fits e = lacks {A = List Attribute × List ℕ} AnyList list_at r [] e ([], refl)
list_stops zero (code ∷ bytes) r le fits e = absurd (omega arith)
list_stops (suc most) [] r le fits e = lacks {A = List Attribute × List ℕ} AnyList list_at r [] e ([], refl)
list_stops (suc most) (code ∷ bytes) r le fits e =
    elim (chosen (eqb code 255) (Ok ([], bytes)) (attribute_at code (code ∷ bytes) bytes >>= more_of most) (Err r) e) [
      | inl w ↦ absurd cc
      | inr w ↦
          elim (bind_err (attribute_at code (code ∷ bytes) bytes) (more_of most) r w.1) [
            | inl stopped ↦ first_stops code bytes r (IsBytes-rest code bytes fits) w.0 stopped
            | inr (first, read, on) ↦
                let f = attribute_takes code bytes first.0 first.1 (IsBytes-rest code bytes fits) read in
                let shorter = attribute_shrinks code (code ∷ bytes) bytes first.0 first.1 read in
                elim (bind_err (attributes_at most first.1) (λ others. Ok (first.0 ∷ others.0, others.1)) r on) [
                  | inl stopped ↦ others_stop (code ∷ bytes) first.0 f.front first.1 r f.parts f.spelled (list_stops most first.1 r (omega (arith, shorter, le)) (Front-rest (SpellsAttribute first.0) (code ∷ bytes) first.1 f fits) stopped)
                  | inr (others, read_them, done) ↦ absurd cc
                ]
          ]
    ]
