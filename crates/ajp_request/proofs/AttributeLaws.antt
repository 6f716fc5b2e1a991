-- Attributes: what is read is spelled so, and what is spelled so is read.
use Rattle.std.proofs.Common.{◌≡◌, ℕ, zero, suc, ◌+◌, ◌<◌, ◌≤◌, Bool, true, false, cond, eqb, IsTrue, List, [], ◌∷◌, ◌++◌, length, Option, Some, None, Ok, Err, refl, sym, ap, subst, ◌∙◌, append_assoc, arith, ◌⊎◌, inl, inr}
use Rattle.std.proofs.lemmas.Bool.{eqb-true, eqb-false, eq-eqb, ne_eqb, true≢false}
use Rattle.std.proofs.lemmas.List.{length-append}
use Rattle.ajp_wire.specs.declared.refusal.RefusalKind.TheVariants.{BadCode}
use Rattle.ajp_wire.specs.Spelling.{int, SpellsText}
use Rattle.ajp_wire.specs.Reading.{◌>>=◌, refused, byte_at, int_at, text_at}
use Rattle.ajp_wire.proofs.ReadingLaws.{IsBytes, IsBytes-rest, Front, Front-rest, joined, bind_ok, ok_is, chosen, int_value, int_takes, text_takes, text_again}
use Rattle.ajp_request.specs.declared.attribute.Attribute.{Attribute}
use Rattle.ajp_request.specs.declared.attribute.Attribute.TheVariants.{Plain, Named, KeySize}
use Rattle.ajp_request.specs.Tables.{is_plain}
use Rattle.ajp_request.specs.Spelling.{SpellsAttribute, SpellsAttributes}
use Rattle.ajp_request.specs.Reading.{named_at, size_at, plain_at, attribute_at, attributes_at}

-- a byte before what was joined
behind_code : (code : ℕ) (bytes front rest : List ℕ) → bytes ≡ front ++ rest → (code ∷ bytes) ≡ (code ∷ front) ++ rest
behind_code code bytes front rest p = ap (λ (r : List ℕ). code ∷ r) p

named_takes : (bytes : List ℕ) (attribute : Attribute) (rest : List ℕ) → IsBytes bytes → named_at bytes ≡ Ok (attribute, rest) → Front (SpellsAttribute attribute) (10 ∷ bytes) rest
unfolding named_at
named_takes bytes attribute rest fits e =
    let a = bind_ok (text_at false bytes) (λ name. text_at true name.1 >>= λ value. Ok (Named name.0 value.0, value.1)) (attribute, rest) e in
    let name = a.0 in
    let b = bind_ok (text_at true name.1) (λ value. Ok (Named name.0 value.0, value.1)) (attribute, rest) a.2 in
    let value = b.0 in
    let n = text_takes false bytes name.0 name.1 fits a.1 in
    let v = text_takes true name.1 value.0 value.1 (Front-rest (SpellsText false name.0) bytes name.1 n fits) b.1 in
    let whole : Front (SpellsAttribute (Named name.0 value.0)) (10 ∷ bytes) value.1 = record {
      front = 10 ∷ (n.front ++ v.front);
      spelled = (n.front, v.front, n.spelled, v.spelled, refl);
      parts = behind_code 10 bytes (n.front ++ v.front) value.1 (joined bytes n.front name.1 v.front value.1 n.parts v.parts);
    } in
    subst (λ (x : Attribute × List ℕ). Front (SpellsAttribute x.0) (10 ∷ bytes) x.1) (ok_is (Named name.0 value.0, value.1) (attribute, rest) b.2) whole

size_takes : (bytes : List ℕ) (attribute : Attribute) (rest : List ℕ) → IsBytes bytes → size_at bytes ≡ Ok (attribute, rest) → Front (SpellsAttribute attribute) (11 ∷ bytes) rest
size_takes bytes attribute rest fits e =
    let a = bind_ok (int_at bytes) (λ size. Ok (KeySize size.0, size.1)) (attribute, rest) e in
    let size = a.0 in
    let t = int_takes bytes size.1 size.0 fits a.1 in
    let whole : Front (SpellsAttribute (KeySize size.0)) (11 ∷ bytes) size.1 = record {
      front = 11 ∷ int size.0;
      spelled = (t.1, refl);
      parts = behind_code 11 bytes (int size.0) size.1 t.0;
    } in
    subst (λ (x : Attribute × List ℕ). Front (SpellsAttribute x.0) (11 ∷ bytes) x.1) (ok_is (KeySize size.0, size.1) (attribute, rest) a.2) whole

plain_takes : (code : ℕ) (bytes : List ℕ) (attribute : Attribute) (rest : List ℕ) → is_plain code ≡ true → IsBytes bytes → plain_at code bytes ≡ Ok (attribute, rest) → Front (SpellsAttribute attribute) (code ∷ bytes) rest
plain_takes code bytes attribute rest plain fits e =
    let a = bind_ok (text_at false bytes) (λ text. Ok (Plain code text.0, text.1)) (attribute, rest) e in
    let text = a.0 in
    let t = text_takes false bytes text.0 text.1 fits a.1 in
    let whole : Front (SpellsAttribute (Plain code text.0)) (code ∷ bytes) text.1 = record {
      front = code ∷ t.front;
      spelled = (t.front, plain, t.spelled, refl);
      parts = behind_code code bytes t.front text.1 t.parts;
    } in
    subst (λ (x : Attribute × List ℕ). Front (SpellsAttribute x.0) (code ∷ bytes) x.1) (ok_is (Plain code text.0, text.1) (attribute, rest) a.2) whole

pub attribute_takes : (code : ℕ) (bytes : List ℕ) (attribute : Attribute) (rest : List ℕ) → IsBytes bytes → attribute_at code (code ∷ bytes) bytes ≡ Ok (attribute, rest) → Front (SpellsAttribute attribute) (code ∷ bytes) rest
unfolding attribute_at
attribute_takes code bytes attribute rest fits e =
    elim (chosen (eqb code 10) (named_at bytes) (cond (eqb code 11) (size_at bytes) (cond (is_plain code) (plain_at code bytes) (refused BadCode (code ∷ bytes)))) (Ok (attribute, rest)) e) [
      | inl w ↦ subst (λ (k : ℕ). Front (SpellsAttribute attribute) (k ∷ bytes) rest) (sym (eqb-true _ _ w.0)) (named_takes bytes attribute rest fits w.1)
      | inr w ↦
          elim (chosen (eqb code 11) (size_at bytes) (cond (is_plain code) (plain_at code bytes) (refused BadCode (code ∷ bytes))) (Ok (attribute, rest)) w.1) [
            | inl v ↦ subst (λ (k : ℕ). Front (SpellsAttribute attribute) (k ∷ bytes) rest) (sym (eqb-true _ _ v.0)) (size_takes bytes attribute rest fits v.1)
            | inr v ↦
                elim (chosen (is_plain code) (plain_at code bytes) (refused BadCode (code ∷ bytes)) (Ok (attribute, rest)) v.1) [
                  | inl u ↦ plain_takes code bytes attribute rest u.0 fits u.1
                  | inr u ↦ absurd cc
                ]
          ]
    ]

-- a list of attributes and the FF that ends it
pub record HasAttributes (attributes : List Attribute) (bytes rest : List ℕ) : Type 0 where
  pub listed : List ℕ
  pub spelled : SpellsAttributes attributes listed
  pub parts : bytes ≡ listed ++ 255 ∷ rest

pub attributes_take : (most : ℕ) (bytes : List ℕ) (attributes : List Attribute) (rest : List ℕ) → IsBytes bytes → attributes_at most bytes ≡ Ok (attributes, rest) → HasAttributes attributes bytes rest
unfolding attributes_at
attributes_take zero bytes attributes rest fits e = absurd cc
attributes_take (suc most) [] attributes rest fits e = absurd cc
attributes_take (suc most) (code ∷ bytes) attributes rest fits e =
    elim (chosen (eqb code 255) (Ok ([], bytes)) (attribute_at code (code ∷ bytes) bytes >>= λ first. attributes_at most first.1 >>= λ others. Ok (first.0 ∷ others.0, others.1)) (Ok (attributes, rest)) e) [
      | inl w ↦
          let whole : HasAttributes [] (code ∷ bytes) bytes = record { listed = []; spelled = refl; parts = ap (λ (k : ℕ). k ∷ bytes) (eqb-true _ _ w.0) } in
          subst (λ (x : List Attribute × List ℕ). HasAttributes x.0 (code ∷ bytes) x.1) (ok_is ([], bytes) (attributes, rest) w.1) whole
      | inr w ↦
          let a = bind_ok (attribute_at code (code ∷ bytes) bytes) (λ first. attributes_at most first.1 >>= λ others. Ok (first.0 ∷ others.0, others.1)) (attributes, rest) w.1 in
          let first = a.0 in
          let b = bind_ok (attributes_at most first.1) (λ others. Ok (first.0 ∷ others.0, others.1)) (attributes, rest) a.2 in
          let others = b.0 in
          let f = attribute_takes code bytes first.0 first.1 (IsBytes-rest code bytes fits) a.1 in
          let o = attributes_take most first.1 others.0 others.1 (Front-rest (SpellsAttribute first.0) (code ∷ bytes) first.1 f fits) b.1 in
          let whole : HasAttributes (first.0 ∷ others.0) (code ∷ bytes) others.1 = record {
            listed = f.front ++ o.listed;
            spelled = (f.front, o.listed, f.spelled, o.spelled, refl);
            parts = joined (code ∷ bytes) f.front first.1 o.listed (255 ∷ others.1) f.parts o.parts;
          } in
          subst (λ (x : List Attribute × List ℕ). HasAttributes x.0 (code ∷ bytes) x.1) (ok_is (first.0 ∷ others.0, others.1) (attributes, rest) b.2) whole
    ]

-- ---- what is spelled is read

-- a spelling of an attribute begins with a code other than FF, by which it is read
pub record IsAgain (attribute : Attribute) (front rest : List ℕ) : Type 0 where
  pub code : ℕ
  pub held : List ℕ
  pub parts : front ≡ code ∷ held
  pub other : eqb code 255 ≡ false
  pub again : (bytes : List ℕ) → attribute_at code bytes (held ++ rest) ≡ Ok (attribute, rest)

not_plain : (code wrong : ℕ) → is_plain code ≡ true → is_plain wrong ≡ false → eqb code wrong ≡ false
not_plain code wrong plain refused_there = ne_eqb code wrong (λ (same : code ≡ wrong). true≢false (sym plain ∙ ap is_plain same ∙ refused_there))

pub attribute_again : (attribute : Attribute) (front rest : List ℕ) → SpellsAttribute attribute front → IsAgain attribute front rest
unfolding attribute_at named_at
attribute_again (Plain code text) front rest (held, plain, spelled, parts) = record {
  code = code;
  held = held;
  parts = parts;
  other = not_plain code 255 plain refl;
  again = λ bytes. rw (not_plain code 10 plain refl, not_plain code 11 plain refl, plain, text_again false text held rest spelled) refl;
}
attribute_again (Named name value) front rest (first, second, spells_name, spells_value, parts) = record {
  code = 10;
  held = first ++ second;
  parts = parts;
  other = refl;
  again = λ bytes. rw (append_assoc first second rest, text_again false name first (second ++ rest) spells_name, text_again true value second rest spells_value) refl;
}
attribute_again (KeySize size) front rest (fits, parts) = record {
  code = 11;
  held = int size;
  parts = parts;
  other = refl;
  again = λ bytes. rw (int_value size) refl;
}

pub attributes_again : (attributes : List Attribute) (listed rest : List ℕ) (most : ℕ) → SpellsAttributes attributes listed → length listed < most → attributes_at most (listed ++ 255 ∷ rest) ≡ Ok (attributes, rest)
unfolding attributes_at
attributes_again attributes listed rest zero spelled lt = absurd (omega arith)
attributes_again [] listed rest (suc most) spelled lt = rw spelled refl
attributes_again (attribute ∷ attributes) listed rest (suc most) (first, others, spells_first, spells_others, whole) lt =
    let a = attribute_again attribute first (others ++ 255 ∷ rest) spells_first in
    let shorter : length others < most = omega (arith, ap length whole, length-append first others, ap length a.parts) in
    let regrouped : listed ++ 255 ∷ rest ≡ a.code ∷ (a.held ++ (others ++ 255 ∷ rest)) = ap (λ (x : List ℕ). x ++ 255 ∷ rest) whole ∙ append_assoc first others (255 ∷ rest) ∙ ap (λ (x : List ℕ). x ++ (others ++ 255 ∷ rest)) a.parts in
    ap (attributes_at (suc most)) regrouped ∙ rw (a.other, a.again (a.code ∷ (a.held ++ (others ++ 255 ∷ rest))), attributes_again attributes others rest most spells_others shorter) refl
