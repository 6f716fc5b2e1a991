-- A field that is read is spelled by the bytes that were taken, and what is spelled is read, whatever follows.
use Rattle.std.proofs.Common.{◌≡◌, ℕ, zero, suc, ◌+◌, ◌*◌, ◌/◌, ◌%◌, ◌<◌, Bool, true, false, cond, eqb, List, [], ◌∷◌, ◌++◌, length, get_or, take, drop, Option, Some, None, Result, Ok, Err, refl, sym, ap, subst, ◌∙◌, append_assoc, arith, ◌⊎◌, inl, inr}
use Rattle.std.proofs.lemmas.Bool.{eqb-true, eqb-false, ne_eqb, true≢false}
use Rattle.std.proofs.lemmas.List.{take_at, drop_at, take-append-drop, length-take, length-drop}
use Rattle.ajp_wire.specs.declared.refusal.Refusal.{Refusal}
use Rattle.ajp_wire.specs.Spelling.{int, string, absent, SpellsString, SpellsText}
use Rattle.ajp_wire.specs.Reading.{◌>>=◌, int_at, mark_at, marked_at, string_at, present, text_at}

-- each is a byte
abbrev pub IsBytes : List ℕ → Type 0
IsBytes bytes = (i : ℕ) → get_or bytes i 0 < 256

pub IsBytes-rest : (b : ℕ) (bytes : List ℕ) → IsBytes (b ∷ bytes) → IsBytes bytes
IsBytes-rest b bytes fits i = fits (suc i)

pub IsBytes-behind : (front rest : List ℕ) → IsBytes (front ++ rest) → IsBytes rest
IsBytes-behind [] rest fits = fits
IsBytes-behind (b ∷ front) rest fits = IsBytes-behind front rest (IsBytes-rest b (front ++ rest) fits)

-- the bytes begin with a spelling, and then comes the rest
pub record Front (Spells : List ℕ → Type 0) (bytes rest : List ℕ) : Type 0 where
  pub front : List ℕ
  pub spelled : Spells front
  pub parts : bytes ≡ front ++ rest

pub Front-rest : (Spells : List ℕ → Type 0) (bytes rest : List ℕ) → Front Spells bytes rest → IsBytes bytes → IsBytes rest
Front-rest Spells bytes rest f fits = IsBytes-behind f.front rest (subst IsBytes f.parts fits)

-- one spelling after the other
pub joined : (bytes first after second rest : List ℕ) → bytes ≡ first ++ after → after ≡ second ++ rest → bytes ≡ (first ++ second) ++ rest
joined bytes first after second rest p q = p ∙ ap (λ (r : List ℕ). first ++ r) q ∙ sym (append_assoc first second rest)

-- the value of a step that was not refused
pub bind_ok : {A B : Type 0} (r : Result A Refusal) (f : A → Result B Refusal) (y : B) → (r >>= f) ≡ Ok y → (x : A) × (r ≡ Ok x) × (f x ≡ Ok y)
bind_ok (Ok x) f y e = (x, refl, e)
bind_ok (Err d) f y e = absurd cc

abbrev done : {A : Type 0} → A → Result A Refusal
done x = Ok x

pub ok_is : {A : Type 0} (x y : A) → done x ≡ done y → x ≡ y
ok_is x y e = cc

-- which way a test went
pub chosen : {A : Type 0} (b : Bool) (x y z : A) → cond b x y ≡ z → ((b ≡ true) × (x ≡ z)) ⊎ ((b ≡ false) × (y ≡ z))
chosen true x y z e = inl (refl, e)
chosen false x y z e = inr (refl, e)

-- ---- integers

pub int_value : (n : ℕ) → 256 * (n / 256) + n % 256 ≡ n
int_value n = omega arith

pub int_again : (n : ℕ) (rest : List ℕ) → int_at (int n ++ rest) ≡ Ok (n, rest)
int_again n rest = ap (λ (k : ℕ). Ok (k, rest)) (int_value n)

pub int_takes : (bytes rest : List ℕ) (n : ℕ) → IsBytes bytes → int_at bytes ≡ Ok (n, rest) → (bytes ≡ int n ++ rest) × (n < 65536)
int_takes [] rest n fits e = absurd cc
int_takes (high ∷ []) rest n fits e = absurd cc
int_takes (high ∷ low ∷ bytes) rest n fits e =
    let n-is : 256 * high + low ≡ n = ap (λ (x : ℕ × List ℕ). x.0) (ok_is {A = ℕ × List ℕ} (256 * high + low, bytes) (n, rest) e) in
    let rest-is : bytes ≡ rest = ap (λ (x : ℕ × List ℕ). x.1) (ok_is {A = ℕ × List ℕ} (256 * high + low, bytes) (n, rest) e) in
    let high-fits : high < 256 = fits 0 in
    let low-fits : low < 256 = fits 1 in
    let h : high ≡ n / 256 = omega arith in
    let l : low ≡ n % 256 = omega arith in
    (rw (← h, ← l, rest-is) refl, omega arith)

-- ---- strings

mark_takes : (text bytes t rest : List ℕ) → mark_at text bytes ≡ Ok (t, rest) → (t ≡ text) × (bytes ≡ 0 ∷ rest)
mark_takes text [] t rest e = absurd cc
mark_takes text (zero ∷ bytes) t rest e =
    let same : (text, bytes) ≡ (t, rest) = ok_is (text, bytes) (t, rest) e in
    (sym (ap (λ (x : List ℕ × List ℕ). x.0) same), ap (λ (x : List ℕ × List ℕ). 0 ∷ x.1) same)
mark_takes text (suc b ∷ bytes) t rest e = absurd cc

pub marked_takes : (len : ℕ) (bytes text rest : List ℕ) → marked_at len bytes ≡ Ok (text, rest) → (bytes ≡ text ++ 0 ∷ rest) × (length text ≡ len)
unfolding marked_at
marked_takes len bytes text rest e =
    let m = mark_takes (take len bytes) (drop len bytes) text rest e in
    let behind : length (drop len bytes) ≡ suc (length rest) = ap length m.1 in
    (rw (m.0, ← m.1) (sym (take-append-drop len bytes)), rw m.0 (omega (arith, length-take len bytes, length-drop len bytes, behind)))

pub marked_again : (text rest : List ℕ) → marked_at (length text) (text ++ 0 ∷ rest) ≡ Ok (text, rest)
unfolding marked_at
marked_again text rest = rw (take_at text (0 ∷ rest) (length text) refl, drop_at text (0 ∷ rest) (length text) refl) refl

pub string_parts : (text rest : List ℕ) → string text ++ rest ≡ int (length text) ++ (text ++ 0 ∷ rest)
string_parts text rest = append_assoc (int (length text)) (text ++ 0 ∷ []) rest ∙ ap (λ (r : List ℕ). int (length text) ++ r) (append_assoc text (0 ∷ []) rest)

pub string_front : (bytes after text rest : List ℕ) (len : ℕ) → bytes ≡ int len ++ after → after ≡ text ++ 0 ∷ rest → length text ≡ len → len < 65535 → Front (SpellsString (Some text)) bytes rest
string_front bytes after text rest len p q l below = record {
  front = string text;
  spelled = (omega arith, refl);
  parts = p ∙ ap (λ (r : List ℕ). int len ++ r) q ∙ ap (λ (k : ℕ). int k ++ (text ++ 0 ∷ rest)) (sym l) ∙ sym (string_parts text rest);
}

pub string_takes : (bytes rest : List ℕ) (s : Option (List ℕ)) → IsBytes bytes → string_at bytes ≡ Ok (s, rest) → Front (SpellsString s) bytes rest
unfolding string_at
string_takes bytes rest s fits e =
    let a = bind_ok (int_at bytes) (λ len. cond (eqb len.0 65535) (Ok (None, len.1)) (marked_at len.0 len.1 >>= λ text. Ok (Some text.0, text.1))) (s, rest) e in
    let len = a.0 in
    let t = int_takes bytes len.1 len.0 fits a.1 in
    elim (chosen (eqb len.0 65535) (Ok (None, len.1)) (marked_at len.0 len.1 >>= λ text. Ok (Some text.0, text.1)) (Ok (s, rest)) a.2) [
      | inl w ↦
          let same : (None, len.1) ≡ (s, rest) = ok_is (None, len.1) (s, rest) w.1 in
          let whole : Front (SpellsString None) bytes len.1 = record { front = absent; spelled = refl; parts = t.0 ∙ ap (λ (k : ℕ). int k ++ len.1) (eqb-true _ _ w.0) } in
          subst (λ (x : Option (List ℕ) × List ℕ). Front (SpellsString x.0) bytes x.1) same whole
      | inr w ↦
          let b = bind_ok (marked_at len.0 len.1) (λ text. Ok (Some text.0, text.1)) (s, rest) w.1 in
          let m = marked_takes len.0 len.1 b.0.0 b.0.1 b.1 in
          let below : len.0 < 65535 = let other : len.0 ≡ 65535 → ⊥ = eqb-false _ _ w.0 in omega (arith, t.1) in
          let whole = string_front bytes len.1 b.0.0 b.0.1 len.0 t.0 m.0 m.1 below in
          subst (λ (x : Option (List ℕ) × List ℕ). Front (SpellsString x.0) bytes x.1) (ok_is (Some b.0.0, b.0.1) (s, rest) b.2) whole
    ]

pub string_again : (text rest : List ℕ) → length text < 65535 → string_at (string text ++ rest) ≡ Ok (Some text, rest)
unfolding string_at
string_again text rest lt =
    let other : eqb (length text) 65535 ≡ false = ne_eqb _ _ (λ e. absurd (omega arith)) in
    ap string_at (string_parts text rest) ∙ rw (int_value (length text), other, marked_again text rest) refl

pub absent_again : (rest : List ℕ) → string_at (absent ++ rest) ≡ Ok (None, rest)
unfolding string_at
absent_again rest = refl

present_takes : (may_be_absent : Bool) (bytes text rest : List ℕ) (s : Option (List ℕ)) (after : List ℕ) → Front (SpellsString s) bytes after → present may_be_absent bytes (s, after) ≡ Ok (text, rest) → Front (SpellsText may_be_absent text) bytes rest
present_takes may_be_absent bytes text rest (Some t) after f e =
    subst (λ (x : List ℕ × List ℕ). Front (SpellsText may_be_absent x.0) bytes x.1) (ok_is (t, after) (text, rest) e) (record { front = f.front; spelled = inl f.spelled; parts = f.parts })
present_takes true bytes text rest None after f e =
    subst (λ (x : List ℕ × List ℕ). Front (SpellsText true x.0) bytes x.1) (ok_is ([], after) (text, rest) e) (record { front = f.front; spelled = inr (refl, refl, f.spelled); parts = f.parts })
present_takes false bytes text rest None after f e = absurd cc

pub text_takes : (may_be_absent : Bool) (bytes text rest : List ℕ) → IsBytes bytes → text_at may_be_absent bytes ≡ Ok (text, rest) → Front (SpellsText may_be_absent text) bytes rest
unfolding text_at
text_takes may_be_absent bytes text rest fits e =
    let a = bind_ok (string_at bytes) (present may_be_absent bytes) (text, rest) e in
    present_takes may_be_absent bytes text rest a.0.0 a.0.1 (string_takes bytes a.0.1 a.0.0 fits a.1) a.2

pub text_again : (may_be_absent : Bool) (text front rest : List ℕ) → SpellsText may_be_absent text front → text_at may_be_absent (front ++ rest) ≡ Ok (text, rest)
unfolding text_at string_at
text_again may_be_absent text front rest (inl s) = rw (s.1, string_again text rest s.0) refl
text_again true text front rest (inr s) = rw (s.2, s.1) refl
text_again false text front rest (inr s) = absurd (true≢false (sym s.0))
