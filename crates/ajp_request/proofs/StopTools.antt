-- Where the reading of several fields, one after the other, stops.
use Rattle.std.proofs.Common.{◌≡◌, ℕ, zero, suc, ◌+◌, ◌<◌, ◌≤◌, Bool, true, List, [], ◌∷◌, ◌++◌, length, Result, Ok, Err, refl, sym, ap, subst, ◌∙◌, arith, ◌⊎◌, inl, inr}
use Rattle.std.proofs.lemmas.List.{append-nil}
use Rattle.ajp_wire.specs.declared.refusal.Refusal.{Refusal}
use Rattle.ajp_wire.specs.declared.refusal.RefusalKind.{RefusalKind}
use Rattle.ajp_wire.specs.declared.refusal.RefusalKind.TheVariants.{Short}
use Rattle.ajp_wire.specs.Reading.{Reading, ◌>>=◌, refused}
use Rattle.ajp_wire.proofs.ReadingLaws.{IsBytes, IsBytes-behind}
use Rattle.ajp_wire.proofs.FirstPlaces.{is_placed, Fails, Ended, Spoiled, Stops, fails-bind, bind_err, refusal_is, starts, behind_it}

-- a field's reading and its spellings belong together
pub record Word {A : Type 0} (read : List ℕ → Reading A) (Spelt : A → List ℕ → Type 0) : Type 0 where
  pub takes : (bytes : List ℕ) (x : A) (rest : List ℕ) → IsBytes bytes → read bytes ≡ Ok (x, rest) → (front : List ℕ) × Spelt x front × (bytes ≡ front ++ rest)
  pub again : (x : A) (front rest : List ℕ) → Spelt x front → read (front ++ rest) ≡ Ok (x, rest)
  pub stops : (bytes : List ℕ) (r : Refusal) → IsBytes bytes → read bytes ≡ Err r → Stops (λ b. (x : A) × Spelt x b) read bytes r

-- a field, and after it what may follow it
abbrev pub Then : {A : Type 0} → (A → List ℕ → Type 0) → (A → List ℕ → Type 0) → List ℕ → Type 0
Then {A} Spelt Follows bytes = (x : A) × (front : List ℕ) × (rest : List ℕ) × Spelt x front × Follows x rest × (bytes ≡ front ++ rest)

pub then_stops : {A B : Type 0} (read : List ℕ → Reading A) (Spelt : A → List ℕ → Type 0) (word : Word read Spelt) (next : A → List ℕ → Result B Refusal) (Follows : A → List ℕ → Type 0)
    → ((x : A) → (m : List ℕ) × Follows x m) → ((x : A) (rest : List ℕ) (r : Refusal) → IsBytes rest → next x rest ≡ Err r → Stops (Follows x) (next x) rest r)
    → (bytes : List ℕ) (r : Refusal) → IsBytes bytes → (read bytes >>= λ y. next y.0 y.1) ≡ Err r → Stops (Then Spelt Follows) (λ b. read b >>= λ y. next y.0 y.1) bytes r
then_stops {A} {B} read Spelt word next Follows fill later bytes r fits e =
    let both : List ℕ → Result B Refusal = λ b. read b >>= λ y. next y.0 y.1 in
    elim (bind_err (read bytes) (λ y. next y.0 y.1) r e) [
      | inl stopped ↦
          behind_it (λ b. (x : A) × Spelt x b) (Then Spelt Follows) read both [] bytes bytes r refl (word.stops bytes r fits stopped)
          (λ b good. let f = fill good.0 in (f.0, (good.0, b, f.0, good.1, f.1, refl)))
          (λ y h. fails-bind (read y) (λ z. next z.0 z.1) h)
      | inr (y, read_it, on) ↦
          let t = word.takes bytes y.0 y.1 fits read_it in
          behind_it (Follows y.0) (Then Spelt Follows) (next y.0) both t.0 bytes y.1 r t.2 (later y.0 y.1 r (IsBytes-behind t.0 y.1 (subst IsBytes t.2 fits)) on)
          (λ b good. ([], (y.0, t.0, b, t.1, good, ap (λ (z : List ℕ). t.0 ++ z) (append-nil b))))
          (λ z h. rw (word.again y.0 t.0 z t.1) h)
    ]

-- the same place, for what is good in another sense
pub stops_as : {A : Type 0} (Good Other : List ℕ → Type 0) (read : List ℕ → Result A Refusal) (bytes : List ℕ) (r : Refusal) → ((b : List ℕ) → Good b → Other b) → Stops Good read bytes r → Stops Other read bytes r
stops_as Good Other read bytes r into s = record { front = s.front; there = s.there; behind = s.behind; more = s.more; whole = s.whole; opens = into (s.front ++ s.more) s.opens; how = s.how }

-- the same place, for the same reading
pub stops_like : {A : Type 0} (Good : List ℕ → Type 0) (read other : List ℕ → Result A Refusal) (bytes : List ℕ) (r : Refusal) → ((b : List ℕ) → other b ≡ read b) → Stops Good read bytes r → Stops Good other bytes r
stops_like Good read other bytes r same s = record {
  front = s.front;
  there = s.there;
  behind = s.behind;
  more = s.more;
  whole = s.whole;
  opens = s.opens;
  how = elim s.how [
    | inl ended ↦ inl ended
    | inr spoiled ↦ inr (record {
      kind = spoiled.kind;
      left = spoiled.left;
      some = spoiled.some;
      few = spoiled.few;
      always = λ y. rw (same (s.front ++ (s.there ++ y))) (spoiled.always y);
    })
  ];
}

-- a byte that can't be read
pub spoils : {A B : Type 0} (Good : List ℕ → Type 0) (read : List ℕ → Result B Refusal) (byte : ℕ) (rest : List ℕ) (r : Refusal) (kind : RefusalKind) (more : List ℕ)
    → refused {A = A} kind (byte ∷ rest) ≡ Err r → is_placed kind ≡ true → Good more → ((y : List ℕ) → Fails (read (byte ∷ y))) → Stops Good read (byte ∷ rest) r
spoils {A} Good read byte rest r kind more e placed good always =
    let k = refusal_is {A = A} kind (byte ∷ rest) r e in
    record {
      front = [];
      there = byte ∷ [];
      behind = rest;
      more = more;
      whole = refl;
      opens = good;
      how = inr (record { kind = ap is_placed k.0 ∙ placed; left = k.1; some = omega arith; few = omega arith; always = always });
    }

-- no byte is there
pub lacks : {A B : Type 0} (Good : List ℕ → Type 0) (read : List ℕ → Result B Refusal) (r : Refusal) (more : List ℕ) → refused {A = A} Short [] ≡ Err r → Good more → Stops Good read [] r
lacks {A} Good read r more e good =
    let k = refusal_is {A = A} Short [] r e in
    starts Good read [] r more k.0 k.1 (omega arith) good
