-- Where a reading stops: what stands before the place begins something that can be read, and what stands there can't be
-- read, whatever follows it.
use Rattle.std.proofs.Common.{◌≡◌, ℕ, zero, suc, ◌+◌, ◌-◌, ◌*◌, ◌<◌, ◌≤◌, Bool, true, false, List, [], ◌∷◌, ◌++◌, length, take, drop, replicate, Result, Ok, Err, refl, sym, ap, subst, ◌∙◌, arith, append_assoc, ◌⊎◌, inl, inr}
use Rattle.std.proofs.lemmas.List.{append-nil, take_at, drop_at, take-append-drop, length-take, length-drop, length-append, length-replicate}
use Rattle.ajp_wire.specs.declared.refusal.Refusal.{Refusal}
use Rattle.ajp_wire.specs.declared.refusal.RefusalKind.{RefusalKind}
use Rattle.ajp_wire.specs.declared.refusal.RefusalKind.TheVariants.{Short, BadCode, BadMark, BadBoolean, Extra, TooMany, Absent}
use Rattle.ajp_wire.specs.declared.refusal.NotRead.{NotRead}
use Rattle.ajp_wire.specs.declared.refusal.NotRead.TheVariants as why
use Rattle.ajp_wire.specs.Spelling.{int}
use Rattle.ajp_wire.specs.Reading.{◌>>=◌, Halts, told, error_at, refused, int_at, mark_at, marked_at}
use Rattle.ajp_wire.specs.FirstPlace.{IsFirstBad, EndsWithin, IsRefused}
use Rattle.ajp_wire.proofs.ReadingLaws.{IsBytes, int_takes}

-- the kinds that name a place within the bytes: all but the one that names their end
abbrev pub is_placed : RefusalKind → Bool
is_placed Short = false
is_placed BadCode = true
is_placed BadMark = true
is_placed BadBoolean = true
is_placed Extra = true
is_placed TooMany = true
is_placed Absent = true

abbrev pub Fails : {A : Type 0} → Result A Refusal → Type 0
Fails (Ok x) = ⊥
Fails (Err r) = Unit {0}

-- the bytes end there
pub record Ended (r : Refusal) (there behind : List ℕ) : Type 0 where
  pub kind : r.kind ≡ Short
  pub left : r.left ≡ 0
  pub few : length there ≤ 1
  pub last : behind ≡ []

-- what stands there can't be read, whatever follows it
pub record Spoiled {A : Type 0} (read : List ℕ → Result A Refusal) (r : Refusal) (front there behind : List ℕ) : Type 0 where
  pub kind : is_placed r.kind ≡ true
  pub left : r.left ≡ length (there ++ behind)
  pub some : 0 < length there
  pub few : length there ≤ 2
  pub always : (y : List ℕ) → Fails (read (front ++ (there ++ y)))

-- Reading stops there, after a front that begins something good.
pub record Stops {A : Type 0} (Good : List ℕ → Type 0) (read : List ℕ → Result A Refusal) (bytes : List ℕ) (r : Refusal) : Type 0 where
  pub front : List ℕ
  pub there : List ℕ
  pub behind : List ℕ
  pub more : List ℕ
  pub whole : bytes ≡ front ++ (there ++ behind)
  pub opens : Good (front ++ more)
  pub how : Ended r there behind ⊎ Spoiled read r front there behind

-- ---- tools

pub fails-bind : {A B : Type 0} (r : Result A Refusal) (f : A → Result B Refusal) → Fails r → Fails (r >>= f)
fails-bind (Ok x) f h = absurd h
fails-bind (Err e) f h = tt

pub bind_err : {A B : Type 0} (x : Result A Refusal) (f : A → Result B Refusal) (r : Refusal) → (x >>= f) ≡ Err r → (x ≡ Err r) ⊎ ((y : A) × (x ≡ Ok y) × (f y ≡ Err r))
bind_err (Ok y) f r e = inr (y, refl, e)
bind_err (Err d) f r e = inl cc

abbrev refusal_of : RefusalKind → ℕ → Refusal
refusal_of kind left = record { kind = kind; left = left }

-- a refusal that was answered is this one
pub refusal_is : {A : Type 0} (kind : RefusalKind) (bytes : List ℕ) (r : Refusal) → refused {A = A} kind bytes ≡ Err r → (r.kind ≡ kind) × (r.left ≡ length bytes)
refusal_is {A} kind bytes r e =
    let same : refusal_of kind (length bytes) ≡ r = cc in
    (sym (ap (λ (x : Refusal). x.kind) same), sym (ap (λ (x : Refusal). x.left) same))

-- what ends before it begins
pub starts : {A : Type 0} (Good : List ℕ → Type 0) (read : List ℕ → Result A Refusal) (bytes : List ℕ) (r : Refusal) (more : List ℕ)
    → r.kind ≡ Short → r.left ≡ 0 → length bytes ≤ 1 → Good more → Stops Good read bytes r
starts Good read bytes r more kind left few good = record {
  front = [];
  there = bytes;
  behind = [];
  more = more;
  whole = sym (append-nil bytes);
  opens = good;
  how = inl (record { kind = kind; left = left; few = few; last = refl });
}

-- what stops after something that was read
pub behind_it : {A B : Type 0} (Good Whole : List ℕ → Type 0) (read : List ℕ → Result A Refusal) (both : List ℕ → Result B Refusal) (first bytes after : List ℕ) (r : Refusal)
    → bytes ≡ first ++ after → Stops Good read after r
    → ((b : List ℕ) → Good b → (m : List ℕ) × Whole (first ++ (b ++ m)))
    → ((y : List ℕ) → Fails (read y) → Fails (both (first ++ y)))
    → Stops Whole both bytes r
behind_it Good Whole read both first bytes after r parts s grow carry =
    let grown = grow (s.front ++ s.more) s.opens in
    let moved : first ++ ((s.front ++ s.more) ++ grown.0) ≡ (first ++ s.front) ++ (s.more ++ grown.0) =
    ap (λ (b : List ℕ). first ++ b) (append_assoc s.front s.more grown.0) ∙ sym (append_assoc first s.front (s.more ++ grown.0)) in
    record {
      front = first ++ s.front;
      there = s.there;
      behind = s.behind;
      more = s.more ++ grown.0;
      whole = parts ∙ ap (λ (b : List ℕ). first ++ b) s.whole ∙ sym (append_assoc first s.front (s.there ++ s.behind));
      opens = subst Whole moved grown.1;
      how = elim s.how [
        | inl ended ↦ inl ended
        | inr spoiled ↦ inr (record {
          kind = spoiled.kind;
          left = spoiled.left;
          some = spoiled.some;
          few = spoiled.few;
          always = λ y. subst (λ (b : List ℕ). Fails (both b)) (sym (append_assoc first s.front (s.there ++ y))) (carry (s.front ++ (s.there ++ y)) (spoiled.always y));
        })
      ];
    }

-- an integer is there, or at most one byte of it
pub int_cases : (bytes : List ℕ) → IsBytes bytes
    → ((r : Refusal) × (int_at bytes ≡ Err r) × (r.kind ≡ Short) × (r.left ≡ 0) × (length bytes ≤ 1))
    ⊎ ((n : ℕ) × (after : List ℕ) × (int_at bytes ≡ Ok (n, after)) × (bytes ≡ int n ++ after) × (n < 65536))
int_cases [] fits = inl (record { kind = Short; left = 0 }, refl, refl, refl, omega arith)
int_cases (high ∷ []) fits = inl (record { kind = Short; left = 0 }, refl, refl, refl, omega arith)
int_cases (high ∷ low ∷ bytes) fits =
    let t = int_takes (high ∷ low ∷ bytes) bytes (256 * high + low) fits refl in
    inr (256 * high + low, bytes, refl, t.0, t.1)

abbrev failed : (A : Type 0) → Refusal → Result A Refusal
failed A r = Err r

-- the same refusal
pub same_refusal : {A : Type 0} (r s : Refusal) → failed A r ≡ failed A s → r ≡ s
same_refusal r s e = cc

-- ---- strings

abbrev pub GoodMarked : ℕ → List ℕ → Type 0
GoodMarked len bytes = (text : List ℕ) × (length text ≡ len) × (bytes ≡ text ++ 0 ∷ [])

marked_by : (len : ℕ) (bytes rest : List ℕ) (r : Refusal) → drop len bytes ≡ rest → mark_at (take len bytes) rest ≡ Err r → Stops (GoodMarked len) (marked_at len) bytes r
unfolding marked_at
marked_by len bytes [] r d e =
    let k = refusal_is {A = List ℕ × List ℕ} Short [] r e in
    let filler : List ℕ = replicate (len - length bytes) 0 in
    let long : length filler ≡ len - length bytes = length-replicate (len - length bytes) 0 in
    let none : length (drop len bytes) ≡ 0 = ap length d in
    record {
      front = bytes;
      there = [];
      behind = [];
      more = filler ++ 0 ∷ [];
      whole = sym (append-nil bytes);
      opens = (bytes ++ filler, omega (arith, length-append bytes filler, long, none, length-drop len bytes), sym (append_assoc bytes filler (0 ∷ [])));
      how = inl (record { kind = k.0; left = k.1; few = omega arith; last = refl });
    }
marked_by len bytes (zero ∷ rest) r d e = absurd cc
marked_by len bytes (suc b ∷ rest) r d e =
    let k = refusal_is {A = List ℕ × List ℕ} BadMark (suc b ∷ rest) r e in
    let some : length (drop len bytes) ≡ suc (length rest) = ap length d in
    let long : length (take len bytes) ≡ len = omega (arith, some, length-take len bytes, length-drop len bytes) in
    record {
      front = take len bytes;
      there = suc b ∷ [];
      behind = rest;
      more = 0 ∷ [];
      whole = sym (take-append-drop len bytes) ∙ ap (λ (x : List ℕ). take len bytes ++ x) d;
      opens = (take len bytes, long, refl);
      how = inr (record {
        kind = ap is_placed k.0;
        left = k.1;
        some = omega arith;
        few = omega arith;
        always = λ y. rw (take_at (take len bytes) (suc b ∷ y) len long, drop_at (take len bytes) (suc b ∷ y) len long) tt;
      });
    }

pub marked_stops : (len : ℕ) (bytes : List ℕ) (r : Refusal) → marked_at len bytes ≡ Err r → Stops (GoodMarked len) (marked_at len) bytes r
unfolding marked_at
marked_stops len bytes r e = marked_by len bytes (drop len bytes) r refl e

-- ---- a payload whole

not_both : (kind : RefusalKind) → kind ≡ Short → is_placed kind ≡ true → ⊥
not_both kind short placed =
    let none : is_placed kind ≡ false = ap is_placed short in
    cc

-- where the reading of a payload stops, it is refused there
refused_at : (Whole : List ℕ → Type 0) (payload : List ℕ) (kind : RefusalKind) (at : ℕ)
    → (kind ≡ Short → EndsWithin Whole payload at) → (is_placed kind ≡ true → IsFirstBad Whole payload at) → IsRefused Whole payload (error_at kind at)
refused_at Whole payload Short at end bad = end refl
refused_at Whole payload BadCode at end bad = bad refl
refused_at Whole payload BadMark at end bad = bad refl
refused_at Whole payload BadBoolean at end bad = bad refl
refused_at Whole payload Extra at end bad = bad refl
refused_at Whole payload TooMany at end bad = bad refl
refused_at Whole payload Absent at end bad = bad refl

-- Whole bytes are read, so bytes whose reading always fails begin nothing whole.
pub stops-refused : {A : Type 0} (Whole : List ℕ → Type 0) (read : List ℕ → Result A Refusal) (payload : List ℕ) (r : Refusal)
    → ((bytes : List ℕ) → Whole bytes → Fails (read bytes) → ⊥) → Stops Whole read payload r → IsRefused Whole payload (error_at r.kind (length payload - r.left))
stops-refused Whole read payload r whole_reads s =
    refused_at Whole payload r.kind (length payload - r.left)
    (λ short. elim s.how [
      | inl ended ↦ record {
        front = s.front;
        half = s.there;
        parts = s.whole ∙ ap (λ (b : List ℕ). s.front ++ (s.there ++ b)) ended.last ∙ ap (λ (b : List ℕ). s.front ++ b) (append-nil s.there);
        place = let none = ended.left in omega arith;
        few = ended.few;
        begins = (s.more, s.opens);
      }
      | inr spoiled ↦ absurd (not_both r.kind short spoiled.kind)
    ])
    (λ placed. elim s.how [
      | inl ended ↦ absurd (not_both r.kind ended.kind placed)
      | inr spoiled ↦ record {
        front = s.front;
        there = s.there;
        behind = s.behind;
        parts = s.whole;
        place = let left = spoiled.left in let parts = s.whole in omega (arith, ap length parts, length-append s.front (s.there ++ s.behind));
        some = spoiled.some;
        few = spoiled.few;
        begins = (s.more, s.opens);
        bad = λ (more, whole). whole_reads ((s.front ++ s.there) ++ more) whole (subst (λ (b : List ℕ). Fails (read b)) (sym (append_assoc s.front s.there more)) (spoiled.always more));
      }
    ])

-- The error that a decoder gives for a payload whose reading stops.
pub told-refused : {A : Type 0} (Whole : List ℕ → Type 0) (read : List ℕ → Result A Refusal) (payload : List ℕ) (stop : NotRead)
    → ((bytes : List ℕ) → Whole bytes → Fails (read bytes) → ⊥) → ((r : Refusal) → read payload ≡ Err r → Stops Whole read payload r)
    → Halts stop (read payload) → IsRefused Whole payload (told (length payload) stop)
told-refused Whole read payload why.NoMemory whole_reads stops h = tt
told-refused Whole read payload (why.Refused r) whole_reads stops h = stops-refused Whole read payload r whole_reads (stops r h)
