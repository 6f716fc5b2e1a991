-- Texts that are added, part after part.
use Rattle.std.proofs.Common.{◌≡◌, ℕ, List, [], ◌++◌, Option, Result, Ok, Err, IsErrAnd, IsOk, OnOk, OnErr, refl, sym, ap, ◌∙◌, subst, inr}
use Rattle.jk_io.specs.Told.{HasCause, appended, PutsFront}
use Rattle.jk_io.specs.declared.failures.IoError.{IoError}
use Rattle.jk_io.proofs.ToldLaws.{appended-appended}
use Rattle.remarks.specs.Added.{Adds, AddsSaid, AddsSome, AddsText, IsFrontOfText, RemarkOutState}

-- nothing was added
pub front_none : (old : Option (List ℕ)) (text : List ℕ) → IsFrontOfText (appended old text) old
front_none old text = (text, refl)

-- a front of a text that is added is one of a longer text
pub front_more : (old new : Option (List ℕ)) (a b : List ℕ) → IsFrontOfText (appended old a) new → IsFrontOfText (appended old (a ++ b)) new
front_more old new a b front =
    (front.0 ++ b, sym (appended-appended old a b) ∙ ap (λ (t : Option (List ℕ)). appended t b) front.1 ∙ appended-appended new front.0 b)

-- a text was added, and then another one
pub adds_then : {T : Type 0} (r : Result T IoError) (old mid new : Option (List ℕ)) (a b : List ℕ) → mid ≡ appended old a → AddsText r mid new b → AddsText r old new (a ++ b)
adds_then (Ok x) old mid new a b before more = more ∙ ap (λ (t : Option (List ℕ)). appended t b) before ∙ appended-appended old a b
adds_then (Err e) old mid new a b before more =
    (more.0, sym (appended-appended old a b) ∙ ap (λ (t : Option (List ℕ)). appended t b) (sym before) ∙ more.1)

-- the same text
pub adds_same : {T : Type 0} (r : Result T IoError) (old new : Option (List ℕ)) (a b : List ℕ) → AddsText r old new a → a ≡ b → AddsText r old new b
adds_same r old new a b adds same = subst (λ (text : List ℕ). AddsText r old new text) same adds

pub adds_as : {T : Type 0} (r : Result T IoError) (old new : RemarkOutState) (a b : List ℕ) → Adds r old new a → a ≡ b → Adds r old new b
adds_as r old new a b adds same = record { added = adds_same r old.said new.said a b adds.added same; cause = adds.cause; steady = adds.steady }

-- what a piece holds that was cleared before the text came into it
pub buffered : (cleared said piece text : List ℕ) → cleared ≡ [] → said ≡ cleared ++ text → piece ≡ said → piece ≡ text
buffered cleared said piece text none more same = same ∙ more ∙ ap (λ (b : List ℕ). b ++ text) none

-- a text of which this holds
pub adds_said : {T : Type 0} (r : Result T IoError) (old new : Option (List ℕ)) (text : List ℕ) (so : List ℕ → Type 0) → AddsText r old new text → so text → AddsSaid r old new so
adds_said (Ok x) old new text so adds is = (text, is, adds)
adds_said (Err e) old new text so adds is = inr (text, is, adds)

pub adds_some : {T : Type 0} (r : Result T IoError) (old new : RemarkOutState) (text : List ℕ) (so : List ℕ → Type 0) → Adds r old new text → so text → AddsSome r old new so
adds_some r old new text so adds is = record { added = adds_said r old.said new.said text so adds.added is; cause = adds.cause; steady = adds.steady }

-- a call after one that left the count of faults as it was
pub cause_after : {T : Type 0} (r : Result T IoError) (old mid new : ℕ) → mid ≡ old → HasCause mid new r → HasCause old new r
cause_after r old mid new same cause = subst (λ (n : ℕ). HasCause n new r) same cause

pub steady_after : {T : Type 0} (r : Result T IoError) (old mid new : ℕ) → mid ≡ old → (IsOk r → new ≡ mid) → IsOk r → new ≡ old
steady_after r old mid new same steady is = steady is ∙ same

-- two calls, one after the other
pub adds_after : {S T : Type 0} (x : S) (r : Result T IoError) (old mid new : RemarkOutState) (a b : List ℕ) → Adds {T = S} (Ok x) old mid a → Adds r mid new b
    → Adds r old new (a ++ b)
adds_after x r old mid new a b first second = record {
  added = adds_then r old.said mid.said new.said a b first.added second.added;
  cause = cause_after r old.faults mid.faults new.faults (first.steady refl) second.cause;
  steady = steady_after r old.faults mid.faults new.faults (first.steady refl) second.steady;
}

-- a front of the piece was written
front_put : (old new : Option (List ℕ)) (piece : List ℕ) → PutsFront old new piece → IsFrontOfText (appended old piece) new
front_put old new piece put =
    (put.rest, ap (appended old) put.whole ∙ sym (appended-appended old put.front put.rest) ∙ ap (λ (t : Option (List ℕ)). appended t put.rest) (sym put.put))

-- after a refusal a front of the piece was written
pub sink_front : {T : Type 0} (r : Result T IoError) (old new : Option (List ℕ)) (piece : List ℕ) → OnErr r (PutsFront old new piece) → OnErr r (IsFrontOfText (appended old piece) new)
sink_front (Ok x) old new piece put = tt
sink_front (Err e) old new piece put = front_put old new piece put

-- what a sink took of a piece that is written whole
pub sink_adds : {T : Type 0} (r : Result T IoError) (old new : Option (List ℕ)) (piece : List ℕ) → OnOk r (new ≡ appended old piece) → OnErr r (PutsFront old new piece)
    → AddsText r old new piece
sink_adds (Ok x) old new piece all front = all
sink_adds (Err e) old new piece all front = front_put old new piece front

-- a call that failed had added a front
pub failed : {T : Type 0} (r : Result T IoError) (P : IoError → Type 0) (old new : Option (List ℕ)) (text : List ℕ) → IsErrAnd r P → IsFrontOfText (appended old text) new → AddsText r old new text
failed (Ok x) P old new text err front = absurd err
failed (Err e) P old new text err front = front
