-- A text added to what was said, or after a failed write a front of it. Where it is untold each equation here says nothing.
use Rattle.std.specs.Prelude.{◌≡◌, ℕ, List, ◌⊎◌, Option, Result, Ok, Err, IsOk}
use Rattle.jk_io.specs.Told.{HasCause, appended}
use Rattle.jk_io.specs.declared.failures.IoError.{IoError}

-- what contracts see of a `RemarkOut`: what its sink took and after it what is held, and how often its sink's calls failed
pub record RemarkOutState : Type 0 where
  pub said : Option (List ℕ)
  pub faults : ℕ

-- what is there is a front of it
abbrev pub IsFrontOfText : (whole there : Option (List ℕ)) → Type 0
IsFrontOfText whole there = (rest : List ℕ) × (whole ≡ appended there rest)

-- the text is added at the end; after an error a front of all of it is there
abbrev pub AddsText : {T : Type 0} → Result T IoError → (old new : Option (List ℕ)) → (text : List ℕ) → Type 0
AddsText (Ok x) old new text = new ≡ appended old text
AddsText (Err e) old new text = IsFrontOfText (appended old text) new

-- a text of which this holds is added; after an error nothing is, or a front of all of it is there
abbrev pub AddsSaid : {T : Type 0} → Result T IoError → (old new : Option (List ℕ)) → (List ℕ → Type 0) → Type 0
AddsSaid (Ok x) old new so = (said : List ℕ) × so said × (new ≡ appended old said)
AddsSaid (Err e) old new so = (new ≡ old) ⊎ ((said : List ℕ) × so said × IsFrontOfText (appended old said) new)

-- A call added this text, or after an error a front of it; it failed only where the count of faults rose.
pub record Adds {T : Type 0} (result : Result T IoError) (old new : RemarkOutState) (text : List ℕ) : Type 0 where
  pub added : AddsText result old.said new.said text
  pub cause : HasCause old.faults new.faults result
  pub steady : IsOk result → new.faults ≡ old.faults

-- the same of a text of which this holds
pub record AddsSome {T : Type 0} (result : Result T IoError) (old new : RemarkOutState) (so : List ℕ → Type 0) : Type 0 where
  pub added : AddsSaid result old.said new.said so
  pub cause : HasCause old.faults new.faults result
  pub steady : IsOk result → new.faults ≡ old.faults
