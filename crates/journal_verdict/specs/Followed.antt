-- A balancer as the bytes of its text show it, however they came. Read first.
use Rattle.std.specs.Prelude.{◌≡◌, ◌≢◌, ℕ, ◌+◌, ◌⊎◌, List, [], ◌∷◌, ◌++◌, length, reverse, Option, Some, None, Result, Ok, Err}
use Rattle.std.specs.List.{All, flat_map}
use Rattle.lb_model.specs.Present.{IsPresent}
use Rattle.journal_verdict.specs.Lines.{RefusesLineAt, RunState, Stand, StandTakes, at_first}
use Rattle.journal_verdict.specs.declared.error.FollowError.{FollowError}
use Rattle.journal_verdict.specs.declared.error.FollowError.TheVariants as wrong
use Rattle.journal_verdict.specs.declared.view.FollowView.{FollowView}

abbrev pub ended : List ℕ → List ℕ
ended text = text ++ 10 ∷ []

abbrev pub HasNoEnd : List ℕ → Type 0
HasNoEnd text = All (λ byte. byte ≢ 10) text

-- The bytes are these lines, each with its LF, and what follows the last LF.
pub record IsCutIntoLines (bytes : List ℕ) (lines : List (List ℕ)) (part : List ℕ) : Type 0 where
  pub whole : bytes ≡ flat_map ended lines ++ part
  pub single : All HasNoEnd lines
  pub rest : HasNoEnd part

-- Each of the lines is taken, from here on.
abbrev pub FollowsTo : Stand → List (List ℕ) → Stand → Type 0
FollowsTo s [] t = t ≡ s
FollowsTo s (text ∷ lines) t = (m : Stand) × StandTakes s text m × FollowsTo m lines t

-- All lines of the bytes are taken.
pub record FollowsBytes (bytes : List ℕ) (s : Stand) : Type 0 where
  pub lines : List (List ℕ)
  pub part : List ℕ
  pub cut : IsCutIntoLines bytes lines part
  pub takes : FollowsTo at_first lines s

-- The lines before one of the bytes' lines are taken, and that one is refused.
pub record StopsAt (bytes : List ℕ) (e : FollowError) : Type 0 where
  pub before : List (List ℕ)
  pub text : List ℕ
  pub later : List ℕ
  pub whole : bytes ≡ flat_map ended before ++ (ended text ++ later)
  pub single : All HasNoEnd before
  pub one : HasNoEnd text
  pub stand : Stand
  pub takes : FollowsTo at_first before stand
  pub refuses : RefusesLineAt stand (length before + 1) text e

-- The first line that can't be read or is bad is the refusal; want of memory says nothing.
abbrev pub IsStoppedText : (bytes : List ℕ) → FollowError → Type 0
IsStoppedText bytes wrong.NoMemory = Unit {0}
IsStoppedText bytes e = StopsAt bytes e

-- what a feed says after all bytes so far
abbrev pub IsFed : (bytes : List ℕ) → Result (Unit {0}) FollowError → Type 0
IsFed bytes (Ok done) = (s : Stand) × FollowsBytes bytes s
IsFed bytes (Err e) = IsStoppedText bytes e

-- the last opening that is whole, and the entries after it
pub record IsShown (s : Stand) (v : FollowView) : Type 0 where
  pub run : RunState
  pub known : s.run ≡ Some run
  pub name : v.name ≡ run.name
  pub direct : v.direct ≡ run.opening.config.direct
  pub method : v.method ≡ run.opening.config.method
  pub view : IsPresent run.rules run.opening (reverse run.entries) v.view

-- Nothing is shown before an opening is whole.
abbrev pub IsOpened : (bytes : List ℕ) → Option FollowView → Type 0
IsOpened bytes None = (s : Stand) × FollowsBytes bytes s × (s.run ≡ None)
IsOpened bytes (Some v) = (s : Stand) × FollowsBytes bytes s × IsShown s v

-- Nor is it after a refusal.
abbrev pub IsFollowed : (bytes : List ℕ) → Option FollowView → Type 0
IsFollowed bytes None = IsOpened bytes None ⊎ ((e : FollowError) × (e ≢ wrong.NoMemory) × IsStoppedText bytes e)
IsFollowed bytes (Some v) = IsOpened bytes (Some v)
