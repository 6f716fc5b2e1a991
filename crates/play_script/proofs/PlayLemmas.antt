-- The output of a script's lines, from one line on to the next.
use Rattle.std.proofs.Common.{ℕ, ◌+◌, ◌≡◌, ◌++◌, Bool, true, false, List, [], ◌∷◌, Option, Some, None, sym, subst, inl, inr, refl}
use Rattle.std.specs.Bool.{MatchBool}
use Rattle.std.specs.Option.{MatchOption}
use Rattle.lb_model.specs.declared.journal.Entry.{Entry}
use Rattle.lb_model.specs.declared.opening.Opening.{Opening}
use Rattle.play_script.specs.declared.printed.ScriptRefusal.{ScriptRefusal}
use Rattle.play_script.specs.Heads.{HeadWords, head_of}
use Rattle.play_script.specs.Steps.{step_of}
use Rattle.play_script.specs.Drafts.{DraftWords, names_in, draft_after, moment_after}
use Rattle.play_script.specs.Play.{is_skipped, StopsScript, IsRefusedLine, SaysLine, PlaysLine, Runs, Starts, Plays}

at_true : {b : Bool} (P Q : Type 0) → b ≡ true → P → MatchBool b P Q
at_true P Q e p = subst (λ x. MatchBool x P Q) (sym e) p

at_false : {b : Bool} (P Q : Type 0) → b ≡ false → Q → MatchBool b P Q
at_false P Q e q = subst (λ x. MatchBool x P Q) (sym e) q

module _ (line : List ℕ) (lines : List (List ℕ)) (draft : DraftWords) (number at : ℕ) (out : List ℕ) (status : ℕ) where
  -- a blank line or a comment says nothing
  pub plays_skipped : is_skipped line ≡ true → Plays lines draft (number + 1) at out status → Plays (line ∷ lines) draft number at out status
  plays_skipped skipped rest = at_true _ _ skipped rest

  -- a line of the balancer changes the draft, or the moment
  pub plays_said : (said : HeadWords) → is_skipped line ≡ false → head_of (names_in draft) line ≡ Some said
      → Plays lines (draft_after said draft) (number + 1) (moment_after said at) out status → Plays (line ∷ lines) draft number at out status
  plays_said said full is_said rest = at_false _ _ full
      (subst (λ (o : Option HeadWords). MatchOption o (Starts (step_of (names_in draft) line) draft (line ∷ lines) number at out status)
      (λ h. Plays lines (draft_after h draft) (number + 1) (moment_after h at) out status)) (sym is_said) rest)

  -- at any other line the balancer starts
  pub plays_started : is_skipped line ≡ false → head_of (names_in draft) line ≡ None
      → Starts (step_of (names_in draft) line) draft (line ∷ lines) number at out status → Plays (line ∷ lines) draft number at out status
  plays_started full is_other starts = at_false _ _ full
      (subst (λ (o : Option HeadWords). MatchOption o (Starts (step_of (names_in draft) line) draft (line ∷ lines) number at out status)
      (λ h. Plays lines (draft_after h draft) (number + 1) (moment_after h at) out status)) (sym is_other) starts)

module _ (names : List (List ℕ)) (o : Opening) (line : List ℕ) (lines : List (List ℕ)) (number at : ℕ) (p : List Entry) where
  pub runs_skipped : (out : List ℕ) (status : ℕ) → is_skipped line ≡ true
      → Runs names o lines (number + 1) at p out status → Runs names o (line ∷ lines) number at p out status
  runs_skipped out status skipped rest = at_true _ _ skipped rest

  -- a line prints its part, and the lines after it theirs
  pub runs_said : (printed behind : List ℕ) (moment : ℕ) (q : List Entry) (status : ℕ) → is_skipped line ≡ false
      → SaysLine names o at p (step_of names line) printed moment q
      → Runs names o lines (number + 1) moment q behind status
      → Runs names o (line ∷ lines) number at p (printed ++ behind) status
  runs_said printed behind moment q status full says rest =
      at_false _ _ full (inr (printed, behind, moment, q, says, refl, rest))

  -- a refused line ends the script
  pub runs_stopped : (reason : ScriptRefusal) (out : List ℕ) (status : ℕ) → is_skipped line ≡ false
      → IsRefusedLine o p (step_of names line) reason → StopsScript number reason out status
      → Runs names o (line ∷ lines) number at p out status
  runs_stopped reason out status full refused stops = at_false _ _ full (inl (reason, refused, stops))
