-- The output of a script, line by line, and the status with which `play` ends.
-- Everywhere `p` is the past: the entries so far, the newest first; `at` is the moment, and `number` that of the line.
use Rattle.std.specs.Prelude.{◌≡◌, ℕ, ◌+◌, ◌^◌, ◌<◌, ◌≤◌, ◌==◌, max, Bool, true, false, ◌⊎◌, List, [], ◌∷◌, ◌++◌, Option, Some, None}
use Rattle.std.specs.Bool.{MatchBool}
use Rattle.std.specs.Option.{MatchOption}
use Rattle.lb_model.specs.Journal.{maintained_of, members, moment_of}
use Rattle.lb_model.specs.Legal.{HasValues, IsNext, TargetExists, subject_of}
use Rattle.lb_model.specs.Present.{ArePresentRows}
use Rattle.lb_model.specs.Settings.{common_after}
use Rattle.lb_model.specs.Tickets.{is_out}
use Rattle.lb_model.specs.declared.change.Command.{Command}
use Rattle.lb_model.specs.declared.journal.Call.{Call}
use Rattle.lb_model.specs.declared.journal.Call.TheVariants as call
use Rattle.lb_model.specs.declared.journal.Entry.{Entry}
use Rattle.lb_model.specs.declared.opening.Opening.{Opening}
use Rattle.lb_model.specs.declared.view.MemberRow.{MemberRow}
use Rattle.play_script.specs.declared.printed.ScriptRefusal.{ScriptRefusal}
use Rattle.play_script.specs.declared.printed.ScriptRefusal.TheVariants as refusal
use Rattle.play_script.specs.declared.step.Step.{Step}
use Rattle.play_script.specs.declared.step.Step.TheVariants as step
use Rattle.play_script.specs.Parts.{parts_of}
use Rattle.play_script.specs.Printed.{answer_line, refusal_line, row_lines}
use Rattle.play_script.specs.Heads.{head_of}
use Rattle.play_script.specs.Steps.{step_of}
use Rattle.play_script.specs.Drafts.{DraftWords, empty_draft, names_in, draft_after, moment_after, IsDraftStart, IsNoBalancer}

-- A blank line, or a comment.
abbrev pub is_skipped : List ℕ → Bool
is_skipped [] = true
is_skipped (byte ∷ text) = byte == 35

-- The script is refused at a line: its refusal is printed, and nothing after it is looked at.
pub record StopsScript (number : ℕ) (reason : ScriptRefusal) (out : List ℕ) (status : ℕ) : Type 0 where
  pub printed : out ≡ refusal_line number reason
  pub ended : status ≡ 3

-- The entry of a call that is given at a moment: it follows from the entries before it.
pub record AddsCall (o : Opening) (at : ℕ) (p : List Entry) (asked : Call) (e : Entry) : Type 0 where
  pub next : IsNext 2 o p e
  pub call : e.call ≡ asked
  pub session : e.session ≡ 0
  pub moment : e.at ≡ max at (moment_of o p)

-- The output of a call, and the entries after it.
abbrev pub AsksFor : List (List ℕ) → Opening → (at : ℕ) → List Entry → Call → (printed : List ℕ) → List Entry → Type 0
AsksFor names o at p (call.Select ask) printed q =
    (e : Entry) × AddsCall o at p (call.Select ask) e × (printed ≡ answer_line names e.answer) × (q ≡ e ∷ p)
AsksFor names o at p (call.Return ticket outcome) printed q =
    (e : Entry) × AddsCall o at p (call.Return ticket outcome) e × (printed ≡ []) × (q ≡ e ∷ p)
AsksFor names o at p call.Maintain printed q =
    ((e : Entry) × AddsCall o at p call.Maintain e × (printed ≡ []) × (q ≡ e ∷ p))
    ⊎ ((max at (moment_of o p) < maintained_of o p + o.config.maintain) × (printed ≡ []) × (q ≡ p))
AsksFor names o at p (call.Admin command) printed q =
    (e : Entry) × AddsCall o at p (call.Admin command) e × (printed ≡ []) × (q ≡ e ∷ p)

-- The members that a command names exist.
abbrev pub IsKnown : Opening → Command → Type 0
IsKnown o c = (subject_of c < members o) × TargetExists (members o) c

-- A command that is refused, with the number of the first reason.
abbrev pub IsCommandRefused : Opening → List Entry → Command → ScriptRefusal → Type 0
IsCommandRefused o p c refusal.BadLine = ⊥
IsCommandRefused o p c (refusal.NotOpen ticket) = ⊥
IsCommandRefused o p c (refusal.Refused code) =
    ((code ≡ 1) × ¬ IsKnown o c)
    ⊎ (((code ≡ 2) × IsKnown o c × ¬ HasValues c)
    ⊎ ((code ≡ 3) × IsKnown o c × HasValues c × (2 ^ 32 ≤ common_after o p (call.Admin c))))
IsCommandRefused o p c refusal.BadBalancer = ⊥

-- A call that is refused.
abbrev pub IsAskRefused : Opening → List Entry → Call → ScriptRefusal → Type 0
IsAskRefused o p (call.Select ask) reason = ⊥
IsAskRefused o p (call.Return ticket outcome) reason = (is_out o p ticket ≡ false) × (reason ≡ refusal.NotOpen ticket)
IsAskRefused o p call.Maintain reason = ⊥
IsAskRefused o p (call.Admin command) reason = IsCommandRefused o p command reason

-- The output of a line, and the moment and the entries after it.
abbrev pub Says : List (List ℕ) → Opening → (at : ℕ) → List Entry → Step → (printed : List ℕ) → (moment : ℕ) → List Entry → Type 0
Says names o at p (step.At said) printed moment q = (printed ≡ []) × (moment ≡ said) × (q ≡ p)
Says names o at p (step.Ask asked) printed moment q = (moment ≡ at) × AsksFor names o at p asked printed q
Says names o at p step.Show printed moment q =
    (rows : List MemberRow) × ArePresentRows 2 o p (members o) rows × (printed ≡ row_lines rows) × (moment ≡ at) × (q ≡ p)

-- A line that is of no form, or whose call is refused.
abbrev pub IsRefusedLine : Opening → List Entry → Option Step → ScriptRefusal → Type 0
IsRefusedLine o p None reason = reason ≡ refusal.BadLine
IsRefusedLine o p (Some (step.At said)) reason = ⊥
IsRefusedLine o p (Some (step.Ask asked)) reason = IsAskRefused o p asked reason
IsRefusedLine o p (Some step.Show) reason = ⊥

-- A line of a form, whose call is answered.
abbrev pub SaysLine : List (List ℕ) → Opening → (at : ℕ) → List Entry → Option Step → (printed : List ℕ) → (moment : ℕ) → List Entry → Type 0
SaysLine names o at p None printed moment q = ⊥
SaysLine names o at p (Some said) printed moment q = Says names o at p said printed moment q

-- A line prints its part and the lines after it theirs (Rest), or it ends the script.
abbrev pub PlaysLine : List (List ℕ) → Opening → (number at : ℕ) → List Entry → Option Step → (Rest : ℕ → List Entry → List ℕ → ℕ → Type 0) → List ℕ → ℕ → Type 0
PlaysLine names o number at p said Rest out status =
    ((reason : ScriptRefusal) × IsRefusedLine o p said reason × StopsScript number reason out status)
    ⊎ ((printed : List ℕ) × (behind : List ℕ) × (moment : ℕ) × (q : List Entry)
    × SaysLine names o at p said printed moment q × (out ≡ printed ++ behind) × Rest moment q behind status)

-- The output of lines from the balancer's start on; the first line has this number.
abbrev pub Runs : List (List ℕ) → Opening → List (List ℕ) → (number at : ℕ) → List Entry → List ℕ → ℕ → Type 0
Runs names o [] number at p out status = (out ≡ []) × (status ≡ 0)
Runs names o (line ∷ lines) number at p out status =
    MatchBool (is_skipped line)
    (Runs names o lines (number + 1) at p out status)
    (PlaysLine names o number at p (step_of names line) (λ moment q behind end. Runs names o lines (number + 1) moment q behind end) out status)

-- The balancer starts at a line that isn't one of its own, if it is a line at all.
abbrev pub Starts : Option Step → DraftWords → List (List ℕ) → (number at : ℕ) → List ℕ → ℕ → Type 0
Starts None draft lines number at out status = StopsScript number refusal.BadLine out status
Starts (Some said) draft lines number at out status =
    (IsNoBalancer draft × StopsScript number refusal.BadBalancer out status)
    ⊎ ((o : Opening) × IsDraftStart draft at o × Runs (names_in draft) o lines number at [] out status)

-- The output of lines, the first of which has this number, where the lines before it gave this draft of a balancer.
abbrev pub Plays : List (List ℕ) → DraftWords → (number at : ℕ) → List ℕ → ℕ → Type 0
Plays [] draft number at out status = (out ≡ []) × (status ≡ 0)
Plays (line ∷ lines) draft number at out status =
    MatchBool (is_skipped line)
    (Plays lines draft (number + 1) at out status)
    (MatchOption (head_of (names_in draft) line)
    (Starts (step_of (names_in draft) line) draft (line ∷ lines) number at out status)
    (λ said. Plays lines (draft_after said draft) (number + 1) (moment_after said at) out status))

-- The output of a script, and the status: 0, or 3 where a line is refused.
abbrev pub PlaysScript : List ℕ → List ℕ → ℕ → Type 0
PlaysScript script out status = Plays (parts_of 10 script) empty_draft 1 0 out status

-- All lines print what `Starts` says of the line at which the balancer starts, which was read last. Without such a line
-- they print nothing.
abbrev pub LeadsTo : List (List ℕ) → DraftWords → Option (List ℕ) → List (List ℕ) → (number at : ℕ) → Type 0
LeadsTo lines draft None rest number at = Plays lines empty_draft 1 0 [] 0
LeadsTo lines draft (Some line) rest number at =
    (out : List ℕ) (status : ℕ)
    → Starts (step_of (names_in draft) line) draft (line ∷ rest) number at out status
    → Plays lines empty_draft 1 0 out status
