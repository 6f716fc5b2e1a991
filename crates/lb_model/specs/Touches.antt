-- The table of states: which entries touch a member, and what each of them gives.
use Rattle.std.specs.Prelude.{◌≡◌, ℕ, ◌==◌, ◌&&◌, ◌||◌, Bool, true, false, List, [], ◌∷◌, ◌++◌, if◌then◌else◌}
use Rattle.lb_model.specs.Free.{is_error}
use Rattle.lb_model.specs.Journal.{chose}
use Rattle.lb_model.specs.StateRows.{is_over}
use Rattle.lb_model.specs.States.{is_revived_in, state_of}
use Rattle.lb_model.specs.Tickets.{is_on}
use Rattle.lb_model.specs.declared.ask.Ask.{Ask}
use Rattle.lb_model.specs.declared.change.Command.{Command}
use Rattle.lb_model.specs.declared.change.Command.TheVariants as command
use Rattle.lb_model.specs.declared.journal.Answer.{Answer}
use Rattle.lb_model.specs.declared.journal.Call.{Call}
use Rattle.lb_model.specs.declared.journal.Call.TheVariants as call
use Rattle.lb_model.specs.declared.journal.Entry.{Entry}
use Rattle.lb_model.specs.declared.journal.Kind.{Kind}
use Rattle.lb_model.specs.declared.journal.Kind.TheVariants as kind
use Rattle.lb_model.specs.declared.opening.Opening.{Opening}
use Rattle.lb_model.specs.declared.state.MemberState.{MemberState}
use Rattle.lb_model.specs.declared.state.MemberState.TheVariants as state

abbrev pub is_recover : MemberState → Bool
is_recover state.Ok = false
is_recover (state.Error at) = false
is_recover state.Recover = true
is_recover (state.Probe t) = false

-- The trial under ticket t.
abbrev pub is_trial_of : ℕ → MemberState → Bool
is_trial_of t state.Ok = false
is_trial_of t (state.Error at) = false
is_trial_of t state.Recover = false
is_trial_of t (state.Probe u) = u == t

-- Whether a Select revives member m.
abbrev pub is_revived : ℕ → Opening → List Entry → Ask → Answer → ℕ → Bool
is_revived v o p ask a m = is_revived_in v (λ j. state_of v o p j) o p ask a m

-- A Return of ticket t on a member in this state.
abbrev pub touched_by_kind : Kind → ℕ → MemberState → Bool
touched_by_kind kind.Done t s = true
touched_by_kind kind.Failed t s = true
touched_by_kind kind.Gone t s = is_trial_of t s

abbrev pub touched_by_command : Command → ℕ → MemberState → Bool
touched_by_command (command.Update j change) m s = false
touched_by_command (command.Reset j) m s = j == m
touched_by_command (command.Recover j) m s = (j == m) && is_error s

-- Whether the entry e after p touches member m.
abbrev pub touches : ℕ → Opening → List Entry → Entry → Call → ℕ → Bool
touches v o p e (call.Select ask) m =
    (chose m e.answer && is_recover (state_of v o p m)) || is_revived v o p ask e.answer m
touches v o p e (call.Return t w) m = is_on o p t m && touched_by_kind w.kind t (state_of v o p m)
touches v o p e call.Maintain m = is_over e.at o.config.recover (state_of v o p m)
touches v o p e (call.Admin c) m = touched_by_command c m (state_of v o p m)

abbrev pub given_by_kind : Kind → Bool → ℕ → MemberState
given_by_kind kind.Done direct at = state.Ok
given_by_kind kind.Failed direct at = if direct then state.Ok else state.Error at
given_by_kind kind.Gone direct at = state.Recover

abbrev pub given_by_command : Command → MemberState
given_by_command (command.Update j change) = state.Ok
given_by_command (command.Reset j) = state.Ok
given_by_command (command.Recover j) = state.Recover

-- The state that it gives to a member that it touches.
abbrev pub gives : Opening → Entry → Call → ℕ → MemberState
gives o e (call.Select ask) m = if chose m e.answer then state.Probe e.seq else state.Recover
gives o e (call.Return t w) m = given_by_kind w.kind o.config.direct e.at
gives o e call.Maintain m = state.Recover
gives o e (call.Admin c) m = given_by_command c

-- None of the entries `later`, which follow p, touches member m.
abbrev pub Untouched : ℕ → Opening → List Entry → List Entry → ℕ → Type 0
Untouched v o [] p m = Unit {0}
Untouched v o (e ∷ later) p m = (touches v o (later ++ p) e e.call m ≡ false) × Untouched v o later p m
