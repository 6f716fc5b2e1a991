-- The state of each member: what the last entry that touches it gives.
use Rattle.std.specs.Prelude.{ℕ, ◌==◌, ◌&&◌, Bool, true, false, not, List, [], ◌∷◌, Option, Some, None, slice_get, if◌then◌else◌}
use Rattle.lb_model.specs.Free.{is_in, counts_as, is_usable_by, is_revivable_by}
use Rattle.lb_model.specs.Journal.{members, any_of, chose}
use Rattle.lb_model.specs.Settings.{activation_of, pool_of}
use Rattle.lb_model.specs.StateRows.{chosen_state, returned_state, maintained_state, recovered_state}
use Rattle.lb_model.specs.Tickets.{busy_of, is_on}
use Rattle.lb_model.specs.declared.ask.Ask.{Ask}
use Rattle.lb_model.specs.declared.change.Command.{Command}
use Rattle.lb_model.specs.declared.change.Command.TheVariants as command
use Rattle.lb_model.specs.declared.journal.Answer.{Answer}
use Rattle.lb_model.specs.declared.journal.Answer.TheVariants as answer
use Rattle.lb_model.specs.declared.journal.Call.{Call}
use Rattle.lb_model.specs.declared.journal.Call.TheVariants as call
use Rattle.lb_model.specs.declared.journal.Entry.{Entry}
use Rattle.lb_model.specs.declared.journal.How.TheVariants as how
use Rattle.lb_model.specs.declared.member.Activation.{Activation}
use Rattle.lb_model.specs.declared.opening.Opening.{Opening}
use Rattle.lb_model.specs.declared.state.MemberState.{MemberState}
use Rattle.lb_model.specs.declared.state.MemberState.TheVariants as state
use Rattle.lb_model.specs.declared.view.MemberRow.{MemberRow}

-- The activation that counts for member m, for an ask after p.
abbrev pub counted_of : Opening → List Entry → Ask → ℕ → Activation
counted_of o p ask m = counts_as (activation_of o p m) (is_in ask.disabled m) (is_in ask.stopped m)

-- The tests of a member after p, where the members' states are those of `states`.
abbrev pub is_usable_in : (states : ℕ → MemberState) → Opening → List Entry → Ask → (m : ℕ) → Bool
is_usable_in states o p ask m =
    is_usable_by (states m) (counted_of o p ask m) (is_in ask.tried m) (busy_of o p m) (pool_of o m)

abbrev pub is_revivable_in : (states : ℕ → MemberState) → Opening → List Entry → Ask → (m : ℕ) → Bool
is_revivable_in states o p ask m =
    is_revivable_by (states m) (counted_of o p ask m) (is_in ask.tried m) (busy_of o p m) (pool_of o m)

abbrev pub is_balanced : Answer → Bool
is_balanced (answer.Chosen m t how.Sticky probe) = false
is_balanced (answer.Chosen m t how.Redirect probe) = false
is_balanced (answer.Chosen m t how.Balanced probe) = true
is_balanced answer.NoMember = false
is_balanced answer.Forced = false
is_balanced answer.Done = false

-- Whether a Select revives member m: under rules 2, by a balanced choice where no member is usable.
abbrev pub is_revived_in : (v : ℕ) (states : ℕ → MemberState) → Opening → List Entry → Ask → Answer → (m : ℕ) → Bool
is_revived_in v states o p ask a m =
    (v == 2) && (is_balanced a && (not (any_of (members o) (λ j. is_usable_in states o p ask j)) && is_revivable_in states o p ask m))

-- The state of member m after a command.
abbrev pub state_commanded : Command → (m : ℕ) → MemberState → MemberState
state_commanded (command.Update j change) m s = s
state_commanded (command.Reset j) m s = (if j == m then state.Ok else s)
state_commanded (command.Recover j) m s = (if j == m then recovered_state s else s)

-- The state of member m after an entry, by its call.
abbrev pub state_after : (v : ℕ) → Opening → List Entry → Entry → Call → (states : ℕ → MemberState) (m : ℕ) → MemberState
state_after v o p e (call.Select ask) states m =
    (if chose m e.answer then chosen_state e.seq (states m)
    else (if is_revived_in v states o p ask e.answer m then recovered_state (states m) else states m))
state_after v o p e (call.Return t w) states m =
    (if is_on o p t m then returned_state o.config.direct t w.kind e.at (states m) else states m)
state_after v o p e call.Maintain states m = maintained_state e.at o.config.recover (states m)
state_after v o p e (call.Admin c) states m = state_commanded c m (states m)

abbrev pub state_in : Option MemberRow → MemberState
state_in (Some r) = r.state
state_in None = state.Ok

-- The state of member m after a history, under rules v.
abbrev pub state_of : (v : ℕ) → Opening → List Entry → (m : ℕ) → MemberState
state_of v o [] m = state_in (slice_get o.rows m)
state_of v o (e ∷ p) m = state_after v o p e e.call (λ j. state_of v o p j) m
