-- The rows of the table of states: a member's state after each event, by the state before.
use Rattle.std.specs.Prelude.{ℕ, ◌+◌, ◌==◌, nat_le, Bool, false, if◌then◌else◌}
use Rattle.lb_model.specs.declared.state.MemberState.{MemberState}
use Rattle.lb_model.specs.declared.state.MemberState.TheVariants as State
use Rattle.lb_model.specs.declared.journal.Kind.{Kind}

-- It was chosen under this ticket: a trial begins where it may have one.
abbrev pub chosen_state : (ticket : ℕ) → MemberState → MemberState
chosen_state ticket State.Ok = State.Ok
chosen_state ticket (State.Error at) = State.Probe ticket
chosen_state ticket State.Recover = State.Probe ticket
chosen_state ticket (State.Probe other) = State.Probe other

-- Its ticket came back since the client left: the trial that this very ticket was is undone.
abbrev pub left_state : (ticket : ℕ) → MemberState → MemberState
left_state ticket State.Ok = State.Ok
left_state ticket (State.Error at) = State.Error at
left_state ticket State.Recover = State.Recover
left_state ticket (State.Probe other) = (if other == ticket then State.Recover else State.Probe other)

-- A ticket of it came back at this moment. A direct balancer's one member is never in Error.
abbrev pub returned_state : (direct : Bool) (ticket : ℕ) → Kind → (at : ℕ) → MemberState → MemberState
returned_state direct ticket Kind.Done at s = State.Ok
returned_state direct ticket Kind.Failed at s = (if direct then State.Ok else State.Error at)
returned_state direct ticket Kind.Gone at s = left_state ticket s

-- Whether a maintenance at this moment ends an error: it lies at least `recover` seconds back.
abbrev pub is_over : (at recover : ℕ) → MemberState → Bool
is_over at recover State.Ok = false
is_over at recover (State.Error since) = nat_le (since + recover) at
is_over at recover State.Recover = false
is_over at recover (State.Probe ticket) = false

-- A maintenance at this moment.
abbrev pub maintained_state : (at recover : ℕ) → MemberState → MemberState
maintained_state at recover s = if is_over at recover s then State.Recover else s

-- It may have a trial, by a command or because no member is usable.
abbrev pub recovered_state : MemberState → MemberState
recovered_state State.Ok = State.Ok
recovered_state (State.Error at) = State.Recover
recovered_state State.Recover = State.Recover
recovered_state (State.Probe ticket) = State.Probe ticket
