-- The row of the table of states that an event takes.
use Rattle.std.specs.Prelude.{Bool}
use Rattle.lb_model.specs.declared.state.MemberState.{MemberState}
use Rattle.lb_model.specs.declared.state.MemberState.TheVariants as State
use Rattle.lb_model.specs.StateRows.{chosen_state, returned_state, maintained_state, recovered_state}
use Rattle.lb_rules.specs.declared.touch.Touch.{Touch}

abbrev pub touched_state : Bool → Touch → MemberState → MemberState
touched_state direct (Touch.Chosen ticket) s = chosen_state ticket s
touched_state direct (Touch.Returned ticket kind at) s = returned_state direct ticket kind at s
touched_state direct (Touch.Maintained at recover) s = maintained_state at recover s
touched_state direct Touch.Recover s = recovered_state s
touched_state direct Touch.Reset s = State.Ok
touched_state direct Touch.Revived s = recovered_state s
