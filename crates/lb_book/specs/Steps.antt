-- The row of a chosen member, of a revived one, and of one whose ticket came back.
use Rattle.std.specs.Prelude.{ℕ, ◌+◌, ◌-◌, ◌*◌, Bool}
use Rattle.lb_model.specs.declared.member.Method.{Method}
use Rattle.lb_model.specs.declared.journal.Outcome.{Outcome}
use Rattle.lb_model.specs.Loads.{units_chosen, units_returned, load_by}
use Rattle.lb_model.specs.StateRows.{chosen_state, returned_state, recovered_state}
use Rattle.lb_rules.specs.declared.standing.Standing.{Standing}

abbrev pub chosen_row : Method → (ticket : ℕ) → Bool → Standing → Standing
chosen_row method ticket fresh row = record row {
  state = chosen_state ticket row.state;
  load = load_by method ((row.busy + 1) * row.unit) (row.load + row.unit * units_chosen method fresh);
  busy = row.busy + 1;
}

abbrev pub revived_row : Standing → Standing
revived_row row = record row { state = recovered_state row.state }

abbrev pub returned_row : Method → Bool → (ticket : ℕ) → Outcome → (at : ℕ) → Standing → Standing
returned_row method direct ticket outcome at row = record row {
  state = returned_state direct ticket outcome.kind at row.state;
  load = load_by method ((row.busy - 1) * row.unit) (row.load + row.unit * units_returned method outcome.bytes);
  busy = row.busy - 1;
}
