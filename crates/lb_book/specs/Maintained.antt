-- The rows after a maintenance: each load halved, or the greatest where an error is over; by Busyness what runs.
use Rattle.std.specs.Prelude.{ℕ, ◌-◌, ◌/◌, List, length, slice_index_or, if◌then◌else◌}
use Rattle.lb_model.specs.Loads.{greatest, halved, load_by}
use Rattle.lb_model.specs.StateRows.{is_over, maintained_state}
use Rattle.lb_model.specs.declared.config.LbConfig.{LbConfig}
use Rattle.lb_model.specs.declared.member.Method.{Method}
use Rattle.lb_rules.specs.declared.standing.Standing.{Standing}
use Rattle.lb_book.specs.Stepped.{AreStepped}

-- The greatest of the loads after this many halvings; d stands where there is no row.
abbrev pub greatest_halved : List Standing → Standing → (times : ℕ) → ℕ
greatest_halved rows d times = greatest (length rows) (λ j. halved (slice_index_or rows j d).load times)

-- The load of a row: halved, or the greatest one where the member's error is over. By Busyness it is what runs.
abbrev pub maintained_load : Method → (at recover most times : ℕ) → Standing → ℕ
maintained_load method at recover most times row =
    load_by method row.load (if is_over at recover row.state then most else halved row.load times)

abbrev pub maintained_row : Method → (at recover most times : ℕ) → Standing → Standing
maintained_row method at recover most times row = record row {
  state = maintained_state at recover row.state;
  load = maintained_load method at recover most times row;
}

-- How many halvings a maintenance does at this moment, where the last one was at `since`.
abbrev pub halvings : LbConfig → (since at : ℕ) → ℕ
halvings config since at = (at - since) / config.maintain

-- All rows after it.
abbrev pub AreMaintained : LbConfig → (since at : ℕ) → (old new : List Standing) → Type 0
AreMaintained config since at old new =
    (d : Standing) → AreStepped
    (λ _ row. maintained_row config.method at config.recover (greatest_halved old d (halvings config since at)) (halvings config since at) row)
    (length old) old new
