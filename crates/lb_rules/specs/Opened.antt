-- The row of a member at an opening.
use Rattle.std.specs.Prelude.{ℕ}
use Rattle.lb_model.specs.declared.member.MemberConfig.{MemberConfig}
use Rattle.lb_model.specs.declared.view.MemberRow.{MemberRow}
use Rattle.lb_rules.specs.declared.standing.Standing.{Standing}

-- The member as the opening shows it, with its pool, and the weight of one request on it.
abbrev pub opening_row : (unit : ℕ) → MemberConfig → MemberRow → Standing
opening_row unit c row = record {
  state = row.state;
  load = row.load;
  busy = row.busy;
  pool = c.pool;
  unit = unit;
  activation = row.activation;
  factor = row.factor;
  distance = row.distance;
  redirect = row.redirect;
}
