-- The rows that a view shows, and those that a Book begins with.
use Rattle.std.specs.Prelude.{◌≡◌, ℕ, ◌/◌, ◌<◌, List, length, slice_index_or}
use Rattle.lb_model.specs.declared.member.MemberConfig.{MemberConfig}
use Rattle.lb_model.specs.declared.view.MemberRow.{MemberRow}
use Rattle.lb_rules.specs.Opened.{opening_row}
use Rattle.lb_rules.specs.declared.standing.Standing.{Standing}

abbrev pub shown_row : MemberConfig → Standing → MemberRow
shown_row c row = record {
  name = c.name;
  state = row.state;
  load = row.load;
  busy = row.busy;
  activation = row.activation;
  factor = row.factor;
  distance = row.distance;
  redirect = row.redirect;
}

-- The first n rows are shown.
pub record AreShown (members : List MemberConfig) (rows : List Standing) (n : ℕ) (shown : List MemberRow) : Type 0 where
  pub whole : length shown ≡ n
  pub each : (m : ℕ) (c : MemberConfig) (s : Standing) (r : MemberRow) → m < n
      → slice_index_or shown m r ≡ shown_row (slice_index_or members m c) (slice_index_or rows m s)

-- The first n rows are those of an opening whose factors have this common multiple.
pub record AreOpened (common : ℕ) (members : List MemberConfig) (shown : List MemberRow) (n : ℕ) (rows : List Standing) : Type 0 where
  pub whole : length rows ≡ n
  pub each : (m : ℕ) (c : MemberConfig) (r : MemberRow) (s : Standing) → m < n
      → slice_index_or rows m s
      ≡ opening_row (common / (slice_index_or shown m r).factor) (slice_index_or members m c) (slice_index_or shown m r)
