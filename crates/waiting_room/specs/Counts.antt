-- How many clients of a room are there, and how many may still come.
use Rattle.std.specs.Prelude.{◌≡◌, ◌≢◌, ℕ, ◌+◌, ◌-◌, ◌*◌, ◌≤◌, min, Bool, false, Option, Some, None, length}
use Rattle.waiting_room.specs.declared.table.Table.{Table}

-- so many may still come, once so many more may; none is without end
abbrev pub admitted : Option ℕ → Option ℕ → Option ℕ
admitted (Some left) (Some more) = Some (min (left + more) 18446744073709551615)
admitted (Some left) None = None
admitted None more = None

-- so many may still come once one came
abbrev pub one_fewer : Option ℕ → Option ℕ
one_fewer (Some left) = Some (left - 1)
one_fewer None = None

-- one more, in a u64
abbrev pub one_more : ℕ → ℕ
one_more count = min (count + 1) 18446744073709551615

-- another client may come
abbrev pub MayComeIn : Table → Type 0
MayComeIn table = (table.is_stopped ≡ false) × (table.left ≢ Some 0)

-- a worker may look at its own client for a moment: the room is open, nobody is ready, and there are four workers for each client
abbrev pub HasLeisure : Table → Type 0
HasLeisure table = (table.is_stopped ≡ false) × (length table.places.ready ≡ 0) × (4 * table.clients ≤ table.doors)
