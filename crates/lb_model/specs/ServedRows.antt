-- A list of answered requests as contracts see it: its rows, and the room for more.
use Rattle.std.specs.Prelude.{ℕ, List}
use Rattle.lb_model.specs.declared.served.Served.{Served}

-- the rows, in order, and how many more can be put without memory
pub record ServedRows : Type 0 where
  pub rows : List Served
  pub room : ℕ
