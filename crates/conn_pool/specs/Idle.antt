-- A pool as contracts see it, with its idle links and its size; and a table of pools, by balancer and member.
use Rattle.std.specs.Prelude.{ℕ, ◌<◌, List, length, map, slice_index}

-- the idle links, in the order of their puts, and how many there may be
pub record PoolState (L : Type 0) : Type 0 where
  pub idle : List L
  pub size : ℕ

-- the number of members of each balancer
abbrev pub counts : List (List ℕ) → List ℕ
counts table = map length table

-- the table has this member of this balancer
abbrev pub HasMember : List (List ℕ) → ℕ → ℕ → Type 0
HasMember table lb member = member < slice_index (counts table) lb
