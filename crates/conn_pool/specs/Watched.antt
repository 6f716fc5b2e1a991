-- A pooled reach, and the watch over its idle links.
use Rattle.std.specs.Prelude.{ℕ, ◌≡◌, Option, Some, None}
use Rattle.jk_io.specs.Looks.{LookTimes}
use Rattle.conn_pool.specs.Reaches.{PooledState}
use Rattle.conn_pool.specs.Looks.{AreLooksDue}
use Rattle.conn_pool.specs.declared.watch.Watch.{Watch}

pub record WatchedState (D T L : Type 0) : Type 0 where
  pub pooled : PooledState D T L
  pub watch : Option Watch

-- what a watch tells of its looks
abbrev pub times_of : Watch → LookTimes
times_of watch = record { every = watch.every; last = watch.last }

-- If looks were due, they were now; else nothing changed.
pub record LooksWhenDue (before : Watch) (now : ℕ) (after : Watch) : Type 0 where
  pub due : AreLooksDue before now → after ≡ record before { last = now }
  pub early : (AreLooksDue before now → ⊥) → after ≡ before

-- So of a reach that has a watch.
abbrev pub RestsAt : Option Watch → ℕ → Option Watch → Type 0
RestsAt None now after = after ≡ None
RestsAt (Some before) now None = ⊥
RestsAt (Some before) now (Some after) = LooksWhenDue before now after
