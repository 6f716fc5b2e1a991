-- The room for what the workers of a run leave, while it is filled.
use Rattle.std.specs.Prelude.{ℕ, ◌≡◌, ◌≤◌, ◌+◌, [], ◌∷◌, ◌++◌, vec_capacity, vec_len}
use Rattle.jk_server.specs.declared.part.Ran.{Ran}
use Rattle.jk_server.specs.declared.part.WorkerEnd.{WorkerEnd}

-- There is room for what `count` more workers leave.
pub record HasSpace {L V G : Type 0} (count : ℕ) (room : Ran L V G) : Type 0 where
  pub for_ends : vec_len room.workers + count ≤ vec_capacity room.workers
  pub for_lefts : vec_len room.leaving + count ≤ vec_capacity room.leaving
  pub for_gears : vec_len room.gears + count ≤ vec_capacity room.gears

-- Nothing was left yet, and there is room for what `count` workers leave.
pub record HasRoomForEnds {L V G : Type 0} (count : ℕ) (room : Ran L V G) : Type 0 where
  pub no_end : room.workers.items ≡ []
  pub no_left : room.leaving.items ≡ []
  pub no_gear : room.gears.items ≡ []
  pub space : HasSpace count room

-- The leaving of one more worker was put after the rest.
pub record PutsLeft {L V G : Type 0} (before after : Ran L V G) (end : WorkerEnd L) (left : V) (gear : G) : Type 0 where
  pub ends : after.workers.items ≡ before.workers.items ++ end ∷ []
  pub lefts : after.leaving.items ≡ before.leaving.items ++ left ∷ []
  pub gears : after.gears.items ≡ before.gears.items ++ gear ∷ []
  pub space : (count more : ℕ) → more ≡ count + 1 → HasSpace more before → HasSpace count after
