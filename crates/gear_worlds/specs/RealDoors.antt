-- The real world's doors: how many clients they take, how many links are out, how often a call failed.
use Rattle.std.specs.Prelude.{ℕ, Option}
use Rattle.gear_worlds.specs.declared.real_door.RealDoor.{RealDoor}
use Rattle.gear_worlds.specs.declared.real_door.RealDoor.TheVariants as door_is

abbrev pub door_room : {R : Type 0} → RealDoor R → ℕ
door_room (door_is.Waiting door) = door.out
door_room (door_is.Plain door) = door.out

abbrev pub door_faults : {R : Type 0} → RealDoor R → ℕ
door_faults (door_is.Waiting door) = door.failed
door_faults (door_is.Plain door) = door.failed

-- after how many clients its worker ends
abbrev pub door_clients : {R : Type 0} → RealDoor R → Option ℕ
door_clients (door_is.Waiting door) = door.clients
door_clients (door_is.Plain door) = door.clients
