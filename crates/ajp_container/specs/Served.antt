-- The links that a container's worker served at its door, in order, and why it ended. Read this first.
use Rattle.std.specs.Prelude.{ℕ, ◌≡◌, ◌≢◌, ◌<◌, min, List, [], ◌∷◌, length, map, slice_index_or}
use Rattle.std.specs.List.{All}
use Rattle.jk_io.specs.Told.{appended, IsEmpty, Rose}
use Rattle.jk_io.specs.declared.traits.streams.Meanings.{Ghosts}
use Rattle.jk_io.specs.declared.traits.surroundings.Peer.{Peer}
use Rattle.ajp_wire.specs.Moments.{link_at}
use Rattle.jk_io.specs.Doors.{AllButLast, DoorSide, GaveAndGot}
use Rattle.ajp_container.specs.Ends.{IsTalk}
use Rattle.ajp_container.specs.declared.app_config.AppConfig.{AppConfig}
use Rattle.ajp_container.specs.declared.ends.ContainerEnd.{ContainerEnd}
use Rattle.ajp_container.specs.declared.ends.ContainerEnd.TheVariants as container_end
use Rattle.ajp_container.specs.declared.worker_ends.ContainerWorker.{ContainerWorker}
use Rattle.ajp_container.specs.declared.worker_ends.ContainerWorker.TheVariants as worker

-- A link that was served: as the door gave it, whose it was, as it was left, and how its talk ended.
pub record ServedLink (C : Type 0) : Type 0 where
  pub link : C
  pub peer : Peer
  pub back : C
  pub end : ContainerEnd

-- From the moment at which the door gave it to the one at which it was left, the link was in one talk with the container.
abbrev pub IsServedLink : {C X : Type 0} → AppConfig → Ghosts C X → ServedLink C → Type 0
IsServedLink app told s = IsTalk app (link_at told s.link) (link_at told s.back) s.end

-- the worker goes on after such a talk
abbrev pub WorksOn : {C : Type 0} → ServedLink C → Type 0
WorksOn s = s.end ≢ container_end.NoMemory

-- These links came from the door, in order, were served, and were left in that order.
pub record AreServed {C X : Type 0} (app : AppConfig) (told : Ghosts C X) (before after : DoorSide C) (served : List (ServedLink C)) : Type 0 where
  pub clients : GaveAndGot before after (map (λ s. (s.link, s.peer)) served) (map (λ s. s.back) served)
  pub talks : All (IsServedLink app told) served

-- the number of links, which stands still at the last value of a u64
abbrev pub count_of : {C : Type 0} → List (ServedLink C) → ℕ
count_of served = min (length served) 18446744073709551615

-- Why a worker ended that served these links. Where it ended since no client comes any more, or for want of memory, its
-- door had not failed.
abbrev pub ContainerEndsBy : {C : Type 0} → (before after : DoorSide C) → List (ServedLink C) → ContainerWorker → Type 0
ContainerEndsBy before after served (worker.Closed links) =
    (links ≡ count_of served) × All WorksOn served × IsEmpty after.coming × (after.faults ≡ before.faults)
ContainerEndsBy before after served worker.DoorFault = All WorksOn served × Rose before.faults after.faults
ContainerEndsBy before after served worker.NoMemory = AllButLast WorksOn served × (after.faults ≡ before.faults)

-- All that a worker did at its door.
pub record IsServedDoor {C X : Type 0} (app : AppConfig) (told : Ghosts C X) (before after : DoorSide C) (end : ContainerWorker) : Type 0 where
  pub links : List (ServedLink C)
  pub served : AreServed app told before after links
  pub why : ContainerEndsBy before after links end

-- The workers of several doors, in order.
abbrev pub AreEachServed : {C X : Type 0} → AppConfig → Ghosts C X → (before after : List (DoorSide C)) → List ContainerWorker → Type 0
AreEachServed app told [] [] [] = Unit {0}
AreEachServed app told (b ∷ before) (a ∷ after) (e ∷ ends) = IsServedDoor app told b a e × AreEachServed app told before after ends
AreEachServed app told _ _ _ = ⊥

-- A worker served at the door of this, and nothing else of it changed: `door` is its door, and `with` gives it another one.
pub record ServesAt {Q D C X : Type 0} (app : AppConfig) (told : Ghosts C X) (at : D → DoorSide C) (door : Q → D) (with : Q → D → Q) (before after : Q) (end : ContainerWorker) : Type 0 where
  pub served : IsServedDoor app told (at (door before)) (at (door after)) end
  pub kept : after ≡ with before (door after)

-- The workers of several slots, by place: `holder` and `end` say what a worker served at, and how it ended.
abbrev pub AreServedDoors : {S Q : Type 0} → (Q → Q → ContainerWorker → Type 0) → (S → Q) → (S → ContainerWorker) → List S → List S → Type 0
AreServedDoors {S} Serves holder end before after = (i : ℕ) (s : S) → i < length before
    → Serves (holder (slice_index_or before i s)) (holder (slice_index_or after i s)) (end (slice_index_or after i s))

-- A link was served to this end, and left at the door.
pub record LeavesServed {C X : Type 0} (app : AppConfig) (told : Ghosts C X) (before after : DoorSide C) (link : C) (end : ContainerEnd) : Type 0 where
  pub back : C
  pub talk : IsTalk app (link_at told link) (link_at told back) end
  pub coming : after.coming ≡ before.coming
  pub left : after.left ≡ appended before.left (back ∷ [])
  pub faults : after.faults ≡ before.faults
