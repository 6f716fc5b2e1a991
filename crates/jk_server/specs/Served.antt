-- The clients that a connector's worker served, in order, and why it ended. Read this first.
use Rattle.std.specs.Prelude.{ℕ, ◌≡◌, ◌<◌, ◌⊎◌, min, true, List, [], ◌∷◌, ◌++◌, length, map, Option, Some, None}
use Rattle.std.specs.List.{All}
use Rattle.jk_io.specs.Told.{appended, IsEmpty, Rose}
use Rattle.jk_io.specs.declared.failures.IoError.{IoError}
use Rattle.jk_io.specs.declared.failures.IoError.TheVariants as io
use Rattle.jk_io.specs.declared.traits.surroundings.Peer.{Peer}
use Rattle.jk_io.specs.Doors.{DoorSide, GaveAndGot}
use Rattle.client_session.specs.Ends.{MeetsBy, RisesBy}
use Rattle.client_session.specs.Parts.{HasParts}
use Rattle.client_session.specs.Requests.{Visit}
use Rattle.client_session.specs.Sessions.{Serves}
use Rattle.client_session.specs.Standings.{client_at}
use Rattle.client_session.specs.Whole.{HoldsOfEach}
use Rattle.client_session.specs.declared.ending.SessionEnd.{SessionEnd}
use Rattle.client_session.specs.declared.ending.SessionStop.{SessionStop}
use Rattle.client_session.specs.declared.ending.SessionStop.TheVariants as stop
use Rattle.client_session.specs.declared.ending.Why.TheVariants as why
use Rattle.status_worker.specs.Desks.{KeepsTickets}
use Rattle.lb_shared.specs.Histories.{HasGone}
use Rattle.lb_shared.specs.SharedDesks.{SharedState}
use Rattle.lb_shared.specs.Shelves.{HasShelved}
use Rattle.jk_server.specs.Awaits.{AwaitsClient, LinkTells}
use Rattle.jk_server.specs.Worker.{BeginsSession, WorkerTells, Rests, shelf_of, standing_with, took, WorkerSide}
use Rattle.jk_server.specs.PartTells.{PartTells, worker_of}
use Rattle.gear_parts.specs.declared.part.Part.{Part}
use Rattle.jk_server.specs.declared.part.WorkerEnd.{WorkerEnd}
use Rattle.jk_server.specs.declared.part.WorkerEnd.TheVariants as worker

-- A client that was served: its link as the door gave it, who it was, the link as it was left, what the worker had when
-- the session began and when it ended, and how it ended.
pub record Run (C S Y : Type 0) : Type 0 where
  pub link : C
  pub peer : Peer
  pub back : C
  pub from : WorkerSide S Y
  pub to : WorkerSide S Y
  pub end : SessionEnd

-- The client was served by one session of this worker: the requests of its bytes, of which each row was put, and why it
-- ended; the client has the parts of these requests, joined; and what holds of each session that ends so. The session gained
-- receipts of this worker alone, and the desk holds the tickets that it held. Only a client whose reads may wait was left
-- while it waited. What the desk was told in the session is just what its seat has seen besides as its own. Its shelf was only
-- added to, its faults and wants didn't fall, and it forgot no receipt. Before each of its requests the client was told that it is
-- waited for, unless memory was wanted before the first.
pub record IsRun {C S Y X : Type 0} (visit : Peer → Visit) (told : LinkTells C X) (of : WorkerTells S Y) (r : Run C S Y) : Type 0 where
  pub session : Serves (visit r.peer) (standing_with r.from (client_at told.stream r.link)) (standing_with r.to (client_at told.stream r.back))
      (λ gained. of.log.gained r.from.log gained r.to.log) r.end
  pub parts : HasParts (visit r.peer) (standing_with r.from (client_at told.stream r.link) []) (standing_with r.to (client_at told.stream r.back) []) r.end
  pub each : HoldsOfEach (visit r.peer) r.end
  pub fault : RisesBy r.end.stop (told.stream.faults r.link) (told.stream.faults r.back)
  pub met : MeetsBy r.end.stop r.from.desk.desk r.to.desk.desk
  pub kept : KeepsTickets (visit r.peer).session r.from.desk.desk r.to.desk.desk
  pub idle_only : r.end.stop ≡ stop.Closed why.Idle → of.may_wait ≡ true
  pub gone : HasGone r.from.desk.seat r.from.desk.desk.receipts r.to.desk.seat r.to.desk.desk.receipts
  pub shelf : HasShelved (shelf_of of r.from.desk) (shelf_of of r.to.desk)
  pub awaits : AwaitsClient told.stream told.heard (visit r.peer) (standing_with r.from (client_at told.stream r.link))
      (standing_with r.to (client_at told.stream r.back)) r.link r.back r.end

-- a worker goes on after a session that ended so
abbrev pub CanGoOn : SessionStop → Type 0
CanGoOn (stop.Closed why') = Unit {0}
CanGoOn stop.ClientFault = Unit {0}
CanGoOn stop.Truncated = Unit {0}
CanGoOn (stop.Stray ticket returned_at) = ⊥
CanGoOn stop.NoMemory = ⊥

abbrev pub IsStray : SessionStop → Type 0
IsStray (stop.Closed why') = ⊥
IsStray stop.ClientFault = ⊥
IsStray stop.Truncated = ⊥
IsStray (stop.Stray ticket returned_at) = Unit {0}
IsStray stop.NoMemory = ⊥

-- A desk goes on after a session that ended so, if the shelf kept all that was cut in it: neither its faults nor its wants rose.
pub record DeskGoesOn {S : Type 0} (faults : S → ℕ) (from to : SharedState S) (end : SessionStop) : Type 0 where
  pub can : CanGoOn end
  pub kept : faults to.shelf ≡ faults from.shelf
  pub room : to.wants ≡ from.wants

-- Why a worker ended right after a session, by its desk. A fault of the shelf goes before a stray, and both before want of
-- memory.
abbrev pub DeskEnds : {S L : Type 0} → (faults : S → ℕ) → (from to : SharedState S) → SessionStop → WorkerEnd L → Type 0
DeskEnds faults from to end (worker.Closed sessions) = ⊥
DeskEnds faults from to end worker.DoorFault = ⊥
DeskEnds faults from to end worker.ShelfFault = Rose (faults from.shelf) (faults to.shelf)
DeskEnds faults from to end worker.LogFault = ⊥
DeskEnds faults from to end (worker.Stray stray) =
    IsStray end × (to.met ≡ Some stray) × (to.desk.met ≡ Some stray.stray) × (faults to.shelf ≡ faults from.shelf)
DeskEnds faults from to end worker.NoMemory =
    ((end ≡ stop.NoMemory) ⊎ (from.wants < to.wants)) × (faults to.shelf ≡ faults from.shelf) × (IsStray end → ⊥)

-- A worker goes on, if its log took each row besides, and never failed.
pub record WorkerGoesOn {S Y : Type 0} (of : WorkerTells S Y) (from to : WorkerSide S Y) (end : SessionEnd) : Type 0 where
  pub desk : DeskGoesOn of.shelf_faults from.desk to.desk end.stop
  pub logged : of.log.broken_by to.log ≡ None
  pub steady : of.log.faults to.log ≡ of.log.faults from.log

-- Why a worker ended right after a session. A log that broke goes before what its desk says, since it alone leaves rows out, but
-- one that wanted memory goes after a fault of the shelf.
abbrev pub EndsAfter : {S Y L : Type 0} → WorkerTells S Y → (from to : WorkerSide S Y) → SessionEnd → WorkerEnd L → Type 0
EndsAfter {L = L} of from to end (worker.Closed sessions) = DeskEnds {L = L} of.shelf_faults from.desk to.desk end.stop (worker.Closed sessions)
EndsAfter {L = L} of from to end worker.DoorFault = DeskEnds {L = L} of.shelf_faults from.desk to.desk end.stop worker.DoorFault
EndsAfter {L = L} of from to end worker.ShelfFault =
    (of.log.broken_by to.log ≡ Some io.Failed → ⊥) × DeskEnds {L = L} of.shelf_faults from.desk to.desk end.stop worker.ShelfFault
EndsAfter of from to end worker.LogFault = (of.log.broken_by to.log ≡ Some io.Failed) × Rose (of.log.faults from.log) (of.log.faults to.log)
EndsAfter {L = L} of from to end (worker.Stray stray) =
    (of.log.broken_by to.log ≡ None) × DeskEnds {L = L} of.shelf_faults from.desk to.desk end.stop (worker.Stray stray)
EndsAfter {L = L} of from to end worker.NoMemory =
    (((of.log.broken_by to.log ≡ Some io.NoMemory) × (of.shelf_faults to.desk.shelf ≡ of.shelf_faults from.desk.shelf))
    ⊎ ((of.log.broken_by to.log ≡ None) × DeskEnds {L = L} of.shelf_faults from.desk to.desk end.stop worker.NoMemory))
    × (of.log.faults to.log ≡ of.log.faults from.log)

-- the desk once its worker ended; a stray that the worker took is no more with the desk
abbrev pub left_by : {S L : Type 0} → WorkerEnd L → SharedState S → SharedState S
left_by (worker.Closed sessions) d = d
left_by worker.DoorFault d = d
left_by worker.ShelfFault d = d
left_by worker.LogFault d = d
left_by (worker.Stray stray) d = took d
left_by worker.NoMemory d = d

-- Sessions one after another, after each of which the worker rested and went on. Each begins with what the one before
-- left: their talks, joined in order, are those that the reach gained, their receipts those that the desk gained, and their
-- rows those that the log gained.
abbrev pub HaveRested : {C S Y : Type 0} → WorkerTells S Y → WorkerSide S Y → List (Run C S Y) → WorkerSide S Y → Type 0
HaveRested of s [] n = n ≡ s
HaveRested {C} {S} {Y} of s (r ∷ runs) n =
    (mid : WorkerSide S Y) × BeginsSession of.log s r.peer r.from × WorkerGoesOn of r.from r.to r.end × Rests r.to mid × HaveRested of mid runs n

-- The worker ended right after the last of its sessions.
pub record EndsAtLast {C S Y L : Type 0} (of : WorkerTells S Y) (s n : WorkerSide S Y) (runs : List (Run C S Y)) (end : WorkerEnd L) : Type 0 where
  pub before : List (Run C S Y)
  pub last : Run C S Y
  pub mid : WorkerSide S Y
  pub split : runs ≡ before ++ last ∷ []
  pub rested : HaveRested of s before mid
  pub begins : BeginsSession of.log mid last.peer last.from
  pub why : EndsAfter of last.from last.to last.end end
  pub left : n ≡ record last.to { desk = left_by end last.to.desk }

-- the number of clients, which stands still at the last value of a u64
abbrev pub count_of : {C S Y : Type 0} → List (Run C S Y) → ℕ
count_of runs = min (length runs) 18446744073709551615

-- Why a worker ended that served these clients. Only the last session ended by a stray or in want of memory. A call of its door had
-- failed only where it ended by that.
abbrev pub EndsBy : {C S Y L : Type 0} → WorkerTells S Y → (before after : DoorSide C) → (s n : WorkerSide S Y) → List (Run C S Y) → WorkerEnd L → Type 0
EndsBy of before after s n runs (worker.Closed sessions) =
    (sessions ≡ count_of runs) × HaveRested of s runs n × IsEmpty after.coming × (after.faults ≡ before.faults)
EndsBy of before after s n runs worker.DoorFault = HaveRested of s runs n × Rose before.faults after.faults
EndsBy {L = L} of before after s n runs worker.ShelfFault = EndsAtLast {L = L} of s n runs worker.ShelfFault × (after.faults ≡ before.faults)
EndsBy {L = L} of before after s n runs worker.LogFault = EndsAtLast {L = L} of s n runs worker.LogFault × (after.faults ≡ before.faults)
EndsBy {L = L} of before after s n runs (worker.Stray stray) =
    EndsAtLast {L = L} of s n runs (worker.Stray stray) × (after.faults ≡ before.faults)
EndsBy {L = L} of before after s n runs worker.NoMemory =
    (HaveRested of s runs n ⊎ EndsAtLast {L = L} of s n runs worker.NoMemory) × (after.faults ≡ before.faults)

-- All that a worker did: the clients that came from its door, in order, were served, each by one session, and were left
-- in that order.
pub record IsServed {C S Y L X : Type 0} (visit : Peer → Visit) (told : LinkTells C X) (of : WorkerTells S Y) (before after : DoorSide C) (s n : WorkerSide S Y) (end : WorkerEnd L) : Type 0 where
  pub runs : List (Run C S Y)
  pub clients : GaveAndGot before after (map (λ r. (r.link, r.peer)) runs) (map (λ r. r.back) runs)
  pub sessions : All (IsRun visit told of) runs
  pub why : EndsBy of before after s n runs end

-- ---- one client

-- Whether the worker goes on after a session by its desk, or how it ends; `n` is its desk then.
abbrev pub DeskSettles : {S L : Type 0} → (S → ℕ) → (from to n : SharedState S) → SessionStop → Option (WorkerEnd L) → Type 0
DeskSettles faults from to n end None = DeskGoesOn faults from to end × (n ≡ to)
DeskSettles faults from to n end (Some worker_end) = DeskEnds faults from to end worker_end × (n ≡ left_by worker_end to)

-- How a worker ends whose log wanted memory: a fault of the shelf goes before that.
abbrev pub EndsWanting : {S L : Type 0} → (S → ℕ) → (from to : SharedState S) → WorkerEnd L → Type 0
EndsWanting faults from to worker.ShelfFault = Rose (faults from.shelf) (faults to.shelf)
EndsWanting faults from to worker.NoMemory = faults to.shelf ≡ faults from.shelf
EndsWanting faults from to _ = ⊥

-- The same with its log, of which this broke it.
abbrev pub SettlesBy : {S L : Type 0} → (broken : Option IoError) → (S → ℕ) → (from to n : SharedState S) → SessionStop → Option (WorkerEnd L) → Type 0
SettlesBy None faults from to n end settled = DeskSettles faults from to n end settled
SettlesBy (Some io.Failed) faults from to n end settled = (settled ≡ Some worker.LogFault) × (n ≡ to)
SettlesBy (Some io.NoMemory) faults from to n end None = ⊥
SettlesBy (Some io.NoMemory) faults from to n end (Some worker_end) = EndsWanting faults from to worker_end × (n ≡ to)

-- The same of the worker.
abbrev pub Settles : {S Y L : Type 0} → WorkerTells S Y → (from to : WorkerSide S Y) → (n : SharedState S) → SessionEnd → Option (WorkerEnd L) → Type 0
Settles of from to n end None = WorkerGoesOn of from to end × (n ≡ to.desk)
Settles of from to n end (Some worker_end) = EndsAfter of from to end worker_end × (n ≡ left_by worker_end to.desk)

-- A client was served by one session, its link was left, and the worker goes on or ends by that session.
pub record ServesClient {C S Y L X : Type 0} (visit : Peer → Visit) (told : LinkTells C X) (of : WorkerTells S Y) (before after : DoorSide C) (s n : WorkerSide S Y) (link : C) (peer : Peer) (end : Option (WorkerEnd L)) : Type 0 where
  pub back : C
  pub from : WorkerSide S Y
  pub to : WorkerSide S Y
  pub session_end : SessionEnd
  pub begins : BeginsSession of.log s peer from
  pub run : IsRun visit told of (record { link = link; peer = peer; back = back; from = from; to = to; end = session_end })
  pub settles : Settles of from to n.desk session_end end
  pub same : n ≡ record to { desk = n.desk }
  pub coming : after.coming ≡ before.coming
  pub left : after.left ≡ appended before.left (back ∷ [])
  pub door_faults : after.faults ≡ before.faults

-- A client was served, and then the worker rested.
pub record ServesOn {C S Y L X : Type 0} (visit : Peer → Visit) (told : LinkTells C X) (of : WorkerTells S Y) (before after : DoorSide C) (s n : WorkerSide S Y) (link : C) (peer : Peer) (none : Option (WorkerEnd L)) : Type 0 where
  pub mid : WorkerSide S Y
  pub serves : ServesClient visit told of before after s mid link peer none
  pub rests : Rests mid n

-- After a client the worker rests and goes on, or ends: at once, or because its reach wanted memory to rest.
abbrev pub ServesNext : {C S Y L X : Type 0} → (visit : Peer → Visit) → (told : LinkTells C X) → WorkerTells S Y → (before after : DoorSide C) → (s n : WorkerSide S Y) → (link : C) → (peer : Peer) → Option (WorkerEnd L) → Type 0
ServesNext {L = L} visit told of before after s n link peer None = ServesOn {L = L} visit told of before after s n link peer None
ServesNext {L = L} visit told of before after s n link peer (Some end) =
    ServesClient visit told of before after s n link peer (Some end)
    ⊎ ((end ≡ worker.NoMemory) × ServesOn {L = L} visit told of before after s n link peer None)

-- ---- said of a part, from one moment to another

-- `IsServed` for its worker.
abbrev pub ServesPart : {L D R K S W Y C X : Type 0} → PartTells D R K S Y C X → (Peer → Visit) → (before after : Part L D R K S W Y) → WorkerEnd L → Type 0
ServesPart told visit before after end =
    IsServed visit told.link told.keeps (told.door before.door) (told.door after.door) (worker_of told before) (worker_of told after) end

-- `ServesClient` for its worker.
abbrev pub ServesPartClient : {L D R K S W Y C X : Type 0} → PartTells D R K S Y C X → (Peer → Visit) → (before after : Part L D R K S W Y) → C → Peer → Option (WorkerEnd L) → Type 0
ServesPartClient told visit before after link peer end =
    ServesClient visit told.link told.keeps (told.door before.door) (told.door after.door) (worker_of told before) (worker_of told after) link peer end

-- `ServesNext` for its worker.
abbrev pub ServesPartNext : {L D R K S W Y C X : Type 0} → PartTells D R K S Y C X → (Peer → Visit) → (before after : Part L D R K S W Y) → C → Peer → Option (WorkerEnd L) → Type 0
ServesPartNext told visit before after link peer end =
    ServesNext visit told.link told.keeps (told.door before.door) (told.door after.door) (worker_of told before) (worker_of told after) link peer end
