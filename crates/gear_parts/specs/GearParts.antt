-- The parts of a gear while its worker runs: each goes to the worker, and comes back.
use Rattle.std.specs.Prelude.{ℕ, ◌≡◌, List, [], Option, None, Some}
use Rattle.atomic_table.specs.Seated.{TableId}
use Rattle.jk_io.specs.declared.traits.streams.Link.{Ghosts as LinkGhosts}
use Rattle.jk_io.specs.declared.traits.streams.Meanings.{Ghosts}
use Rattle.jk_io.specs.declared.traits.surroundings.Dial.{Ghosts as DialGhosts}
use Rattle.conn_pool.specs.Idle.{counts}
use Rattle.lb_shared.specs.Locks.{lock_of}
use Rattle.lb_shared.specs.SharedDesks.{SharedState, shared_desk}
use Rattle.lb_shared.specs.declared.shared_desk.Leaving.{Leaving}
use Rattle.conn_pool.specs.Watched.{WatchedState}
use Rattle.conn_pool.specs.declared.watch.Watch.{Watch}
use Rattle.request_log.specs.LogStates.{LogState}
use Rattle.request_log.specs.declared.format.Part.{Part as FormatPart}
use Rattle.gear_parts.specs.GearLogs.{new_log, sink_of}
use Rattle.gear_parts.specs.declared.world.Gear.{Gear}
use Rattle.gear_parts.specs.declared.part.Part.{Part}
use Rattle.gear_parts.specs.declared.common.Common.{Common}

-- a desk, whatever its number at its lock and the openings behind it
abbrev pub unnumbered : {S : Type 0} → SharedState S → SharedState S
unnumbered d = record d { seat = record d.seat { number = 0; starts = [] } }

-- what a worker has when it begins, whatever its desk's number at the lock
pub record Start (D G T K S O C : Type 0) : Type 0 where
  pub door : D
  pub reach : WatchedState G T C
  pub clock : K
  pub desk : SharedState S
  pub log : Option (LogState O)

-- what the worker of a part has when it begins
abbrev pub start_with : {L D G T K S W O C : Type 0} → Part L D (WatchedState G T C) K S W (Option (LogState O)) → Start D G T K S O C
start_with part = record { door = part.door; reach = part.reach; clock = part.clock; desk = unnumbered part.desk; log = part.log }

-- The start of a gear's worker: a desk of one part at this lock that has the gear's shelf and has seen nothing, a
-- reach with its dial, its tape and this watch, and a log of this format where the gear has one.
abbrev pub start_of : {D G T K S O C : Type 0} → (lock : TableId) → (sizes pools : List ℕ) → Option Watch → List FormatPart → Gear D G T K S O → Start D G T K S O C
start_of lock sizes pools watch format gear = record {
  door = gear.door;
  reach = record {
    pooled = record { dial = gear.dial; tape = gear.tape; lent = None; back = None; sizes = pools; faults = 0 };
    watch = watch;
  };
  clock = gear.clock;
  desk = record { desk = shared_desk sizes 1 [] [] 0 0 0 0 None; shelf = gear.shelf; forgotten = 0; wants = 0; met = None; seat = record { lock = lock; starts = []; number = 0; seen = []; steps = [] } };
  log = new_log format gear.log;
}

-- the same by what all workers ask, at a site of these sizes
abbrev pub start_by : {L D G T K S O R C X : Type 0} {of_dial : DialGhosts G C X} {of_link : LinkGhosts C X} {told : Ghosts C X} → Common L G R C X of_dial of_link told → List ℕ → Gear D G T K S O → Start D G T K S O C
start_by common sizes = start_of (lock_of common.site.now) sizes (counts common.pools.now) common.watch common.format.now

-- the gear of a part: its door, the dial and the tape of its reach, its clock, the shelf of its desk, and what its log is written to
abbrev pub gear_in : {L D G T K S W O C : Type 0} → Part L D (WatchedState G T C) K S W (Option (LogState O)) → Gear D G T K S O
gear_in part = record {
  door = part.door;
  dial = part.reach.pooled.dial;
  tape = part.reach.pooled.tape;
  clock = part.clock;
  shelf = part.desk.shelf;
  log = sink_of part.log;
}

-- A desk's leaving, beside its shelf: its receipts, how many it forgot, its share, whose amount is the count of entries, and its seat.
pub record DeskLeaves {L S V : Type 0} (desk : SharedState S) (left : Leaving L V) : Type 0 where
  pub receipts_left : left.receipts ≡ desk.desk.receipts
  pub forgot : left.forgotten ≡ desk.forgotten
  pub counted : left.share.amount ≡ desk.desk.added
  pub parts_left : desk.desk.parts ≡ Some left.share.parts
  pub seat_left : left.seat ≡ desk.seat
