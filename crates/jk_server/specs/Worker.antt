-- A worker beside its door: its desk, clock, reach and log at a moment, and its steps between two sessions.
use Rattle.std.specs.Prelude.{ℕ, ◌≡◌, ◌+◌, Bool, true, false, List, [], length, Option, None}
use Rattle.jk_io.specs.Answers.{Answers}
use Rattle.jk_io.specs.Looks.{LookTimes, LooksIfDue}
use Rattle.jk_io.specs.Moments.{Moment}
use Rattle.jk_io.specs.declared.failures.IoError.{IoError}
use Rattle.jk_io.specs.declared.reaching.Beside.{Beside}
use Rattle.jk_io.specs.declared.traits.streams.Meanings.{Ghosts}
use Rattle.jk_io.specs.declared.traits.surroundings.Peer.{Peer}
use Rattle.lb_book.specs.Desks.{DeskState}
use Rattle.client_session.specs.Standings.{ReachSide, ClientStanding}
use Rattle.exchange.specs.Requests.{sizes_of}
use Rattle.gear_parts.specs.Logs.{LogTells}
use Rattle.lb_model.specs.declared.segment.Segment.{Segment}
use Rattle.lb_shared.specs.SharedDesks.{SharedState, shelf_note}
use Rattle.lb_shared.specs.Shelves.{ShelfNote}
use Rattle.site_config.specs.declared.config.Config.{Config}
use Rattle.site_mounts.specs.Sites.{stands_in}
use Rattle.site_mounts.specs.declared.rule.Rule.{Rule}

-- Its desk, the answers that its clock is to give, what its reach tells, when that looks through its idle links, and where the
-- rows of its requests are put.
pub record WorkerSide (S Y : Type 0) : Type 0 where
  pub desk : SharedState S
  pub clock : Option (List ℕ)
  pub reach : ReachSide
  pub looks : Option LookTimes
  pub log : Y

-- a worker at a moment, by what its types tell: `worker_side K.answers R.Meanings R.looks desk clock reach log`
abbrev pub worker_side : {K R S Y : Type 0} → (K → Option (List ℕ)) → Ghosts R Beside → (R → Option LookTimes) → SharedState S → K → R → Y → WorkerSide S Y
worker_side answers told looks desk clock reach log = record {
  desk = desk;
  clock = answers clock;
  reach = record { talks = (told.beside reach).talks; faults = told.faults reach };
  looks = looks reach;
  log = log;
}

-- The tellings of a worker's shelf and of its log, and whether a read of its clients may wait.
pub record WorkerTells (S Y : Type 0) : Type 1 where
  pub shelved : S → Option (List (ℕ × Segment))
  pub shelf_faults : S → ℕ
  pub log : LogTells Y
  pub may_wait : Bool

-- by their types: `keeps S.shelved S.faults ⟦<Y as ToldLog>⟧.told D.L.may_wait`
abbrev pub keeps : {S Y : Type 0} → (S → Option (List (ℕ × Segment))) → (S → ℕ) → LogTells Y → Bool → WorkerTells S Y
keeps shelved shelf_faults log may_wait = record { shelved = shelved; shelf_faults = shelf_faults; log = log; may_wait = may_wait }

-- what is told of a desk's shelf
abbrev pub shelf_of : {S Y : Type 0} → WorkerTells S Y → SharedState S → ShelfNote
shelf_of of desk = shelf_note of.shelved of.shelf_faults desk

-- what a session of this worker knows then, over a client and the client's bytes that were read and not used
abbrev pub standing_with : {S Y : Type 0} → WorkerSide S Y → Moment → List ℕ → ClientStanding
standing_with w client inbox =
    record { desk = record { state = w.desk.desk; clock = w.clock }; reach = w.reach; client = client; inbox = inbox }

-- a desk that forgot its receipts; they stay counted
abbrev pub forgot_desk : {S : Type 0} → SharedState S → SharedState S
forgot_desk d = record d { desk = record d.desk { receipts = [] }; forgotten = d.forgotten + length d.desk.receipts }

-- before a session the desk forgets the receipts of the one before
abbrev pub forgot : {S Y : Type 0} → WorkerSide S Y → WorkerSide S Y
forgot w = record w { desk = forgot_desk w.desk }

-- A session begins with what the worker has then: the desk forgot its receipts, and the log was told of the client.
pub record BeginsSession {S Y : Type 0} (log : LogTells Y) (w : WorkerSide S Y) (peer : Peer) (n : WorkerSide S Y) : Type 0 where
  pub greeted : log.greets w.log peer n.log
  pub same : n ≡ record (forgot w) { log = n.log }

-- After a session the clock is read, and at the moment that it gave the reach rests: it looks through its idle links if a look
-- is due then, and nothing else that it tells changes.
pub record Rests {S Y : Type 0} (w n : WorkerSide S Y) : Type 0 where
  pub now : ℕ
  pub read : Answers w.clock now n.clock
  pub looked : LooksIfDue w.looks now n.looks
  pub same : n ≡ record w { clock = n.clock; looks = n.looks }

-- a desk whose stray was taken
abbrev pub took : {S : Type 0} → SharedState S → SharedState S
took d = record d { desk = record d.desk { met = None }; met = None }

-- A worker may serve this site with what it has: each worker of the map stands in the configuration, desk and reach have
-- the sizes of its balancers, the desk holds no ticket, and no talk runs.
pub record IsFit (cfg : Config) (rules : List Rule) (desk : DeskState) (beside : Beside) : Type 0 where
  pub stands : stands_in cfg rules ≡ true
  pub caller : desk.caller ≡ None
  pub desk_sizes : desk.sizes ≡ sizes_of cfg.lbs
  pub reach_sizes : beside.sizes ≡ sizes_of cfg.lbs
  pub none_held : desk.held ≡ []
  pub idle : beside.runs ≡ false

-- It may begin: it is fit, and its log isn't broken.
pub record MayBegin (cfg : Config) (rules : List Rule) (desk : DeskState) (beside : Beside) (broken : Option IoError) : Type 0 where
  pub fit : IsFit cfg rules desk beside
  pub logged : broken ≡ None
