-- A run of a connector's workers, told of the gears before and after it. Read this first.
use Rattle.std.specs.Prelude.{ℕ, ◌≡◌, ◌+◌, List, [], ◌∷◌, Option, None}
use Rattle.jk_io.specs.declared.traits.streams.Meanings.{Ghosts}
use Rattle.jk_io.specs.declared.traits.surroundings.Peer.{Peer}
use Rattle.lb_model.specs.declared.segment.Segment.{Segment}
use Rattle.lb_book.specs.Journal.{Journal}
use Rattle.client_session.specs.Requests.{Visit, visit}
use Rattle.lb_shared.specs.Histories.{SeatNote, noted, own_in}
use Rattle.lb_shared.specs.SharedDesks.{SharedState}
use Rattle.site_config.specs.declared.balancer.Lb.{Lb}
use Rattle.request_log.specs.declared.format.Part.{Part as FormatPart}
use Rattle.request_log.specs.LogStates.{LogState}
use Rattle.gear_parts.specs.GearLogs.{new_log, sink_of}
use Rattle.gear_parts.specs.Gears.{GearSide}
use Rattle.gear_parts.specs.Starts.{AreStarted, GivesFirst}
use Rattle.gear_parts.specs.declared.world.Gear.{Gear}
use Rattle.jk_server.specs.Awaits.{unheard}
use Rattle.jk_server.specs.Headline.{HaveCut, IsHeadline, told_in}
use Rattle.jk_server.specs.Served.{IsServed}
use Rattle.jk_server.specs.Worker.{WorkerTells, WorkerSide}
use Rattle.jk_server.specs.declared.part.WorkerEnd.{WorkerEnd}
use Rattle.jk_server.specs.Closings.{Closes}
use Rattle.jk_server.specs.RunTells.{gears_at, RunTells}
use Rattle.jk_server.specs.declared.runs.ends.Closing.{Closing}
use Rattle.jk_server.specs.declared.runs.ends.SiteRun.{SiteRun}
use Rattle.jk_server.specs.declared.runs.parts.SitePlan.{SitePlan}

-- The worker works with this gear: with its shelf, its clock and its tape.
pub record WorksWith {C S O Y : Type 0} (gear : GearSide C S O) (worker : WorkerSide S Y) : Type 0 where
  pub shelf : worker.desk.shelf ≡ gear.shelf
  pub clock : worker.clock ≡ gear.clock
  pub talks : worker.reach.talks ≡ gear.talks

-- a desk of which nothing was asked yet
pub record IsNew {S : Type 0} (desk : SharedState S) : Type 0 where
  pub no_receipt : desk.desk.receipts ≡ []
  pub none_held : desk.desk.held ≡ []
  pub none_forgotten : desk.forgotten ≡ 0
  pub no_stray : (desk.met ≡ None) × (desk.desk.met ≡ None)
  pub none_seen : desk.seat.seen ≡ []
  pub no_step : desk.seat.steps ≡ []

-- A worker served the clients of its gear's door, each by one session, in order, with the talks on its tape; it began a log of
-- this format in what the gear has for it, where it has one. `end` is the worker's end. What its desk has seen as its own, at
-- the seat that it left, is just what these sessions were told, in order, and the cuts that were made in them. What the links were
-- told to await stands with the worker's sessions alone.
pub record IsServedGear {C S O L X : Type 0} (visit : Peer → Visit) (told : Ghosts C X) (of : WorkerTells S (Option (LogState O))) (format : List FormatPart) (before after : GearSide C S O) (seat : SeatNote) (end : WorkerEnd L) : Type 0 where
  pub from : WorkerSide S (Option (LogState O))
  pub to : WorkerSide S (Option (LogState O))
  pub first : WorksWith before from
  pub fresh : IsNew from.desk
  pub last : WorksWith after to
  pub begun : from.log ≡ new_log format before.log
  pub left : sink_of to.log ≡ after.log
  pub served : IsServed visit (unheard told) of before.door after.door from to end
  pub own : own_in seat.number seat.seen ≡ noted (told_in served.runs)
  pub cut : HaveCut seat served.runs

-- Each gear was served, in order, by the worker of its number.
abbrev pub AreServedGears : {C S O L X : Type 0} → (ℕ → Peer → Visit) → Ghosts C X → WorkerTells S (Option (LogState O)) → List FormatPart → (number : ℕ) → (before after : List (GearSide C S O)) → List SeatNote → List (WorkerEnd L) → Type 0
AreServedGears visits told of format number [] [] [] [] = Unit {0}
AreServedGears visits told of format number (b ∷ before) (a ∷ after) (s ∷ seats) (e ∷ ends) =
    IsServedGear (visits number) told of format b a s e × AreServedGears visits told of format (number + 1) before after seats ends
AreServedGears visits told of format number _ _ _ _ = ⊥

-- The gears as they were handed in and as they came back, how each worker ended, and how the closing did with the Books that it
-- took; and what the run comes to, by these very Books. The balancers began at the moment `at` that the first gear's clock gave.
pub record IsSiteRun {C S O L X : Type 0} (visits : ℕ → Peer → Visit) (told : Ghosts C X) (shelved : S → Option (List (ℕ × Segment))) (of : WorkerTells S (Option (LogState O))) (format : List FormatPart) (lbs : List Lb) (before back : List (GearSide C S O)) (ends : List (WorkerEnd L)) (closing : Closing L) : Type 0 where
  pub begun : List (GearSide C S O)
  pub left : List (GearSide C S O)
  pub started : AreStarted before begun
  pub at : ℕ
  pub given : GivesFirst at before begun
  pub seats : List SeatNote
  pub served : AreServedGears visits told of format 0 begun left seats ends
  pub books : List Journal
  pub closed : Closes shelved of.shelf_faults lbs at seats books left back closing
  pub headline : IsHeadline visits told of lbs at ends closing books

-- `IsSiteRun` for the gears that were handed in, and those that the run gave back.
abbrev pub RunsGears : {D G T K S O L C X : Type 0} → RunTells D T K S O C X → SitePlan → List (Gear D G T K S O) → SiteRun L (Gear D G T K S O) → Type 0
RunsGears told plan gears run =
    IsSiteRun (visit plan.cfg.now plan.map.now) told.link told.shelved told.keeps plan.format.now plan.cfg.now.lbs (gears_at told gears) (gears_at told run.gears.items) run.workers run.closing
