-- A run from where its balancers started.
use Rattle.std.specs.Prelude.{ℕ, ◌≡◌, ◌<◌, ◌≤◌, true, List, map, Option}
use Rattle.std.specs.List.{All}
use Rattle.jk_io.specs.declared.traits.streams.Meanings.{Ghosts}
use Rattle.jk_io.specs.declared.traits.surroundings.Peer.{Peer}
use Rattle.lb_model.specs.declared.opening.Opening.{Opening}
use Rattle.lb_model.specs.declared.segment.Segment.{Segment}
use Rattle.lb_book.specs.Journal.{Journal}
use Rattle.client_session.specs.Requests.{Visit, visit}
use Rattle.exchange.specs.Requests.{sizes_of}
use Rattle.site_config.specs.declared.balancer.Lb.{Lb}
use Rattle.lb_shared.specs.Histories.{SeatNote, starts_of}
use Rattle.lb_shared.specs.Sites.{IsBlankOf}
use Rattle.site_reports.specs.Starts.{AreStarts}
use Rattle.site_config.specs.declared.config.Config.{Config}
use Rattle.site_mounts.specs.Sites.{stands_in}
use Rattle.site_mounts.specs.declared.rule.Rule.{Rule}
use Rattle.request_log.specs.declared.format.Part.{Part as FormatPart}
use Rattle.request_log.specs.LogStates.{LogState}
use Rattle.gear_parts.specs.Gears.{GearSide}
use Rattle.gear_parts.specs.declared.world.Gear.{Gear}
use Rattle.jk_server.specs.declared.part.WorkerEnd.{WorkerEnd}
use Rattle.jk_server.specs.Closings.{Closes}
use Rattle.jk_server.specs.Headline.{firsts_of}
use Rattle.jk_server.specs.Runs.{AreServedGears}
use Rattle.jk_server.specs.RunTells.{gears_at, RunTells}
use Rattle.jk_server.specs.Worker.{WorkerTells}
use Rattle.jk_server.specs.declared.runs.ends.Closing.{Closing}
use Rattle.jk_server.specs.declared.runs.ends.SiteRun.{SiteRun}
use Rattle.jk_server.specs.declared.runs.new_site.NewSite.{NewSite}
use Rattle.jk_server.specs.declared.runs.parts.SitePlan.{SitePlan}

-- the pool sizes of each balancer's members
abbrev pub pool_table : List Lb → List (List ℕ)
pool_table lbs = map (λ lb. map (λ m. m.pool) lb.book.members) lbs

-- A Site that isn't open yet has the ledgers of these names, whose values are those of these balancers and of this cut, and a Book
-- for each balancer, which starts at the Site's moment.
pub record IsNewSite (name cuts_name parts : ℕ) (starts : List Opening) (sizes firsts : List ℕ) (cut_at cut : ℕ) (lbs : List Lb) (new : NewSite) : Type 0 where
  pub blank : IsBlankOf name cuts_name parts new.blank
  pub sized : sizes ≡ sizes_of lbs
  pub numbered : firsts ≡ firsts_of lbs
  pub cut_so : cut_at ≡ cut
  pub books : AreStarts lbs new.at 0 new.books
  pub begun : starts ≡ starts_of new.books

-- These gears can work, a worker with each, and each has one of the parts.
pub record AreReady {D G T K S O : Type 0} (is_idle : T → Type 0) (parts : ℕ) (cfg : Config) (rules : List Rule) (count : ℕ) (gears : List (Gear D G T K S O)) : Type 0 where
  pub each : parts ≡ count
  pub some : 0 < count
  pub few : count ≤ 64
  pub stands : stands_in cfg rules ≡ true
  pub idle : All (λ g. is_idle g.tape) gears

-- The workers served with the gears as they were at the start, the balancers from this moment on, and the closing ended so.
pub record IsStartedRun {C S O L X : Type 0} (visits : ℕ → Peer → Visit) (told : Ghosts C X) (shelved : S → Option (List (ℕ × Segment))) (of : WorkerTells S (Option (LogState O))) (format : List FormatPart) (lbs : List Lb) (at : ℕ) (begun back : List (GearSide C S O)) (ends : List (WorkerEnd L)) (closing : Closing L) : Type 0 where
  pub left : List (GearSide C S O)
  pub seats : List SeatNote
  pub served : AreServedGears visits told of format 0 begun left seats ends
  pub books : List Journal
  pub closed : Closes shelved of.shelf_faults lbs at seats books left back closing

-- `IsStartedRun` for the gears as they were at the start, and those that the run gave back.
abbrev pub RunsStarted : {D G T K S O L C X : Type 0} → RunTells D T K S O C X → SitePlan → (at : ℕ) → List (Gear D G T K S O) → SiteRun L (Gear D G T K S O) → Type 0
RunsStarted told plan at gears run =
    IsStartedRun (visit plan.cfg.now plan.map.now) told.link told.shelved told.keeps plan.format.now plan.cfg.now.lbs at (gears_at told gears) (gears_at told run.gears.items) run.workers run.closing
