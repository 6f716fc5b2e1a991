-- `serve` and `container`, by what each does with the outside and how it ends. Read this first; a run of the one is in
-- specs/Runs.antt, and one of the other in gear_parts' specs/Containers.antt.
use Rattle.std.specs.Prelude.{◌≡◌, ℕ, true, ◌-◌, ◌≤◌, ◌⊎◌, min, max, List, [], ◌∷◌, length, map, Option, Some, None, codes}
use Rattle.std.specs.List.{All, AllZip}
use Rattle.client_session.specs.Requests.{visit}
use Rattle.ajp_container.specs.declared.worker_ends.ContainerWorker.{ContainerWorker}
use Rattle.jk_cli.specs.declared.order.ServeOrder.{ServeOrder}
use Rattle.jk_io.specs.Told.{appended, PutsFront, Rose}
use Rattle.jk_io.specs.declared.traits.streams.Meanings.{Ghosts}
use Rattle.jk_io.specs.declared.traits.surroundings.Files.{Ghosts as FilesGhosts}
use Rattle.ajp_container.specs.declared.app_config.AppConfig.{AppConfig}
use Rattle.site_reports.specs.Found.{is_refused}
use Rattle.site_reports.specs.Readings.{CommandOutside, File, OfFiles, StopsLong}
use Rattle.site_reports.specs.Reports.{RefusesSite}
use Rattle.site_config.specs.declared.config.Config.{Config}
use Rattle.site_mounts.specs.declared.rule.Rule.{Rule}
use Rattle.request_log.specs.Formats.{IsFormat, IsRefusedFrom, refusal_line}
use Rattle.request_log.specs.declared.format.Part.{Part as FormatPart}
use Rattle.gear_parts.specs.Containers.{IsContainerRun}
use Rattle.gear_parts.specs.Starts.{AreStarted}
use Rattle.jk_server.specs.Runs.{IsSiteRun}
use Rattle.jk_server.specs.RunTells.{logging}
use Rattle.jk_server.specs.declared.runs.ends.Closing.{Closing}
use Rattle.jk_server.specs.declared.part.WorkerEnd.{WorkerEnd}
use Rattle.jk_server.specs.Ends.{end_of_container, end_of_run, returned}
use Rattle.site_reports.specs.Sites.{AreFound}
use Rattle.gear_parts.specs.Wants.{AreSuited, GearWants, wants, wants_of}
use Rattle.gear_parts.specs.Worlds.{HandsAndTakes, IsMade, RefusesGear, shown_to, Tells, WorldSide}
use Rattle.jk_server.specs.declared.orders.ends.CommandEnd.{CommandEnd}
use Rattle.jk_server.specs.declared.orders.ends.CommandEnd.TheVariants as end
use Rattle.gear_parts.specs.declared.order.GearOrder.{GearOrder}
use Rattle.jk_server.specs.declared.orders.container.ContainerOrder.{ContainerOrder}
use Rattle.site_reports.specs.declared.found.AcceptedSite.{AcceptedSite}
use Rattle.site_reports.specs.declared.found.SiteFound.{SiteFound}
use Rattle.site_reports.specs.declared.found.SiteFound.TheVariants as found

-- The outside of a command at a moment: how often the files failed, what the output was sent and how often it failed, and the world.
pub record CommandSide (G : Type 0) : Type 0 where
  pub file_faults : ℕ
  pub sent : Option (List ℕ)
  pub output_faults : ℕ
  pub world : WorldSide G

-- The tellings of a command's types, on its files, its output and its world.
pub record CommandTells (F O W G C S Y X Z : Type 0) : Type 1 where
  pub files : F → Option (List (List ℕ × List ℕ))
  pub file_faults : F → ℕ
  pub sent : O → Option (List ℕ)
  pub output_faults : O → ℕ
  pub world : Tells W G C S Y X Z

-- by their types: `telling F.Files O.Meanings ⟦<W as ToldWorld>⟧.told`
abbrev pub telling : {F P A W G C S Y X Z : Type 0} → FilesGhosts F → Ghosts P A → Tells W G C S Y X Z → CommandTells F P W G C S Y X Z
telling of_files of_output of_world = record {
  files = of_files.files;
  file_faults = of_files.faults;
  sent = of_output.sent;
  output_faults = of_output.faults;
  world = of_world;
}

-- a command over these files, this output and this world
abbrev pub command_side : {F O W G C S Y X Z : Type 0} → CommandTells F O W G C S Y X Z → F × O × W → CommandSide G
command_side told over = record {
  file_faults = told.file_faults over.0;
  sent = told.sent over.1;
  output_faults = told.output_faults over.1;
  world = told.world.world over.2;
}

-- The number of kept entries at which a journal is cut, where so many may be lost: three more than it may be in no file. It is
-- one at least, and 65,536 where no number is given.
abbrev pub cut_at : Option ℕ → ℕ
cut_at None = 65536
cut_at (Some most) = min (max (most - 3) 1) 4294967295

-- ---- with the world

-- A gear was refused, and those before it came back as they were.
pub record LacksGear {G L : Type 0} (threads : ℕ) (s n : WorldSide G) (ended : CommandEnd L) : Type 0 where
  pub refused : RefusesGear threads s n
  pub status : ended ≡ end.Status 4
  pub cause : Rose s.faults n.faults

-- Memory was wanted, and the world had no fault: the gears that were handed out, no more than there are workers, came back as
-- they were.
pub record WantsMemory {G L : Type 0} (threads : ℕ) (s n : WorldSide G) (ended : CommandEnd L) : Type 0 where
  pub gears : List G
  pub passed : HandsAndTakes s n gears gears
  pub few : length gears ≤ threads
  pub calm : n.faults ≡ s.faults
  pub status : ended ≡ end.Status 6

-- A command for this many workers, by what it does with the world; `Runs` says what its run does.
pub data Works {G L : Type 0} (threads : ℕ) (Runs : WorldSide G → WorldSide G → CommandEnd L → Type 0) (s n : WorldSide G) (ended : CommandEnd L) : Type 0 where
  NoGear : LacksGear threads s n ended → Works threads Runs s n ended
  NoRoom : WantsMemory threads s n ended → Works threads Runs s n ended
  Ran : Runs s n ended → Works threads Runs s n ended

-- A gear for each worker was handed out, and one of them had no log: all came back as they were.
pub record LacksLog {G L : Type 0} (threads : ℕ) (s n : WorldSide G) (ended : CommandEnd L) : Type 0 where
  pub gears : List G
  pub count : length gears ≡ threads
  pub passed : HandsAndTakes s n gears gears
  pub why : ((ended ≡ end.Status 4) × Rose s.faults n.faults) ⊎ ((ended ≡ end.Status 6) × (n.faults ≡ s.faults))

-- Memory was wanted before the workers of a site, and the world had no fault: a gear for each was handed out and given its log
-- where logs are wanted, and all came back, of which nothing was asked but the moment at which the balancers start.
pub record WantsStart {W G C S O X Z L : Type 0} (told : Tells W G C S O X Z) (threads : ℕ) (wanted : GearWants) (s n : WorldSide G) (ended : CommandEnd L) : Type 0 where
  pub gears : List G
  pub begun : List G
  pub back : List G
  pub count : length gears ≡ threads
  pub logged : told.are_given wanted.log gears begun
  pub unasked : AreStarted (map told.gear begun) (map told.gear back)
  pub passed : HandsAndTakes s n gears back
  pub calm : n.faults ≡ s.faults
  pub status : ended ≡ end.Status 6

-- The workers of a site ran: the world handed out a gear for each, in order, each just made and as that worker wants it, and
-- each was given its log where logs are wanted; what one run over the site made of these gears came back, in order, as far as the run
-- gives gears back (`returned`); and the run's end is the command's, which names no fault of the world: it had none.
pub record RunsSite {W G C S O X Z L : Type 0} (told : Tells W G C S O X Z) (cfg : Config) (rules : List Rule) (format : List FormatPart) (threads : ℕ) (wanted : GearWants) (s n : WorldSide G) (ended : CommandEnd L) : Type 0 where
  pub gears : List G
  pub begun : List G
  pub left : List G
  pub count : length gears ≡ threads
  pub made : All (λ g. IsMade wanted.clients (told.gear g)) gears
  pub suited : AreSuited (λ number. told.suits number wanted (Some cfg)) 0 gears
  pub logged : told.are_given wanted.log gears begun
  pub ends : List (WorkerEnd L)
  pub closing : Closing L
  pub run : IsSiteRun (visit cfg rules) told.link told.shelved (logging told.shelved told.shelf_faults told.log told.may_wait) format cfg.lbs (map told.gear begun) (map told.gear left) ends closing
  pub passed : HandsAndTakes s n gears (returned closing left)
  pub calm : n.faults ≡ s.faults
  pub status : ended ≡ end_of_run ends closing

-- The workers of a site ran, or one of them had no log, or memory was wanted before they did.
abbrev pub RunsLogged : {W G C S O X Z L : Type 0} → Tells W G C S O X Z → Config → List Rule → List FormatPart → (threads : ℕ) → GearWants → (s n : WorldSide G) → CommandEnd L → Type 0
RunsLogged told cfg rules format threads wanted s n ended =
    LacksLog threads s n ended ⊎ WantsStart told threads wanted s n ended ⊎ RunsSite told cfg rules format threads wanted s n ended

-- The workers of a container ran, in the same way. Each gear came back with all that it had but its door.
pub record RunsContainer {W G C S O X Z L : Type 0} (told : Tells W G C S O X Z) (app : AppConfig) (threads : ℕ) (wanted : GearWants) (s n : WorldSide G) (ended : CommandEnd L) : Type 0 where
  pub gears : List G
  pub left : List G
  pub count : length gears ≡ threads
  pub made : All (λ g. IsMade wanted.clients (told.gear g)) gears
  pub suited : AreSuited (λ number. told.suits number wanted None) 0 gears
  pub ends : List ContainerWorker
  pub run : IsContainerRun app told.link (map told.gear gears) (map told.gear left) ends
  pub rests : AllZip told.keeps_rest gears left
  pub passed : HandsAndTakes s n gears left
  pub calm : n.faults ≡ s.faults
  pub status : ended ≡ end_of_container ends

-- ---- all that a command does

-- Nothing was written, and no write failed.
abbrev pub KeepsOutput : {G : Type 0} → (s n : CommandSide G) → Type 0
KeepsOutput s n = (n.sent ≡ s.sent) × (n.output_faults ≡ s.output_faults)

-- How the writing of a text ends: it was written, which gives this status, or a front of it. For want of memory only where no
-- write failed.
abbrev pub Writes : {L : Type 0} → (status : ℕ) → (sent sent_now : Option (List ℕ)) → (faults faults_now : ℕ) → (text : List ℕ) → CommandEnd L → Type 0
Writes status sent sent_now faults faults_now text ended =
    ((sent_now ≡ appended sent text) × (ended ≡ end.Status status))
    ⊎ (PutsFront sent sent_now text × (ended ≡ end.Status 5) × Rose faults faults_now)
    ⊎ (PutsFront sent sent_now text × (ended ≡ end.Status 6) × (faults_now ≡ faults))

-- How the writing of a line that refuses ends.
abbrev pub WritesLine : {L : Type 0} → (sent sent_now : Option (List ℕ)) → (faults faults_now : ℕ) → (line : List ℕ) → CommandEnd L → Type 0
WritesLine sent sent_now faults faults_now line ended = Writes 3 sent sent_now faults faults_now line ended

-- The files were read, and are refused: the line that `config` prints of them was written.
pub record RefusesFiles {G L : Type 0} (outside : CommandOutside) (workers map : List ℕ) (s n : CommandSide G) (ended : CommandEnd L) : Type 0 where
  pub line : List ℕ
  pub refused : RefusesSite outside workers map line
  pub written : WritesLine s.sent n.sent s.output_faults n.output_faults line ended
  pub read : n.file_faults ≡ s.file_faults
  pub world : n.world ≡ s.world

-- The files couldn't be read, and nothing was done.
pub record LacksFiles {G L : Type 0} (s n : CommandSide G) (ended : CommandEnd L) : Type 0 where
  pub why : ((ended ≡ end.Status 4) × Rose s.file_faults n.file_faults) ⊎ ((ended ≡ end.Status 6) × (n.file_faults ≡ s.file_faults))
  pub output : KeepsOutput s n
  pub world : n.world ≡ s.world

-- The files were read, and are a site. The world was shown it, once and no other, when it had handed out the gears alone that were
-- out before, and then this many workers were wanted. So each gear was handed out to serve a site that had been shown. Nothing was
-- written.
pub record ServesSite {W G C S O X Z L : Type 0} (told : Tells W G C S O X Z) (outside : CommandOutside) (workers map : List ℕ) (format : List FormatPart) (threads : ℕ) (wanted : GearWants) (s n : CommandSide G) (ended : CommandEnd L) : Type 0 where
  pub site : AcceptedSite
  pub is : AreFound outside workers map (found.Site site)
  pub read : n.file_faults ≡ s.file_faults
  pub shown : n.world.shown ≡ appended s.world.shown (record { site = site; handed = s.world.handed } ∷ [])
  pub works : Works threads (RunsLogged told site.workers.config site.rules format threads wanted) (shown_to s.world site) n.world ended
  pub output : KeepsOutput s n

-- A site of these files is served, with logs of this format where logs are wanted.
pub data ServesFiles {W G C S O X Z L : Type 0} (told : Tells W G C S O X Z) (outside : CommandOutside) (workers map : List ℕ) (format : List FormatPart) (threads : ℕ) (wanted : GearWants) (s n : CommandSide G) (ended : CommandEnd L) : Type 0 where
  Unread : LacksFiles s n ended → ServesFiles told outside workers map format threads wanted s n ended
  Refused : RefusesFiles outside workers map s n ended → ServesFiles told outside workers map format threads wanted s n ended
  Served : ServesSite told outside workers map format threads wanted s n ended → ServesFiles told outside workers map format threads wanted s n ended

-- the format of the logs, as it is written; where it isn't, it has the worker, what was asked, the status and the length
abbrev pub format_text : Option (List ℕ) → List ℕ
format_text None = codes "%w %m %U%q %s %b"
format_text (Some text) = text

-- The format is refused, before any file is read, and the line that says where was written.
pub record RefusesFormat {G L : Type 0} (text : List ℕ) (s n : CommandSide G) (ended : CommandEnd L) : Type 0 where
  pub at : ℕ
  pub refused : IsRefusedFrom text at
  pub written : WritesLine s.sent n.sent s.output_faults n.output_faults (refusal_line at) ended
  pub unread : n.file_faults ≡ s.file_faults
  pub world : n.world ≡ s.world

-- There was no memory for the format, and nothing was done.
pub record LacksFormat {G L : Type 0} (s n : CommandSide G) (ended : CommandEnd L) : Type 0 where
  pub status : ended ≡ end.Status 6
  pub unread : n.file_faults ≡ s.file_faults
  pub output : KeepsOutput s n
  pub world : n.world ≡ s.world

-- `serve WORKERS MAP ADDRESS THREADS`, with logs of the format that this text is, where logs are wanted
pub data DoesServe {W G C S O X Z L : Type 0} (told : Tells W G C S O X Z) (outside : CommandOutside) (workers map text : List ℕ) (threads : ℕ) (wanted : GearWants) (s n : CommandSide G) (ended : CommandEnd L) : Type 0 where
  NoFormat : LacksFormat s n ended → DoesServe told outside workers map text threads wanted s n ended
  Unformatted : RefusesFormat text s n ended → DoesServe told outside workers map text threads wanted s n ended
  Formatted : (format : List FormatPart) → IsFormat text format → ServesFiles told outside workers map format threads wanted s n ended
      → DoesServe told outside workers map text threads wanted s n ended

-- Nothing was done: a read failed, which is status 4, or memory was wanted where none had, which is 6.
pub record DoesNothing {G : Type 0} (status : ℕ) (s n : CommandSide G) : Type 0 where
  pub why : ((status ≡ 4) × Rose s.file_faults n.file_faults) ⊎ ((status ≡ 6) × (n.file_faults ≡ s.file_faults))
  pub output : KeepsOutput s n
  pub world : n.world ≡ s.world

-- Why no site is handed on: nothing was done, the format is refused, a file is too long to be judged, or both are accepted.
pub data RefusesNone {G : Type 0} (outside : CommandOutside) (workers map text : List ℕ) (s n : CommandSide G) (status : ℕ) : Type 0 where
  Undone : DoesNothing status s n → RefusesNone outside workers map text s n status
  Unformed : (at : ℕ) → IsRefusedFrom text at → RefusesNone outside workers map text s n status
  Unjudged : StopsLong outside (File workers ∷ File map ∷ []) → RefusesNone outside workers map text s n status
  Accepted : (site : AcceptedSite) → AreFound outside workers map (found.Site site) → RefusesNone outside workers map text s n status

-- What `serve` hands on beside its end: of files that are refused what it found of them, however their line was written.
abbrev pub HandsOn : {G : Type 0} → CommandOutside → (workers map text : List ℕ) → (s n : CommandSide G) → (status : ℕ) → Option SiteFound → Type 0
HandsOn outside workers map text s n status None = RefusesNone outside workers map text s n status
HandsOn outside workers map text s n status (Some f) = AreFound outside workers map f × (is_refused f ≡ true)

-- The application of a container of this route: it asks for no secret, and a packet has at most 8,192 bytes.
pub record IsAppOf (route : List ℕ) (app : AppConfig) : Type 0 where
  pub name : app.route ≡ route
  pub secret : app.secret ≡ None
  pub packet : app.packet ≡ 8192

-- The workers of a container of this route were wanted of the world.
pub record ContainsLinks {W G C S O X Z L : Type 0} (told : Tells W G C S O X Z) (route : List ℕ) (threads : ℕ) (wanted : GearWants) (s n : WorldSide G) (ended : CommandEnd L) : Type 0 where
  pub app : AppConfig
  pub is : IsAppOf route app
  pub works : Works threads (RunsContainer told app threads wanted) s n ended

-- `container ROUTE ADDRESS THREADS`. Nothing was written.
pub record Contains {W G C S O X Z L : Type 0} (told : Tells W G C S O X Z) (route : List ℕ) (threads : ℕ) (wanted : GearWants) (s n : CommandSide G) (ended : CommandEnd L) : Type 0 where
  pub contained : ContainsLinks told route threads wanted s.world n.world ended
  pub output : KeepsOutput s n

-- ---- the same of what a command goes over, as it was before and is after it

-- what the gears of `serve` are wanted for
abbrev pub wants_by : ServeOrder → GearWants
wants_by order = wants order.address order.clients order.journal order.log order.limits order.control order.grace

-- The workers of a site were wanted.
abbrev pub WorksSite : {W G C S O X Z L : Type 0} → Tells W G C S O X Z → ServeOrder → List FormatPart → AcceptedSite → (before after : W) → CommandEnd L → Type 0
WorksSite told order format site before after ended =
    Works order.threads (RunsLogged told site.workers.config site.rules format order.threads (wants_by order)) (told.world before) (told.world after) ended

-- The workers of a container were wanted.
abbrev pub WorksContainer : {W G C S O X Z L : Type 0} → Tells W G C S O X Z → AppConfig → (threads : ℕ) → GearOrder → (before after : W) → CommandEnd L → Type 0
WorksContainer told app threads asked before after ended =
    Works threads (RunsContainer told app threads (wants_of asked)) (told.world before) (told.world after) ended

-- The workers of a container of this route were wanted.
abbrev pub ContainsAsked : {W G C S O X Z L : Type 0} → Tells W G C S O X Z → ContainerOrder → (before after : W) → CommandEnd L → Type 0
ContainsAsked told order before after ended =
    ContainsLinks told order.route.now order.threads (wants_of order.asked) (told.world before) (told.world after) ended

-- `serve` over its files, whatever the input.
abbrev pub ServesOrder : {F O W G C S Y X Z L : Type 0} → CommandTells F O W G C S Y X Z → ServeOrder → (before after : F × O × W) → CommandEnd L → Type 0
ServesOrder told order before after ended =
    OfFiles (told.files before.0) (λ outside. DoesServe told.world outside order.workers order.map (format_text order.format) order.threads (wants_by order)
    (command_side told before) (command_side told after) ended)

-- What `serve` hands on of its files, whatever the input.
abbrev pub HandsOnSite : {F O W G C S Y X Z : Type 0} → CommandTells F O W G C S Y X Z → ServeOrder → (before after : F × O × W) → (status : ℕ) → Option SiteFound → Type 0
HandsOnSite told order before after status site =
    OfFiles (told.files before.0) (λ outside. HandsOn outside order.workers order.map (format_text order.format)
    (command_side told before) (command_side told after) status site)
