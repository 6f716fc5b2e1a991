-- The plain commands: which orders they are, what they read, what they print, and the site that they judge.
use Rattle.std.specs.Prelude.{◌≡◌, ℕ, Bool, true, false, ◌⊎◌, List, [], ◌∷◌, Option, Some, None, IsSomeAnd, codes, if◌then◌else◌}
use Rattle.std.specs.Str.{bytes_eq}
use Rattle.jk_io.specs.Told.{appended, PutsFront}
use Rattle.jk_cli.specs.declared.order.Order.{Order}
use Rattle.jk_cli.specs.declared.order.Order.TheVariants as order
use Rattle.play_script.specs.Play.{PlaysScript}
use Rattle.request_log.specs.Formats.{IsFormat}
use Rattle.request_log.specs.declared.format.Part.{Part}
use Rattle.plain_commands.specs.Dry.{ReportsDry, ReportsLog, default_map, default_workers}
use Rattle.plain_commands.specs.Logged.{RefusesFormat}
use Rattle.site_reports.specs.Found.{FindsSite, FindsWorkers, is_refused}
use Rattle.site_reports.specs.Reports.{ReportsConfig, ReportsMatches, ReportsSite}
use Rattle.site_reports.specs.declared.found.SiteFound.{SiteFound}
use Rattle.plain_commands.specs.Checked.{ChecksText}
use Rattle.plain_commands.specs.FollowedTexts.{FollowsText}
use Rattle.site_reports.specs.Readings.{CommandOutside, Reading, File, Input, AreRead, StopsLong, has_input, before_input}

-- The plain commands that are built; each other order is none of them.
abbrev pub is_plain : Order → Bool
is_plain order.Play = true
is_plain (order.Config workers map) = true
is_plain (order.Match workers map verbose) = true
is_plain (order.Dry request reply site) = true
is_plain order.Check = true
is_plain order.Follow = true
is_plain (order.Log format request reply workers map) = true
is_plain (order.Stop path) = true
is_plain other = false

-- The readings of a command, in the order of its words, and its input last.
abbrev pub readings : Order → List Reading
readings order.Play = Input ∷ []
readings (order.Config workers None) = File workers ∷ []
readings (order.Config workers (Some map)) = File workers ∷ File map ∷ []
readings (order.Match workers map verbose) = File workers ∷ File map ∷ Input ∷ []
readings (order.Dry request reply None) = File request ∷ File reply ∷ []
readings (order.Dry request reply (Some site)) = File request ∷ File reply ∷ File site.0 ∷ File site.1 ∷ []
readings order.Check = Input ∷ []
readings order.Follow = Input ∷ []
readings (order.Log format request reply workers map) = File request ∷ File reply ∷ File workers ∷ File map ∷ []
readings (order.Stop path) = File path ∷ []
readings other = []

-- A command has an input, and each of its files is there and not too long, as far as files are told: else no input is read.
abbrev pub InputIsDue : CommandOutside → Order → Type 0
InputIsDue outside o =
    (has_input (readings o) ≡ true) × ((texts : List (List ℕ)) × AreRead outside (before_input (readings o)) texts)

-- A log's format is one; of other commands nothing is asked.
abbrev pub HasFormat : Order → Type 0
HasFormat (order.Log format request reply workers map) = (parts : List Part) × IsFormat format parts
HasFormat other = Unit {0}

-- The status of a report.
abbrev pub status_if : (refused : Bool) → ℕ
status_if refused = if refused then 3 else 0

-- A site is judged: it is of the texts that were read, the report on it is printed, and the status says whether it is refused.
abbrev pub Reported : (Finds : SiteFound → Type 0) → (reports : List ℕ → Bool → Type 0) → (out : List ℕ) → (status : ℕ) → Option SiteFound → Type 0
Reported Finds reports out status site =
    IsSomeAnd site (λ f. Finds f × reports out (is_refused f) × (status ≡ status_if (is_refused f)))

-- The paths that `match` reads, after both files.
abbrev pub MatchesRead : (workers map : List ℕ) → (verbose : Bool) → (texts : List (List ℕ)) → (out : List ℕ) → (status : ℕ) → Option SiteFound → Type 0
MatchesRead workers map verbose (paths ∷ []) out status site =
    Reported (FindsSite workers map) (ReportsMatches workers map paths verbose) out status site
MatchesRead workers map verbose texts out status site = ⊥

-- The files of a client and of a member, over the site of no files.
abbrev pub DryAlone : (request reply : List ℕ) → (out : List ℕ) → (status : ℕ) → Option SiteFound → Type 0
DryAlone request reply out status site =
    Reported (FindsSite default_workers default_map) (ReportsDry request reply default_workers default_map) out status site

-- The two files of a site, after those of a client and of a member.
abbrev pub DryOver : (request reply : List ℕ) → (texts : List (List ℕ)) → (out : List ℕ) → (status : ℕ) → Option SiteFound → Type 0
DryOver request reply (workers ∷ map ∷ []) out status site =
    Reported (FindsSite workers map) (ReportsDry request reply workers map) out status site
DryOver request reply texts out status site = ⊥

-- The two files of a site, after those of a client and of a member, in this format.
abbrev pub LogOver : (format : List Part) → (request reply : List ℕ) → (texts : List (List ℕ)) → (out : List ℕ) → (status : ℕ) → Option SiteFound → Type 0
LogOver format request reply (workers ∷ map ∷ []) out status site =
    Reported (FindsSite workers map) (ReportsLog format request reply workers map) out status site
LogOver format request reply texts out status site = ⊥

abbrev pub LogOf : (format : List Part) → (texts : List (List ℕ)) → (out : List ℕ) → (status : ℕ) → Option SiteFound → Type 0
LogOf format (request ∷ reply ∷ texts) out status site = LogOver format request reply texts out status site
LogOf format texts out status site = ⊥

-- The answer of a front that was told to end: nothing is printed, and the status says whether it ended.
abbrev pub StopsFront : (answer : List ℕ) → (out : List ℕ) → (status : ℕ) → Type 0
StopsFront answer out status = (out ≡ []) × (status ≡ (if bytes_eq answer (codes "ended\n") then 0 else 4))

-- The output of a command for the texts that it read, its status, and the site that it judged of them.
abbrev pub AnswersOrder : Order → (texts : List (List ℕ)) → (out : List ℕ) → (status : ℕ) → Option SiteFound → Type 0
AnswersOrder order.Play (script ∷ []) out status site = PlaysScript script out status × (site ≡ None)
AnswersOrder (order.Config w None) (workers ∷ []) out status site =
    Reported (FindsWorkers workers) (ReportsConfig workers) out status site
AnswersOrder (order.Config w (Some m)) (workers ∷ map ∷ []) out status site =
    Reported (FindsSite workers map) (ReportsSite workers map) out status site
AnswersOrder (order.Match w m verbose) (workers ∷ map ∷ texts) out status site = MatchesRead workers map verbose texts out status site
AnswersOrder (order.Dry q p None) (request ∷ reply ∷ []) out status site = DryAlone request reply out status site
AnswersOrder (order.Dry q p (Some files)) (request ∷ reply ∷ texts) out status site = DryOver request reply texts out status site
AnswersOrder order.Check (text ∷ []) out status site = ChecksText text out status × (site ≡ None)
AnswersOrder order.Follow (text ∷ []) out status site = FollowsText text out status × (site ≡ None)
AnswersOrder (order.Stop path) (answer ∷ []) out status site = StopsFront answer out status × (site ≡ None)
AnswersOrder other texts out status site = ⊥

-- The output for texts, its status, and the site that was judged. All are read whole before one is judged; if one is too long,
-- that alone is printed, and none is.
abbrev pub PrintsOf : CommandOutside → List Reading → (List (List ℕ) → List ℕ → ℕ → Option SiteFound → Type 0) → (out : List ℕ) → (status : ℕ) → Option SiteFound → Type 0
PrintsOf outside readings Of out status site =
    (StopsLong outside readings × (out ≡ codes "too long\n") × (status ≡ 3) × (site ≡ None))
    ⊎ ((texts : List (List ℕ)) × AreRead outside readings texts × Of texts out status site)

-- A log's format is judged before any file is read.
abbrev pub PrintsLog : CommandOutside → (format : List ℕ) → List Reading → (out : List ℕ) → (status : ℕ) → Option SiteFound → Type 0
PrintsLog outside format readings out status site =
    (RefusesFormat format out status × (site ≡ None))
    ⊎ ((parts : List Part) × IsFormat format parts × PrintsOf outside readings (LogOf parts) out status site)

-- The output of a command, its status, and the site that it judged.
abbrev pub Plain : CommandOutside → Order → (out : List ℕ) → (status : ℕ) → Option SiteFound → Type 0
Plain outside (order.Log format request reply workers map) out status site =
    PrintsLog outside format (File request ∷ File reply ∷ File workers ∷ File map ∷ []) out status site
Plain outside o out status site = PrintsOf outside (readings o) (AnswersOrder o) out status site

-- Just what the command prints was written, and this is the site that it judged.
pub record Prints (command : Order) (outside : CommandOutside) (sent sent_now : Option (List ℕ)) (status : ℕ) (site : Option SiteFound) : Type 0 where
  pub text : List ℕ
  pub plain : Plain outside command text status site
  pub written : sent_now ≡ appended sent text

-- The command ends with this status, of what it read.
pub record EndsByStatus (command : Order) (outside : CommandOutside) (status : ℕ) : Type 0 where
  pub text : List ℕ
  pub site : Option SiteFound
  pub plain : Plain outside command text status site

-- A front of what the command prints was written.
pub record PrintsFront (command : Order) (outside : CommandOutside) (sent sent_now : Option (List ℕ)) : Type 0 where
  pub text : List ℕ
  pub status : ℕ
  pub site : Option SiteFound
  pub plain : Plain outside command text status site
  pub written : PutsFront sent sent_now text
