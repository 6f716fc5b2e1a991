-- The reports of `config` and `match` on the texts of a site's files, whether one of these is refused, and the line that refuses
-- the files themselves.
use Rattle.std.specs.Prelude.{◌≡◌, ℕ, Bool, true, false, List, [], ◌∷◌, ◌++◌, ◌⊎◌, Result, Ok, Err, codes, decimal}
use Rattle.site_config.specs.declared.error.PropsRefusal.{PropsRefusal}
use Rattle.site_config.specs.Refusals as workers
use Rattle.site_config.specs.Refusals.{LineRefusal}
use Rattle.site_config.specs.declared.config.Config.{Config}
use Rattle.site_mounts.specs.Lines.{read_text}
use Rattle.site_mounts.specs.Refusals as maps
use Rattle.site_mounts.specs.declared.error.MapRefusal.{MapRefusal}
use Rattle.site_mounts.specs.Mounts.{line_count}
use Rattle.site_mounts.specs.declared.rule.Rule.{Rule}
use Rattle.site_workers.specs.Site.{IsConfig, IsRefusedText}
use Rattle.site_reports.specs.ConfigText.{config_text}
use Rattle.site_reports.specs.Matches.{match_text}
use Rattle.site_reports.specs.Readings.{AreRead, CommandOutside, File, StopsLong}

-- a refusal as it is printed
abbrev pub refusal_line : (file : List ℕ) → LineRefusal → List ℕ
refusal_line file r = file ++ codes " line " ++ decimal r.line ++ codes ": refusal " ++ decimal r.code ++ codes "\n"

-- the first refusal of a workers.properties, and of a uriworkermap.properties
abbrev pub workers_refusal_line : PropsRefusal → List ℕ
workers_refusal_line r = refusal_line (codes "workers") (workers.numbered r)

abbrev pub map_refusal_line : MapRefusal → List ℕ
map_refusal_line r = refusal_line (codes "map") (maps.numbered r)

abbrev pub rules_line : List Rule → List ℕ
rules_line rules = codes "rules " ++ decimal (line_count rules) ++ codes "\n"

-- a file was refused: its line alone is printed
abbrev pub PrintsRefusal : (line out : List ℕ) → (refused : Bool) → Type 0
PrintsRefusal line out refused = (out ≡ line) × (refused ≡ true)

-- the refusal of a workers.properties, or what is printed of its configuration
abbrev pub OfWorkers : (workers : List ℕ) → (Config → List ℕ → Bool → Type 0) → (out : List ℕ) → (refused : Bool) → Type 0
OfWorkers workers of out refused =
    ((r : PropsRefusal) × IsRefusedText workers r × PrintsRefusal (workers_refusal_line r) out refused)
    ⊎ ((c : Config) × IsConfig workers c × of c out refused)

-- the refusal of a uriworkermap.properties, or what is printed of its rules
abbrev pub OfRules : (List Rule → (out : List ℕ) → Type 0) → Result (List Rule) MapRefusal → (out : List ℕ) → (refused : Bool) → Type 0
OfRules of (Err r) out refused = PrintsRefusal (map_refusal_line r) out refused
OfRules of (Ok rules) out refused = of rules out × (refused ≡ false)

-- the refusal of either file, or what is printed of the configuration and the rules
abbrev pub OfSite : (workers map : List ℕ) → (Config → List Rule → (out : List ℕ) → Type 0) → (out : List ℕ) → (refused : Bool) → Type 0
OfSite workers map of out refused = OfWorkers workers (λ c out refused. OfRules (of c) (read_text c map) out refused) out refused

-- `config` of a workers.properties alone
abbrev pub ReportsConfig : (workers out : List ℕ) → (refused : Bool) → Type 0
ReportsConfig workers out refused = OfWorkers workers (λ c out refused. (out ≡ config_text c) × (refused ≡ false)) out refused

-- `config` of both files
abbrev pub ReportsSite : (workers map out : List ℕ) → (refused : Bool) → Type 0
ReportsSite workers map out refused =
    OfSite workers map (λ c rules out. out ≡ config_text c ++ rules_line rules) out refused

-- `match` of both files and a list of paths
abbrev pub ReportsMatches : (workers map paths : List ℕ) → (verbose : Bool) → (out : List ℕ) → (refused : Bool) → Type 0
ReportsMatches workers map paths verbose out refused =
    OfSite workers map (λ c rules out. out ≡ match_text c rules verbose paths) out refused

-- the first of a site's two files that isn't read whole is too long
pub record IsSiteTooLong (outside : CommandOutside) (workers map line : List ℕ) : Type 0 where
  pub long : StopsLong outside (File workers ∷ File map ∷ [])
  pub said : line ≡ codes "too long\n"

-- both are read whole, and `config` refuses them
pub record IsSiteRefused (outside : CommandOutside) (workers map line : List ℕ) : Type 0 where
  pub workers_text : List ℕ
  pub map_text : List ℕ
  pub read : AreRead outside (File workers ∷ File map ∷ []) (workers_text ∷ map_text ∷ [])
  pub refused : ReportsSite workers_text map_text line true

-- The files of these names are refused by this line.
abbrev pub RefusesSite : CommandOutside → (workers map : List ℕ) → (line : List ℕ) → Type 0
RefusesSite outside workers map line = IsSiteTooLong outside workers map line ⊎ IsSiteRefused outside workers map line
