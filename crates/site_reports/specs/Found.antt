-- The judgement of a site's two files, and what a command prints of them.
use Rattle.std.specs.Prelude.{◌≡◌, ℕ, Bool, true, false, List, [], Option, Some, None, Ok, Err, codes}
use Rattle.site_config.specs.declared.config.Config.{Config}
use Rattle.site_mounts.specs.Lines.{read_text}
use Rattle.site_mounts.specs.declared.rule.Rule.{Rule}
use Rattle.site_workers.specs.Site.{IsConfig, IsRefusedText}
use Rattle.site_reports.specs.Reports.{map_refusal_line, workers_refusal_line}
use Rattle.site_reports.specs.declared.found.AcceptedWorkers.{AcceptedWorkers}
use Rattle.site_reports.specs.declared.found.SiteFound.{SiteFound}
use Rattle.site_reports.specs.declared.found.SiteFound.TheVariants as found

-- a file is refused
abbrev pub is_refused : SiteFound → Bool
is_refused (found.Workers w) = false
is_refused (found.Site s) = false
is_refused (found.WorkersRefused r) = true
is_refused (found.MapRefused r) = true

-- a workers.properties of this text
abbrev pub FindsWorkers : (workers : List ℕ) → SiteFound → Type 0
FindsWorkers workers (found.Workers w) = (w.text ≡ workers) × IsConfig workers w.config
FindsWorkers workers (found.Site s) = ⊥
FindsWorkers workers (found.WorkersRefused r) = (r.text ≡ workers) × IsRefusedText workers r.refusal
FindsWorkers workers (found.MapRefused r) = ⊥

-- a map of this text, over an accepted workers.properties
abbrev pub FindsMap : AcceptedWorkers → (map : List ℕ) → SiteFound → Type 0
FindsMap workers map (found.Workers w) = ⊥
FindsMap workers map (found.Site s) = (s.workers ≡ workers) × (s.map ≡ map) × (read_text workers.config map ≡ Ok s.rules)
FindsMap workers map (found.WorkersRefused r) = ⊥
FindsMap workers map (found.MapRefused r) =
    (r.workers ≡ workers) × (r.text ≡ map) × (read_text workers.config map ≡ Err r.refusal)

-- both files, of these texts
abbrev pub FindsSite : (workers map : List ℕ) → SiteFound → Type 0
FindsSite workers map (found.Workers w) = ⊥
FindsSite workers map (found.Site s) =
    (s.workers.text ≡ workers) × IsConfig workers s.workers.config × (s.map ≡ map) × (read_text s.workers.config map ≡ Ok s.rules)
FindsSite workers map (found.WorkersRefused r) = (r.text ≡ workers) × IsRefusedText workers r.refusal
FindsSite workers map (found.MapRefused r) =
    (r.workers.text ≡ workers) × IsConfig workers r.workers.config × (r.text ≡ map) × (read_text r.workers.config map ≡ Err r.refusal)

-- the line that refuses files of which this was found; nothing was where one is too long to be judged
abbrev pub refusing_line : Option SiteFound → List ℕ
refusing_line None = codes "too long\n"
refusing_line (Some (found.Workers w)) = []
refusing_line (Some (found.Site s)) = []
refusing_line (Some (found.WorkersRefused r)) = workers_refusal_line r.refusal
refusing_line (Some (found.MapRefused r)) = map_refusal_line r.refusal

-- What is printed: of a workers.properties alone what `Alone` says of its configuration, of both files what `Of` says of the
-- configuration and the rules, and of a file that is refused the line of its first refusal.
abbrev pub PrintsFound : (Alone : Config → List ℕ → Type 0) → (Of : Config → List Rule → List ℕ → Type 0) → SiteFound → (out : List ℕ) → Type 0
PrintsFound Alone Of (found.Workers w) out = Alone w.config out
PrintsFound Alone Of (found.Site s) out = Of s.workers.config s.rules out
PrintsFound Alone Of (found.WorkersRefused r) out = out ≡ workers_refusal_line r.refusal
PrintsFound Alone Of (found.MapRefused r) out = out ≡ map_refusal_line r.refusal

-- of both files, where nothing is printed of a workers.properties alone
abbrev pub PrintsSite : (Of : Config → List Rule → List ℕ → Type 0) → SiteFound → (out : List ℕ) → Type 0
PrintsSite Of f out = PrintsFound (λ c out. out ≡ []) Of f out
