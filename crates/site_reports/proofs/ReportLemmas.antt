-- The report of the files that were found, by their texts.
use Rattle.std.proofs.Common.{◌≡◌, ℕ, false, true, List, Result, inl, inr, refl, sym, subst}
use Rattle.site_config.specs.declared.config.Config.{Config}
use Rattle.site_mounts.specs.declared.error.MapRefusal.{MapRefusal}
use Rattle.site_mounts.specs.declared.rule.Rule.{Rule}
use Rattle.site_reports.specs.Found.{FindsSite, FindsWorkers, PrintsFound, is_refused}
use Rattle.site_reports.specs.Reports.{OfRules, OfSite, OfWorkers}
use Rattle.site_reports.specs.declared.found.SiteFound.{SiteFound}
use Rattle.site_reports.specs.declared.found.SiteFound.TheVariants as found

-- of a workers.properties alone
pub workers_printed : (Alone : Config → List ℕ → Type 0) (Of : Config → List Rule → List ℕ → Type 0) (workers out : List ℕ) (f : SiteFound)
    → FindsWorkers workers f → PrintsFound Alone Of f out → OfWorkers workers (λ c out refused. Alone c out × (refused ≡ false)) out (is_refused f)
workers_printed Alone Of workers out (found.Workers w) finds prints = inr (w.config, finds.1, (prints, refl))
workers_printed Alone Of workers out (found.Site s) finds prints = absurd finds
workers_printed Alone Of workers out (found.WorkersRefused r) finds prints = inl (r.refusal, finds.1, (prints, refl))
workers_printed Alone Of workers out (found.MapRefused r) finds prints = absurd finds

-- of both files
pub site_printed : (Alone : Config → List ℕ → Type 0) (Of : Config → List Rule → List ℕ → Type 0) (workers map out : List ℕ) (f : SiteFound)
    → FindsSite workers map f → PrintsFound Alone Of f out → OfSite workers map Of out (is_refused f)
site_printed Alone Of workers map out (found.Workers w) finds prints = absurd finds
site_printed Alone Of workers map out (found.Site s) (text, is, second, read) prints =
    inr (s.workers.config, is, subst (λ (r : Result (List Rule) MapRefusal). OfRules (Of s.workers.config) r out false) (sym read) (prints, refl))
site_printed Alone Of workers map out (found.WorkersRefused r) finds prints = inl (r.refusal, finds.1, (prints, refl))
site_printed Alone Of workers map out (found.MapRefused r) (text, is, second, read) prints =
    inr (r.workers.config, is, subst (λ (x : Result (List Rule) MapRefusal). OfRules (Of r.workers.config) x out true) (sym read) (prints, refl))
