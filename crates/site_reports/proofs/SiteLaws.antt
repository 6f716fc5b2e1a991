-- A site's files, judged.
use Rattle.std.proofs.Common.{ℕ, ◌≡◌, true, List, ◌++◌, Option, Some, None, inl, inr, refl}
use Rattle.site_reports.specs.Readings.{CommandOutside, File, IsRead}
use Rattle.site_reports.specs.ConfigText.{config_text}
use Rattle.site_reports.specs.Found.{FindsSite, is_refused, refusing_line}
use Rattle.site_reports.specs.Reports.{RefusesSite, ReportsSite, rules_line}
use Rattle.site_reports.proofs.ReportLemmas.{site_printed}
use Rattle.site_reports.specs.Sites.{IsFoundRefused, IsJudgedSite, Judges}
use Rattle.site_reports.specs.declared.found.SiteFound.{SiteFound}
use Rattle.site_reports.specs.declared.found.SiteFound.TheVariants as found
use Rattle.site_reports.specs.declared.reading.Judged.{Judged}
use Rattle.site_reports.specs.declared.reading.Judged.TheVariants as judged

-- the first refusal of what was found is what `config` prints
refused_prints : (workers map : List ℕ) (f : SiteFound) → FindsSite workers map f → is_refused f ≡ true → ReportsSite workers map (refusing_line (Some f)) true
refused_prints workers map (found.Workers w) finds is = absurd finds
refused_prints workers map (found.Site s) finds is = cc
refused_prints workers map (found.WorkersRefused r) finds is =
    site_printed (λ c out. ⊥) (λ c rules out. out ≡ config_text c ++ rules_line rules) workers map (refusing_line (Some (found.WorkersRefused r))) (found.WorkersRefused r) finds refl
refused_prints workers map (found.MapRefused r) finds is =
    site_printed (λ c out. ⊥) (λ c rules out. out ≡ config_text c ++ rules_line rules) workers map (refusing_line (Some (found.MapRefused r))) (found.MapRefused r) finds refl

-- files are refused by the line of what was found of them
pub refused_by_line : (outside : CommandOutside) (workers map : List ℕ) (f : Option SiteFound) → IsFoundRefused outside workers map f → RefusesSite outside workers map (refusing_line f)
refused_by_line outside workers map None long = inl (record { long = long; said = refl })
refused_by_line outside workers map (Some f) is = inr (record {
  workers_text = is.0.workers_text;
  map_text = is.0.map_text;
  read = is.0.read;
  refused = refused_prints is.0.workers_text is.0.map_text f is.0.finds is.1;
})

-- both files were read whole, and their texts were judged
pub judged_so : (outside : CommandOutside) (workers map workers_text map_text : List ℕ) (j : Judged) → IsRead outside (File workers) workers_text → IsRead outside (File map) map_text
    → Judges workers_text map_text j → IsJudgedSite outside workers map j
judged_so outside workers map workers_text map_text (judged.Site site) first second j =
    record { workers_text = workers_text; map_text = map_text; read = (first, (second, tt)); finds = j }
judged_so outside workers map workers_text map_text (judged.Refused None) first second j = absurd j
judged_so outside workers map workers_text map_text (judged.Refused (Some f)) first second j =
    (record { workers_text = workers_text; map_text = map_text; read = (first, (second, tt)); finds = j.0 }, j.1)
