-- The output of `dry`, of texts that are read two by two.
use Rattle.std.proofs.Common.{◌≡◌, ℕ, List, [], ◌∷◌, Option, None, Some, Result, Ok, Err, IfOk, inl, inr, subst}
use Rattle.jk_cli.specs.declared.order.Order.TheVariants as order
use Rattle.site_reports.specs.declared.report.Report.{Report}
use Rattle.plain_commands.specs.Dry.{default_map, default_workers}
use Rattle.plain_commands.specs.Endings.{status_of, PlainOfFiles, PrintsOfFiles}
use Rattle.plain_commands.specs.Plain.{DryOver, Plain, PrintsOf, readings}
use Rattle.plain_commands.specs.Printed.{PrintsSession}
use Rattle.site_reports.specs.Readings.{AreRead, File, OfFiles, CommandOutside, StopsLong}
use Rattle.site_reports.specs.declared.found.SiteFound.{SiteFound}
use Rattle.plain_commands.specs.declared.answered.PlainAnswer.{PlainAnswer}
use Rattle.plain_commands.proofs.PlainLemmas.{stops_early}

-- the first two texts of `dry`, with a site and without
pub dry_stops : (outside : CommandOutside) (request reply : List ℕ) (site : Option (List ℕ × List ℕ)) → StopsLong outside (File request ∷ File reply ∷ [])
    → StopsLong outside (readings (order.Dry request reply site))
dry_stops outside request reply None long = long
dry_stops outside request reply (Some site) long = stops_early outside (File request) (File reply) (File site.0 ∷ File site.1 ∷ []) long

-- what a report on two texts says, it says of those of no files
pub default_ok : {E : Type 0} (P : (workers map : List ℕ) → Report → Type 0) (workers map : List ℕ) (result : Result Report E)
    → workers ≡ default_workers → map ≡ default_map → IfOk result (P workers map) → IfOk result (P default_workers default_map)
default_ok P workers map result first second says =
    subst (λ (m : List ℕ). IfOk result (P default_workers m)) second (subst (λ (w : List ℕ). IfOk result (P w map)) first says)

-- two texts, and what is printed of two more
pub then_site : (outside : CommandOutside) (request reply workers map q p out : List ℕ) (status : ℕ) (judged : Option SiteFound)
    → AreRead outside (File request ∷ File reply ∷ []) (q ∷ p ∷ []) → PrintsOf outside (File workers ∷ File map ∷ []) (DryOver q p) out status judged
    → Plain outside (order.Dry request reply (Some (workers, map))) out status judged
then_site outside request reply workers map q p out status judged (first, (second, end)) (inl (long, said, is, none)) =
    inl (inr (q, first, inr (p, second, long)), said, is, none)
then_site outside request reply workers map q p out status judged (first, (second, end)) (inr (texts, read, of)) =
    inr (q ∷ p ∷ texts, (first, (second, read)), of)

-- the same of an answer
pub site_ok : {E : Type 0} (files : Option (List (List ℕ × List ℕ))) (request reply workers map q p : List ℕ) (result : Result PlainAnswer E)
    → OfFiles files (λ outside. AreRead outside (File request ∷ File reply ∷ []) (q ∷ p ∷ []))
    → IfOk result (λ o. PrintsOfFiles files (File workers ∷ File map ∷ []) (DryOver q p) o)
    → IfOk result (λ o. PlainOfFiles files (order.Dry request reply (Some (workers, map))) o)
site_ok files request reply workers map q p (Ok o) read says =
    λ incoming. then_site (record { files = files; incoming = incoming }) request reply workers map q p o.output.text (status_of o.output.ending) o.site (read incoming) (says incoming)
site_ok files request reply workers map q p (Err e) read says = tt

-- and over the site of no files, or of these
pub session_ok : {E : Type 0} (files : Option (List (List ℕ × List ℕ))) (request reply : List ℕ) (site : Option (List ℕ × List ℕ)) (q p : List ℕ) (result : Result PlainAnswer E)
    → OfFiles files (λ outside. AreRead outside (File request ∷ File reply ∷ []) (q ∷ p ∷ []))
    → IfOk result (PrintsSession files q p site) → IfOk result (λ o. PlainOfFiles files (order.Dry request reply site) o)
session_ok files request reply None q p (Ok o) read says = λ incoming. inr (q ∷ p ∷ [], read incoming, says)
session_ok files request reply None q p (Err e) read says = tt
session_ok files request reply (Some (workers, map)) q p result read says = site_ok files request reply workers map q p result read says
