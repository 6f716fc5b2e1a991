-- The output of `log`, of its format and its four texts.
use Rattle.std.proofs.Common.{◌≡◌, ℕ, List, [], ◌∷◌, Option, None, Result, Ok, Err, IfOk, inl, inr}
use Rattle.jk_cli.specs.declared.order.Order.TheVariants as order
use Rattle.request_log.specs.Formats.{IsFormat, IsRefusedFrom, refusal_line}
use Rattle.request_log.specs.declared.format.Part.{Part}
use Rattle.plain_commands.specs.Endings.{status_of, LogOfFiles, PrintsOfFiles}
use Rattle.plain_commands.specs.Plain.{LogOf, LogOver, PrintsOf}
use Rattle.site_reports.specs.Readings.{AreRead, File, OfFiles, CommandOutside}
use Rattle.site_reports.specs.declared.found.SiteFound.{SiteFound}
use Rattle.plain_commands.specs.declared.answered.PlainAnswer.{PlainAnswer}

-- two texts, and what is printed of two more
then_over : (outside : CommandOutside) (format : List Part) (request reply workers map q p out : List ℕ) (status : ℕ) (judged : Option SiteFound)
    → AreRead outside (File request ∷ File reply ∷ []) (q ∷ p ∷ []) → PrintsOf outside (File workers ∷ File map ∷ []) (LogOver format q p) out status judged
    → PrintsOf outside (File request ∷ File reply ∷ File workers ∷ File map ∷ []) (LogOf format) out status judged
then_over outside format request reply workers map q p out status judged (first, (second, end)) (inl (long, said, is, none)) =
    inl (inr (q, first, inr (p, second, long)), said, is, none)
then_over outside format request reply workers map q p out status judged (first, (second, end)) (inr (texts, read, of)) =
    inr (q ∷ p ∷ texts, (first, (second, read)), of)

-- the same of an answer
pub over_ok : {E : Type 0} (files : Option (List (List ℕ × List ℕ))) (format : List Part) (request reply workers map q p : List ℕ) (result : Result PlainAnswer E)
    → OfFiles files (λ outside. AreRead outside (File request ∷ File reply ∷ []) (q ∷ p ∷ []))
    → IfOk result (λ o. PrintsOfFiles files (File workers ∷ File map ∷ []) (LogOver format q p) o)
    → IfOk result (λ o. PrintsOfFiles files (File request ∷ File reply ∷ File workers ∷ File map ∷ []) (LogOf format) o)
over_ok files format request reply workers map q p (Ok o) read says =
    λ incoming. then_over (record { files = files; incoming = incoming }) format request reply workers map q p o.output.text (status_of o.output.ending) o.site (read incoming) (says incoming)
over_ok files format request reply workers map q p (Err e) read says = tt

-- after a format that is one
pub logged_ok : {E : Type 0} (files : Option (List (List ℕ × List ℕ))) (format request reply workers map : List ℕ) (parts : List Part) (result : Result PlainAnswer E)
    → IsFormat format parts → IfOk result (λ o. PrintsOfFiles files (File request ∷ File reply ∷ File workers ∷ File map ∷ []) (LogOf parts) o)
    → IfOk result (LogOfFiles files (order.Log format request reply workers map))
logged_ok files format request reply workers map parts (Ok o) is says = λ incoming. inr (parts, is, says incoming)
logged_ok files format request reply workers map parts (Err e) is says = tt

-- and after one that is refused
pub refused_ok : {E : Type 0} (files : Option (List (List ℕ × List ℕ))) (format request reply workers map : List ℕ) (at : ℕ) (result : Result PlainAnswer E)
    → IsRefusedFrom format at → IfOk result (λ a. (a.output.text ≡ refusal_line at) × (status_of a.output.ending ≡ 3) × (a.site ≡ None))
    → IfOk result (LogOfFiles files (order.Log format request reply workers map))
refused_ok files format request reply workers map at (Ok o) is (text, status, none) = λ incoming. inl ((at, is, text, status), none)
refused_ok files format request reply workers map at (Err e) is says = tt
