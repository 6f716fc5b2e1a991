use Rattle.std.proofs.Common.{[], ◌∷◌, None, inl}
use Rattle.plain_commands.specs.Plain.{AnswersOrder}
use Rattle.jk_cli.specs.declared.order.Order.TheVariants as order
use Rattle.site_reports.specs.Found.{FindsWorkers}
use Rattle.site_reports.specs.Readings.{File}
use Rattle.site_reports.specs.Reports.{ReportsConfig}
use Rattle.plain_commands.proofs.PlainLemmas.{just_kept, long_ok, printed_ok, read_ok}
use Rattle.plain_commands.proofs.commands.config_workers.Goals as goal

pub returns-in-None-clause-ok : goal.returns-in-None-clause-ok
returns-in-None-clause-ok g c =
    long_ok (λ incoming. record { files = g.F.Files.files c.args.files.now; incoming = incoming }) (File c.args.workers.now ∷ []) (AnswersOrder (order.Config c.args.workers.now None)) c.too_long.result c.too_long.ensures.said
    (λ incoming. inl (rw c.in-None.is at c.in_ok-read_text.ensures.long))

pub returns-in-None-clause-cause : goal.returns-in-None-clause-cause
returns-in-None-clause-cause g c = just_kept _ _ _ _ c.in_ok-read_text.ensures.cause c.too_long.ensures.failed

pub returns-in-Some-clause-ok : goal.returns-in-Some-clause-ok
returns-in-Some-clause-ok g c =
    read_ok (λ incoming. record { files = g.F.Files.files c.args.files.now; incoming = incoming }) (File c.args.workers.now ∷ []) (c.in-Some.workers ∷ []) (AnswersOrder (order.Config c.args.workers.now None)) c.printed.result
    (λ incoming. ((rw c.in-Some.is at c.in_ok-read_text.ensures.there, rw c.in-Some.is at c.in_ok-read_text.ensures.short), tt))
    (printed_ok (FindsWorkers c.in-Some.workers) (ReportsConfig c.in-Some.workers) c.report_config.result c.printed.result
    c.report_config.ensures.found c.report_config.ensures.text c.printed.ensures.ok)

pub returns-in-Some-clause-cause : goal.returns-in-Some-clause-cause
returns-in-Some-clause-cause g c = just_kept _ _ _ _ c.in_ok-read_text.ensures.cause c.printed.ensures.failed
