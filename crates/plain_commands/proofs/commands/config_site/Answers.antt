use Rattle.std.proofs.Common.{[], ◌∷◌, None, Some}
use Rattle.plain_commands.specs.Plain.{AnswersOrder}
use Rattle.jk_cli.specs.declared.order.Order.TheVariants as order
use Rattle.site_reports.specs.Found.{FindsSite}
use Rattle.site_reports.specs.Readings.{File}
use Rattle.site_reports.specs.Reports.{ReportsSite}
use Rattle.plain_commands.proofs.PlainLemmas.{just_kept, long_ok, printed_ok, read_ok}
use Rattle.plain_commands.proofs.commands.config_site.Goals as goal

pub returns-in-None-clause-ok : goal.returns-in-None-clause-ok
returns-in-None-clause-ok g c =
    long_ok (λ incoming. record { files = g.F.Files.files c.args.files.now; incoming = incoming }) (File c.args.workers.now ∷ File c.args.map.now ∷ []) (AnswersOrder (order.Config c.args.workers.now (Some c.args.map.now))) c.too_long.result c.too_long.ensures.said
    (λ incoming. rw c.in-None.is at (c.in_ok-read_pair.ensures.long incoming))

pub returns-in-None-clause-cause : goal.returns-in-None-clause-cause
returns-in-None-clause-cause g c = just_kept _ _ _ _ c.in_ok-read_pair.ensures.cause c.too_long.ensures.failed

pub report_site-requires : goal.report_site-requires
report_site-requires g c =
    let read = rw c.in-Some.is at (c.in_ok-read_pair.ensures.there None) in
    record { short = (read.0.1, read.1.0.1) }

pub returns-in-Some-clause-ok : goal.returns-in-Some-clause-ok
returns-in-Some-clause-ok g c =
    read_ok (λ incoming. record { files = g.F.Files.files c.args.files.now; incoming = incoming }) (File c.args.workers.now ∷ File c.args.map.now ∷ []) (c.in-Some.workers ∷ c.in-Some.map ∷ []) (AnswersOrder (order.Config c.args.workers.now (Some c.args.map.now))) c.printed.result
    (λ incoming. rw c.in-Some.is at (c.in_ok-read_pair.ensures.there incoming))
    (printed_ok (FindsSite c.in-Some.workers c.in-Some.map) (ReportsSite c.in-Some.workers c.in-Some.map) c.report_site.result c.printed.result
    c.report_site.ensures.found c.report_site.ensures.text c.printed.ensures.ok)

pub returns-in-Some-clause-cause : goal.returns-in-Some-clause-cause
returns-in-Some-clause-cause g c = just_kept _ _ _ _ c.in_ok-read_pair.ensures.cause c.printed.ensures.failed
