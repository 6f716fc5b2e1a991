use Rattle.std.proofs.Common.{[], ◌∷◌, None}
use Rattle.plain_commands.specs.Plain.{DryOver}
use Rattle.site_reports.specs.Found.{FindsSite}
use Rattle.site_reports.specs.Readings.{File}
use Rattle.plain_commands.specs.Dry.{ReportsDry}
use Rattle.plain_commands.proofs.PlainLemmas.{just_kept, long_ok, printed_ok, read_ok}
use Rattle.plain_commands.proofs.dry.dry_site.Goals as goal

pub returns-in-None-clause-ok : goal.returns-in-None-clause-ok
returns-in-None-clause-ok g c =
    long_ok (λ incoming. record { files = g.F.Files.files c.args.files.now; incoming = incoming }) (File c.args.workers.now ∷ File c.args.map.now ∷ []) (DryOver c.args.wire.request.now c.args.wire.reply.now) c.too_long.result c.too_long.ensures.said
    (λ incoming. rw c.in-None.is at (c.in_ok-read_pair.ensures.long incoming))

pub returns-in-None-clause-cause : goal.returns-in-None-clause-cause
returns-in-None-clause-cause g c = just_kept _ _ _ _ c.in_ok-read_pair.ensures.cause c.too_long.ensures.failed

pub report_dry-requires : goal.report_dry-requires
report_dry-requires g c =
    let read = rw c.in-Some.is at (c.in_ok-read_pair.ensures.there None) in
    record { short = (read.0.1, read.1.0.1) }

pub returns-in-Some-clause-ok : goal.returns-in-Some-clause-ok
returns-in-Some-clause-ok g c =
    read_ok (λ incoming. record { files = g.F.Files.files c.args.files.now; incoming = incoming }) (File c.args.workers.now ∷ File c.args.map.now ∷ []) (c.in-Some.workers ∷ c.in-Some.map ∷ []) (DryOver c.args.wire.request.now c.args.wire.reply.now) c.printed.result
    (λ incoming. rw c.in-Some.is at (c.in_ok-read_pair.ensures.there incoming))
    (printed_ok (FindsSite c.in-Some.workers c.in-Some.map) (ReportsDry c.args.wire.request.now c.args.wire.reply.now c.in-Some.workers c.in-Some.map) c.report_dry.result c.printed.result
    c.report_dry.ensures.found c.report_dry.ensures.text c.printed.ensures.ok)

pub returns-in-Some-clause-cause : goal.returns-in-Some-clause-cause
returns-in-Some-clause-cause g c = just_kept _ _ _ _ c.in_ok-read_pair.ensures.cause c.printed.ensures.failed
