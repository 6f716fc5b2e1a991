use Rattle.std.proofs.Common.{[], ◌∷◌, refl}
use Rattle.plain_commands.specs.Plain.{LogOf}
use Rattle.site_reports.specs.Readings.{File}
use Rattle.plain_commands.proofs.LogLemmas.{over_ok}
use Rattle.plain_commands.proofs.PlainLemmas.{just_kept, long_ok, stops_early}
use Rattle.plain_commands.proofs.log.log_over.Goals as goal

pub returns-in-None-clause-ok : goal.returns-in-None-clause-ok
returns-in-None-clause-ok g c =
    let n = c.args.names.now in
    long_ok (λ incoming. record { files = g.F.Files.files c.args.files.now; incoming = incoming })
    (File n.request.now ∷ File n.reply.now ∷ File n.workers.now ∷ File n.map.now ∷ []) (LogOf c.args.format.now) c.too_long.result c.too_long.ensures.said
    (λ incoming. stops_early (record { files = g.F.Files.files c.args.files.now; incoming = incoming }) (File n.request.now) (File n.reply.now) (File n.workers.now ∷ File n.map.now ∷ []) (rw c.in-None.is at (c.in_ok-read_pair.ensures.long incoming)))

pub returns-in-None-clause-cause : goal.returns-in-None-clause-cause
returns-in-None-clause-cause g c = just_kept _ _ _ _ c.in_ok-read_pair.ensures.cause c.too_long.ensures.failed

pub returns-in-Some-clause-ok : goal.returns-in-Some-clause-ok
returns-in-Some-clause-ok g c =
    let n = c.args.names.now in
    over_ok _ c.args.format.now n.request.now n.reply.now n.workers.now n.map.now c.in-Some.request c.in-Some.reply c.log_site.result
    (λ incoming. rw c.in-Some.is at (c.in_ok-read_pair.ensures.there incoming))
    (rw (c.read_pair.ensures.same, c.as_slice.ensures, c.as_slice-in-Some.ensures) at c.log_site.ensures.ok)

pub returns-in-Some-clause-cause : goal.returns-in-Some-clause-cause
returns-in-Some-clause-cause g c = rw (c.in_ok-read_pair.ensures.cause.steady refl) at c.log_site.ensures.cause
