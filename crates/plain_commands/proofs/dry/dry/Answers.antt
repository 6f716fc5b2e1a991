use Rattle.std.proofs.Common.{refl}
use Rattle.plain_commands.proofs.DryLemmas.{dry_stops, session_ok}
use Rattle.plain_commands.proofs.PlainLemmas.{just_kept, long_ok}
use Rattle.plain_commands.specs.Plain.{readings, AnswersOrder}
use Rattle.jk_cli.specs.declared.order.Order.TheVariants as order
use Rattle.plain_commands.proofs.dry.dry.Goals as goal

pub returns-in-None-clause-ok : goal.returns-in-None-clause-ok
returns-in-None-clause-ok g c =
    long_ok (λ incoming. record { files = g.F.Files.files c.args.files.now; incoming = incoming }) (readings (order.Dry c.args.request.now c.args.reply.now c.args.site.now)) (AnswersOrder (order.Dry c.args.request.now c.args.reply.now c.args.site.now)) c.too_long.result c.too_long.ensures.said
    (λ incoming. dry_stops _ c.args.request.now c.args.reply.now c.args.site.now (rw c.in-None.is at (c.in_ok-read_pair.ensures.long incoming)))

pub returns-in-None-clause-cause : goal.returns-in-None-clause-cause
returns-in-None-clause-cause g c = just_kept _ _ _ _ c.in_ok-read_pair.ensures.cause c.too_long.ensures.failed

pub returns-in-Some-clause-ok : goal.returns-in-Some-clause-ok
returns-in-Some-clause-ok g c =
    session_ok _ c.args.request.now c.args.reply.now c.args.site.now c.in-Some.request c.in-Some.reply c.dry_over.result
    (λ incoming. rw c.in-Some.is at (c.in_ok-read_pair.ensures.there incoming))
    (rw (c.read_pair.ensures.same, c.as_slice.ensures, c.as_slice-in-Some.ensures) at c.dry_over.ensures.ok)

pub returns-in-Some-clause-cause : goal.returns-in-Some-clause-cause
returns-in-Some-clause-cause g c = rw (c.in_ok-read_pair.ensures.cause.steady refl) at c.dry_over.ensures.cause
