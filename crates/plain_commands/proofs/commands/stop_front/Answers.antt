use Rattle.std.proofs.Common.{[], ◌∷◌, inl, inr, sym, subst}
use Rattle.plain_commands.specs.Endings.{status_of}
use Rattle.plain_commands.specs.Plain.{AnswersOrder, StopsFront}
use Rattle.jk_cli.specs.declared.order.Order.TheVariants as order
use Rattle.site_reports.specs.Readings.{File}
use Rattle.plain_commands.specs.declared.play.Output.{Output}
use Rattle.plain_commands.proofs.PlainLemmas.{just_kept, long_ok}
use Rattle.plain_commands.proofs.commands.stop_front.Goals as goal

pub returns-in-None-clause-ok : goal.returns-in-None-clause-ok
returns-in-None-clause-ok g c =
    long_ok (λ incoming. record { files = g.F.Files.files c.args.files.now; incoming = incoming }) (File c.args.path.now ∷ []) (AnswersOrder (order.Stop c.args.path.now)) c.too_long.result c.too_long.ensures.said
    (λ incoming. inl (rw c.in-None.is at c.in_ok-read_text.ensures.long))

pub returns-in-None-clause-cause : goal.returns-in-None-clause-cause
returns-in-None-clause-cause g c = just_kept _ _ _ _ c.in_ok-read_text.ensures.cause c.too_long.ensures.failed

pub returns-in-Some-clause-ok : goal.returns-in-Some-clause-ok
returns-in-Some-clause-ok g c incoming =
    inr (
      c.in-Some.answer ∷ [],
      ((rw c.in-Some.is at c.in_ok-read_text.ensures.there, rw c.in-Some.is at c.in_ok-read_text.ensures.short), tt),
      (
        subst (λ (o : Output). StopsFront c.in-Some.answer o.text (status_of o.ending)) (sym c.alone.ensures.output) (rw c.as_slice.ensures at c.stopped.ensures),
        c.alone.ensures.site,
      ),
    )
