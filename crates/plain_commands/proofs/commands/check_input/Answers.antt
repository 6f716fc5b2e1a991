use Rattle.std.proofs.Common.{[], ◌∷◌, inl, inr, sym, subst}
use Rattle.plain_commands.specs.Checked.{ChecksText}
use Rattle.plain_commands.specs.Endings.{status_of}
use Rattle.plain_commands.specs.Plain.{AnswersOrder}
use Rattle.jk_cli.specs.declared.order.Order.TheVariants as order
use Rattle.site_reports.specs.Readings.{Input}
use Rattle.plain_commands.specs.declared.play.Output.{Output}
use Rattle.plain_commands.proofs.PlainLemmas.{just_kept, long_ok}
use Rattle.plain_commands.proofs.commands.check_input.Goals as goal

pub returns-in_ok-check-in-Some-clause-ok : goal.returns-in_ok-check-in-Some-clause-ok
returns-in_ok-check-in-Some-clause-ok g c files =
    inr (
      c.in-Some.text ∷ [],
      ((rw c.in-Some.is at c.in_ok-read_input.ensures.there, rw c.in-Some.is at c.in_ok-read_input.ensures.short), tt),
      (
        subst (λ (o : Output). ChecksText c.in-Some.text o.text (status_of o.ending)) (sym c.alone.ensures.output) (rw c.as_slice.ensures at c.in_ok-check-in-Some.ensures),
        c.alone.ensures.site,
      ),
    )

pub returns-in-None-clause-ok : goal.returns-in-None-clause-ok
returns-in-None-clause-ok g c =
    long_ok (λ files. record { files = files; incoming = g.S.Meanings.incoming c.args.input.now }) (Input ∷ []) (AnswersOrder order.Check) c.too_long.result c.too_long.ensures.said
    (λ files. inl (rw c.in-None.is at c.in_ok-read_input.ensures.long))

pub returns-in-None-clause-cause : goal.returns-in-None-clause-cause
returns-in-None-clause-cause g c = just_kept _ _ _ _ c.in_ok-read_input.ensures.cause c.too_long.ensures.failed
