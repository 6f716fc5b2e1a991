use Rattle.std.proofs.Common.{ℕ, List, Option, inr, refl}
use Rattle.jk_cli.specs.declared.order.Order.TheVariants as order
use Rattle.plain_commands.specs.Endings.{OfAnswer}
use Rattle.plain_commands.specs.Plain.{Plain}
use Rattle.plain_commands.specs.declared.answered.PlainAnswer.{PlainAnswer}
use Rattle.plain_commands.proofs.PlainLemmas.{check_due, config_has_file, follow_due, play_due, said_of}
use Rattle.plain_commands.proofs.commands.answer.Goals as goal

pub returns-in-Play-clause-ok : goal.returns-in-Play-clause-ok
returns-in-Play-clause-ok g c =
    rw c.in-Play.is (said_of (λ (files : Option (List (List ℕ × List ℕ))) (o : PlainAnswer). OfAnswer (Plain (record { files = files; incoming = g.S.Meanings.incoming c.args.input.now }) order.Play) o)
    (g.F.Files.files c.args.files.now) c.play_input.result c.play_input.ensures.ok)

pub returns-in-Config-clause-ok : goal.returns-in-Config-clause-ok
returns-in-Config-clause-ok g c =
    rw c.in-Config.is (said_of (λ (incoming : Option (List ℕ)) (o : PlainAnswer). OfAnswer (Plain (record { files = g.F.Files.files c.args.files.now; incoming = incoming }) (order.Config c.in-Config.workers c.in-Config.map)) o)
    (g.S.Meanings.incoming c.args.input.now) c.config.result c.config.ensures.ok)

pub returns-in-Play-clause-input : goal.returns-in-Play-clause-input
returns-in-Play-clause-input g c =
    inr (rw c.in-Play.is (play_due (record { files = g.F.Files.files c.args.files.now; incoming = g.S.Meanings.incoming c.args.input.now })))

pub returns-in-Config-clause-files : goal.returns-in-Config-clause-files
returns-in-Config-clause-files g c = inr (rw c.in-Config.is (config_has_file c.in-Config.workers c.in-Config.map))

pub returns-in-Match-clause-files : goal.returns-in-Match-clause-files
returns-in-Match-clause-files g c = inr (rw c.in-Match.is refl)

pub returns-in-Match-clause-input : goal.returns-in-Match-clause-input
returns-in-Match-clause-input g c = rw c.in-Match.is c.match_paths.ensures.input

pub returns-in-Dry-clause-ok : goal.returns-in-Dry-clause-ok
returns-in-Dry-clause-ok g c =
    rw c.in-Dry.is (said_of (λ (incoming : Option (List ℕ)) (o : PlainAnswer). OfAnswer (Plain (record { files = g.F.Files.files c.args.files.now; incoming = incoming }) (order.Dry c.in-Dry.request c.in-Dry.reply c.in-Dry.site)) o)
    (g.S.Meanings.incoming c.args.input.now) c.dry.result c.dry.ensures.ok)

pub returns-in-Check-clause-ok : goal.returns-in-Check-clause-ok
returns-in-Check-clause-ok g c =
    rw c.in-Check.is (said_of (λ (files : Option (List (List ℕ × List ℕ))) (o : PlainAnswer). OfAnswer (Plain (record { files = files; incoming = g.S.Meanings.incoming c.args.input.now }) order.Check) o)
    (g.F.Files.files c.args.files.now) c.check_input.result c.check_input.ensures.ok)

pub returns-in-Check-clause-input : goal.returns-in-Check-clause-input
returns-in-Check-clause-input g c =
    inr (rw c.in-Check.is (check_due (record { files = g.F.Files.files c.args.files.now; incoming = g.S.Meanings.incoming c.args.input.now })))

pub returns-in-Stop-clause-ok : goal.returns-in-Stop-clause-ok
returns-in-Stop-clause-ok g c =
    rw c.in-Stop.is (said_of (λ (incoming : Option (List ℕ)) (o : PlainAnswer). OfAnswer (Plain (record { files = g.F.Files.files c.args.files.now; incoming = incoming }) (order.Stop c.in-Stop.path)) o)
    (g.S.Meanings.incoming c.args.input.now) c.stop_front.result c.stop_front.ensures.ok)

pub returns-in-Stop-clause-files : goal.returns-in-Stop-clause-files
returns-in-Stop-clause-files g c = inr (rw c.in-Stop.is refl)

pub returns-in-Follow-clause-ok : goal.returns-in-Follow-clause-ok
returns-in-Follow-clause-ok g c =
    rw c.in-Follow.is (said_of (λ (files : Option (List (List ℕ × List ℕ))) (o : PlainAnswer). OfAnswer (Plain (record { files = files; incoming = g.S.Meanings.incoming c.args.input.now }) order.Follow) o)
    (g.F.Files.files c.args.files.now) c.follow_input.result c.follow_input.ensures.ok)

pub returns-in-Follow-clause-input : goal.returns-in-Follow-clause-input
returns-in-Follow-clause-input g c =
    inr (rw c.in-Follow.is (follow_due (record { files = g.F.Files.files c.args.files.now; incoming = g.S.Meanings.incoming c.args.input.now })))

pub returns-in-Log-clause-ok : goal.returns-in-Log-clause-ok
returns-in-Log-clause-ok g c =
    rw c.in-Log.is (said_of (λ (incoming : Option (List ℕ)) (o : PlainAnswer). OfAnswer (Plain (record { files = g.F.Files.files c.args.files.now; incoming = incoming }) (order.Log c.in-Log.format c.in-Log.request c.in-Log.reply c.in-Log.workers c.in-Log.map)) o)
    (g.S.Meanings.incoming c.args.input.now) c.log.result c.log.ensures.ok)

pub returns-in-Log-clause-files : goal.returns-in-Log-clause-files
returns-in-Log-clause-files g c = inr (rw c.in-Log.is refl)

pub returns-in-Log-clause-format : goal.returns-in-Log-clause-format
returns-in-Log-clause-format g c = rw c.in-Log.is c.log.ensures.format
