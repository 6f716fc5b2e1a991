use Rattle.std.proofs.Common.{ℕ, List, Option, IfOk, sym, subst}
use Rattle.jk_cli.specs.declared.order.Order.TheVariants as order
use Rattle.plain_commands.specs.Endings.{PlainOfFiles}
use Rattle.plain_commands.proofs.commands.config.Goals as goal

pub returns-in-None-clause-ok : goal.returns-in-None-clause-ok
returns-in-None-clause-ok g c =
    subst (λ (map : Option (List ℕ)). IfOk c.config_workers.result (λ o. PlainOfFiles (g.F.Files.files c.args.files.now) (order.Config c.args.workers.now map) o))
    (sym c.in-None.is) c.config_workers.ensures.ok

pub returns-in-Some-clause-ok : goal.returns-in-Some-clause-ok
returns-in-Some-clause-ok g c =
    subst (λ (map : Option (List ℕ)). IfOk c.config_site.result (λ o. PlainOfFiles (g.F.Files.files c.args.files.now) (order.Config c.args.workers.now map) o))
    (sym c.in-Some.is) c.config_site.ensures.ok
