use Rattle.std.proofs.Common.{ℕ, List, IfOk, sym, subst}
use Rattle.plain_commands.specs.Dry.{Runs}
use Rattle.plain_commands.proofs.session.report.with_reach.Goals as goal

-- the reach has the reply of its type
pub returns-in-Ok : goal.returns-in-Ok
returns-in-Ok g c =
    subst (λ (reply : List ℕ). IfOk c.with_desk-told.result (λ r. Runs c.args.site.now.workers.config c.args.site.now.rules c.args.request.now reply r.lines r.rows.rows)) (sym c.requires.reply)
    c.with_desk-told.ensures
