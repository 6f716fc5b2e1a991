use Rattle.std.proofs.Common.{◌≡◌, []}
use Rattle.site_reports.proofs.ReportLemmas.{site_printed}
use Rattle.plain_commands.specs.Dry.{Dries}
use Rattle.plain_commands.proofs.session.report.report_dry.Goals as goal

pub returns-clause-text : goal.returns-clause-text
returns-clause-text c =
    site_printed (λ cfg out. out ≡ []) (λ cfg rules out. Dries cfg rules c.args.wire.request.now c.args.wire.reply.now out) c.args.workers c.args.map c.in_ok-text.text c.in_ok-found.found c.in_ok-found.ensures c.in_ok-text.ensures
