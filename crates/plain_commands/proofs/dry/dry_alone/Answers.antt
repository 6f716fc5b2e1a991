use Rattle.std.proofs.Common.{ℕ, List}
use Rattle.site_reports.specs.Found.{FindsSite, is_refused}
use Rattle.site_reports.specs.declared.report.Report.{Report}
use Rattle.plain_commands.specs.Dry.{ReportsDry, default_map, default_workers}
use Rattle.plain_commands.proofs.DryLemmas.{default_ok}
use Rattle.plain_commands.proofs.PlainLemmas.{printed_ok}
use Rattle.plain_commands.proofs.dry.dry_alone.Goals as goal

pub returns-clause-ok : goal.returns-clause-ok
returns-clause-ok c =
    let q = c.args.wire.request.now in
    let p = c.args.wire.reply.now in
    printed_ok (FindsSite default_workers default_map) (ReportsDry q p default_workers default_map) c.report_dry.result c.printed.result
    (default_ok (λ (w m : List ℕ) (r : Report). FindsSite w m r.found) _ _ c.report_dry.result c.in_ok-workers.ensures c.in_ok-map.ensures c.report_dry.ensures.found)
    (default_ok (λ (w m : List ℕ) (r : Report). ReportsDry q p w m r.text (is_refused r.found)) _ _ c.report_dry.result c.in_ok-workers.ensures c.in_ok-map.ensures
    c.report_dry.ensures.text)
    c.printed.ensures.ok

pub returns-clause-failed : goal.returns-clause-failed
returns-clause-failed c = c.printed.ensures.failed
