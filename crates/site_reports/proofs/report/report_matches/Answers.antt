use Rattle.std.proofs.Common.{◌≡◌, []}
use Rattle.site_reports.specs.Matches.{match_text}
use Rattle.site_reports.proofs.ReportLemmas.{site_printed}
use Rattle.site_reports.proofs.report.report_matches.Goals as goal

pub returns-clause-text : goal.returns-clause-text
returns-clause-text c =
    site_printed (λ config out. out ≡ []) (λ config rules out. out ≡ match_text config rules c.args.verbose c.args.paths.now) c.args.workers c.args.map
    c.in_ok-text.text c.in_ok-found.found c.in_ok-found.ensures c.in_ok-text.ensures
