use Rattle.std.proofs.Common.{◌≡◌, ◌++◌}
use Rattle.site_reports.specs.ConfigText.{config_text}
use Rattle.site_reports.specs.Reports.{rules_line}
use Rattle.site_reports.proofs.ReportLemmas.{site_printed}
use Rattle.site_reports.proofs.report.report_site.Goals as goal

pub returns-clause-text : goal.returns-clause-text
returns-clause-text c =
    site_printed (λ config out. out ≡ config_text config) (λ config rules out. out ≡ config_text config ++ rules_line rules) c.args.workers c.args.map
    c.in_ok-text.text c.in_ok-found.found c.in_ok-found.ensures c.in_ok-text.ensures
