use Rattle.std.proofs.Common.{◌≡◌, ◌++◌}
use Rattle.site_reports.specs.ConfigText.{config_text}
use Rattle.site_reports.specs.Reports.{rules_line}
use Rattle.site_reports.proofs.ReportLemmas.{workers_printed}
use Rattle.site_reports.proofs.report.report_config.Goals as goal

pub returns-clause-text : goal.returns-clause-text
returns-clause-text c =
    workers_printed (λ config out. out ≡ config_text config) (λ config rules out. out ≡ config_text config ++ rules_line rules) c.args.workers
    c.in_ok-text.text c.in_ok-found.found c.in_ok-found.ensures c.in_ok-text.ensures
