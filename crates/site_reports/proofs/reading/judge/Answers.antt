use Rattle.site_reports.proofs.reading.judge.Goals as goal

pub returns : goal.returns
returns c = c.judged_as.ensures c.args.workers c.args.map c.in_ok-judge_site.ensures
