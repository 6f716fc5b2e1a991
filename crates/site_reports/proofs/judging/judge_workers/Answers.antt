use Rattle.site_workers.specs.Site.{IsConfig}
use Rattle.site_reports.specs.Notes.{AreNotes}
use Rattle.site_reports.proofs.judging.judge_workers.Goals as goal

pub invariant_of-accepted-clause-noted : goal.invariant_of-accepted-clause-noted
invariant_of-accepted-clause-noted c =
    let judged : IsConfig c.args.text c.in-Accepted.config × AreNotes c.args.text c.in-Accepted.config c.in-Accepted.notes =
    rw (c.as_slice.ensures, c.in-Accepted.is) at c.in_ok-config.ensures in
    judged.1
