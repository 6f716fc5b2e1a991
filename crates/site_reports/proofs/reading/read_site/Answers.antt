use Rattle.site_reports.proofs.SiteLaws.{judged_so}
use Rattle.site_reports.proofs.reading.read_site.Goals as goal

pub returns-clause-ok : goal.returns-clause-ok
returns-clause-ok g c incoming =
    judged_so (record { files = g.F.Files.files c.args.files.now; incoming = incoming }) c.args.workers.now c.args.map.now c.in-Some.workers c.in-Some-2.map c.in_ok-judge.field-0
    (rw c.in-Some.is at c.in_ok-workers.ensures.there, rw c.in-Some.is at c.in_ok-workers.ensures.short)
    (rw (c.in-Some-2.is, c.in_ok-workers.ensures.same) at c.in_ok-map.ensures.there, rw c.in-Some-2.is at c.in_ok-map.ensures.short)
    c.in_ok-judge.ensures
