use Rattle.std.proofs.Common.{inr, refl}
use Rattle.site_config.specs.Entries.{as_properties}
use Rattle.site_workers.specs.Site.{RefusesWorkers}
use Rattle.site_reports.proofs.NoteLemmas.{are_notes}
use Rattle.site_reports.proofs.judging.judge_lines.Goals as goal

pub returns-in-Err-Refused : goal.returns-in-Err-Refused
returns-in-Err-Refused c = λ text read.
    let ps = as_properties c.args.lines.now in
    let stops : RefusesWorkers ps c.in-Err-Refused.refusal = rw c.in-Err-Refused.field-0-is at c.in-Err-Refused.ensures.refused in
    rw c.in-Err-Refused.field-0-is (inr (ps, read, stops), rw read refl)

pub returns-in_ok-notes-in-Ok : goal.returns-in_ok-notes-in-Ok
returns-in_ok-notes-in-Ok c = λ text read. (c.in-Ok.ensures.ok text read, are_notes text c.in-Ok.config (as_properties c.args.lines.now) c.in_ok-notes-in-Ok.notes read c.in_ok-notes-in-Ok.ensures)
