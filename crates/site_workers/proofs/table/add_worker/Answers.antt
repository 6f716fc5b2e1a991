use Rattle.site_workers.proofs.table.add_worker.Goals as goal

pub returns-in-Some : goal.returns-in-Some
returns-in-Some c = rw c.in-Some.ensures.some.1 c.add_name.ensures
