use Rattle.remarks.proofs.remarks.site_remarks.Goals as goal

pub returns-in-Workers : goal.returns-in-Workers
returns-in-Workers g c = rw c.in-Workers.is c.put_workers.ensures

pub returns-in-Site : goal.returns-in-Site
returns-in-Site g c = rw c.in-Site.is c.put_accepted.ensures

pub returns-in-WorkersRefused : goal.returns-in-WorkersRefused
returns-in-WorkersRefused g c = rw c.in-WorkersRefused.is c.put_refused_workers.ensures

pub returns-in-MapRefused : goal.returns-in-MapRefused
returns-in-MapRefused g c = rw c.in-MapRefused.is c.put_refused_map.ensures
