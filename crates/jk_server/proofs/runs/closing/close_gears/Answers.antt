use Rattle.std.proofs.Common.{inl, map}
use Rattle.jk_server.proofs.runs.closing.close_gears.Goals as goal

pub returns-in-Ok : goal.returns-in-Ok
returns-in-Ok g c =
    c.close_books.ensures g.L.SiteName.sizes g.L.SiteName.firsts g.L.SiteName.starts (map (λ l. l.seat) c.args.leaving)
    (record { sited = c.in-Ok.ensures.sited; history = c.in-Ok.ensures.whole })

pub returns-in-Err-Differs : goal.returns-in-Err-Differs
returns-in-Err-Differs g c = ((_, _, rw c.in-Err-Differs.field-0-is at c.in-Err-Differs.ensures.differs), c.clear.ensures.items)

pub returns-in-Err-NoMemory : goal.returns-in-Err-NoMemory
returns-in-Err-NoMemory g c = inl c.clear-in-Err-NoMemory.ensures.items

pub close_books-requires-clause-few : goal.close_books-requires-clause-few
close_books-requires-clause-few g c = c.in-Ok.ensures.sited.few
