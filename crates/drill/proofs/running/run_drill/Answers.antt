use Rattle.drill.proofs.running.run_drill.Goals as goal

pub returns-clause-summary : goal.returns-clause-summary
returns-clause-summary g c = c.tell.ensures.summary

pub returns-clause-journal : goal.returns-clause-journal
returns-clause-journal g c = c.tell.ensures.journal

pub returns-clause-drilled : goal.returns-clause-drilled
returns-clause-drilled g c = c.tell.ensures.drilled

pub returns-clause-book : goal.returns-clause-book
returns-clause-book g c = c.tell.ensures.book

pub returns-clause-cause : goal.returns-clause-cause
returns-clause-cause g c = c.tell.ensures.cause

pub returns-clause-bodies : goal.returns-clause-bodies
returns-clause-bodies g c = c.tell.ensures.bodies

pub returns-clause-receipts : goal.returns-clause-receipts
returns-clause-receipts g c = c.tell.ensures.receipts

pub returns-clause-compared : goal.returns-clause-compared
returns-clause-compared g c = c.tell.ensures.compared
