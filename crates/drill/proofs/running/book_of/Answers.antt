-- Of a drill over a lock there is a receipt of each entry.
use Rattle.drill.proofs.ClosingLaws.{measured_locked}
use Rattle.drill.proofs.running.book_of.Goals as goal

pub returns-clause-measured : goal.returns-clause-measured
returns-clause-measured g c = measured_locked _ _ _ c.args.passes c.drilled_book.result c.if-passes.false c.drilled_book.ensures.measured
