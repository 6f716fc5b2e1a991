use Rattle.drill.proofs.ClosingLaws.{measured_whole}
use Rattle.drill.proofs.running.drilled_book.Goals as goal

pub returns-in-Ok-clause-measured : goal.returns-in-Ok-clause-measured
returns-in-Ok-clause-measured g c =
    measured_whole c.args.plan.seed c.args.plan.threads c.args.plan.requests c.in-Ok.compared.bodies c.in-Ok.compared.books c.whole.result c.whole.ensures.book
    c.whole.ensures.only c.whole.ensures.kept c.whole.ensures.bodies c.whole.ensures.receipts c.in-Ok.ensures.begins c.in-Ok.ensures.once

pub returns-in-Ok-clause-cause : goal.returns-in-Ok-clause-cause
returns-in-Ok-clause-cause g c = c.whole.ensures.cause _ _ _
