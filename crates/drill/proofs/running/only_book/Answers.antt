-- The one Book has all entries that were added.
use Rattle.drill.proofs.ClosingLaws.{only_added, only_is}
use Rattle.drill.proofs.running.only_book.Goals as goal

pub returns-clause-added : goal.returns-clause-added
returns-clause-added c = only_added _ _ _ c.in-Some.ensures.some c.requires.one

pub returns-clause-only : goal.returns-clause-only
returns-clause-only c = only_is _ _ _ c.in-Some.ensures.some c.requires.one
