use Rattle.drill.specs.Summaries.{IsJournalText}
use Rattle.drill.proofs.ClosingLaws.{some_is}
use Rattle.drill.proofs.running.tell.Goals as goal

pub returns-clause-journal : goal.returns-clause-journal
returns-clause-journal c = λ wanted.
    some_is (IsJournalText c.args.measured.book) c.in_ok-text.field-0 c.in-Some.text c.in-Some.is (c.in_ok-text.ensures.journal wanted)
