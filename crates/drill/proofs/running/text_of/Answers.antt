use Rattle.std.proofs.Common.{◌≡◌, List, subst}
use Rattle.std.specs.Prelude.{IfOk, IfSome, codes}
use Rattle.lb_model.specs.declared.journal.Entry.{Entry}
use Rattle.journal_text.specs.SegmentText.{segment_text}
use Rattle.drill.specs.Summaries.{IsJournalText, summary_text}
use Rattle.drill.proofs.ClosingLaws.{some_weaker}
use Rattle.drill.proofs.running.text_of.Goals as goal

pub returns-clause-summary : goal.returns-clause-summary
returns-clause-summary c = λ wanted.
    subst
    (λ (h : List Entry). IfOk c.text_in.result (λ t. IfSome t (λ bytes.
    bytes ≡ summary_text c.args.plan.seed c.args.plan.threads c.args.plan.requests c.args.wanted.passes h)))
    c.in_ok-segment.ensures.whole.entries (c.text_in.ensures.summary wanted)

pub returns-clause-journal : goal.returns-clause-journal
returns-clause-journal c = λ wanted.
    some_weaker (λ bytes. bytes ≡ segment_text (codes "lb") c.in_ok-segment.segment) (IsJournalText c.args.book.now) c.text_in.result
    (λ bytes told. (c.in_ok-segment.segment, c.in_ok-segment.ensures.whole, told)) (c.text_in.ensures.journal wanted)
