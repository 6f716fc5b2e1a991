use Rattle.std.proofs.Common.{sym, ◌∙◌}
use Rattle.journal_verdict.proofs.CheckerFacts.{ends_good, ends_unread}
use Rattle.journal_verdict.proofs.checker.Checker.end.Goals as goal

pub returns-then-whole : goal.returns-then-whole
returns-then-whole c = λ done taken.
    ends_good c.args.self done c.args.last.now c.verdict-said.result taken (sym c.may_end-whole.ensures ∙ c.if-whole.true) c.verdict-said.ensures

pub returns-else-whole : goal.returns-else-whole
returns-else-whole c = λ done taken. ends_unread c.args.self done c.args.last.now taken (sym c.may_end-whole.ensures ∙ c.if-whole.false)
