use Rattle.std.proofs.Common.{◌≡◌, rules}
use Rattle.journal_verdict.proofs.JudgeFacts.{follows}
use Rattle.journal_verdict.proofs.judging.judge.Goals as goal

-- the kept answer is the one that is ruled
pub returns-in-Answer : goal.returns-in-Answer
returns-in-Answer c =
    let same : c.in-Answer.answer ≡ c.args.entry.now.answer = search rules in
    follows c.args.entry.now c.args.book.now c.rule.new.book c.in-Answer.answer same (rw c.in-Answer.is at c.in_ok-ruled.ensures)
