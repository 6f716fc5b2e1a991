use Rattle.std.proofs.Common.{arith}
use Rattle.std.proofs.lemmas.Option.{slice_get-get_or}
use Rattle.journal_verdict.proofs.JudgeFacts.{first_wrong, kept_all, kept_more, kept_none}
use Rattle.journal_verdict.proofs.judging.judge_entries.Goals as goal

pub loop-i-init : goal.loop-i-init
loop-i-init c = kept_none c.args.book.now c.args.entries.now c.args.at c.requires.sound c.requires.empty c.requires.at

-- the Book went on by the entry at this place
pub loop-i-preserved : goal.loop-i-preserved
loop-i-preserved c =
    let follows = rw c.in_default.is at c.in_ok-kept.ensures in
    kept_more c.args.book.now.rules c.args.book.now.opening c.args.entries.now c.loop-i.i c.loop-i.at c.loop-i.book c.judge.new.book _ follows
    c.loop-i.invariant (slice_get-get_or c.args.entries.now c.loop-i.i _ (omega arith))

-- it is the first that differs
pub returns-in-Some : goal.returns-in-Some
returns-in-Some c =
    first_wrong c.args.book.now.rules c.args.book.now.opening c.args.entries.now c.loop-i.i c.loop-i.at c.loop-i.book c.judge.new.book _ c.in-Some.kept c.in-Some.ruled
    (slice_get-get_or c.args.entries.now c.loop-i.i _ (omega arith)) c.loop-i.invariant (rw c.in-Some.is at c.in_ok-kept.ensures)

pub returns : goal.returns
returns c = kept_all c.args.book.now c.loop-i.book c.args.entries.now c.loop-i.i c.loop-i.at c.loop-i.invariant (omega arith)
