use Rattle.journal_verdict.proofs.SegmentFacts.{ends_at}
use Rattle.journal_verdict.proofs.segment.ending_of.Goals as goal

pub returns : goal.returns
returns c = ends_at c.args.book.now c.cut_off.new.book c.opening_of.result c.in_ok-cut_off.ensures c.opening_of.ensures
