use Rattle.std.proofs.Common.{arith}
use Rattle.journal_text.proofs.SegmentProps.{opening_valid}
use Rattle.journal_verdict.proofs.JoinFacts.{opening_long}
use Rattle.journal_verdict.proofs.segment.lines_before.Goals as goal

pub returns : goal.returns
returns c =
    omega (arith, opening_long c.args.counted.now.name c.args.counted.now.segment.opening (opening_valid c.args.counted.now.segment).rows.count, c.len.ensures, c.len-members.ensures)
