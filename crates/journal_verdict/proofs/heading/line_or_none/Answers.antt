use Rattle.journal_verdict.proofs.heading.line_or_none.Goals as goal
use Rattle.journal_verdict.proofs.HeadingLaws.{line_found, line_missed}
use Rattle.std.proofs.Common.{arith}

pub returns-then-at-count_lines : goal.returns-then-at-count_lines
returns-then-at-count_lines c v = line_found v c.args.name.now c.args.opening.now c.args.at c.line_at.result (c.line_at.ensures v)

pub returns : goal.returns
returns c v = line_missed v c.args.name.now c.args.opening.now c.args.at c.new.result c.new.ensures c.requires (omega (arith, c.if-at-count_lines.false, c.count_lines.ensures))
