use Rattle.std.proofs.Common.{arith}
use Rattle.journal_verdict.proofs.joining.count_lines.Goals as goal

pub overflow_add-result : goal.overflow_add-result
overflow_add-result c = omega (arith, c.len.ensures, c.len-2.ensures, c.requires.room, c.args.opening.now.config.count.few)

pub overflow_add-result-2 : goal.overflow_add-result-2
overflow_add-result-2 c = omega (arith, c.len.ensures, c.len-2.ensures, c.requires.room, c.args.opening.now.config.count.few)
