use Rattle.conn_pool.proofs.JudgeLaws.{Judging}
use Rattle.conn_pool.proofs.judging.judge.Given as goal

abbrev pub invariant-loop-left : goal.invariant-loop-left
invariant-loop-left g l = Judging g.L.Meanings l.limit l.ping l.fn.links l.left l.row.items l.report

abbrev pub decreases-loop-left : goal.decreases-loop-left
decreases-loop-left g l = l.left
