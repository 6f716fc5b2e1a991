use Rattle.std.proofs.Common.{◌∙◌, arith}
use Rattle.conn_pool.proofs.JudgeLaws.{begins, ends, judges_on}
use Rattle.conn_pool.proofs.judging.judge.Goals as goal

pub loop-left-init : goal.loop-left-init
loop-left-init g c =
    rw c.none-report.ensures (
    begins g.L.Meanings c.args.limit c.args.ping c.args.links _ _ c.len-left.ensures (c.from_vec-row.ensures.items ∙ c.into_vec.ensures))

pub loop-left-preserved : goal.loop-left-preserved
loop-left-preserved g c =
    judges_on g.L.Meanings c.args.limit c.args.ping c.args.links c.loop-left.left _ _ _ _ _ _ c.in-Some.link c.fate_of.result
    c.loop-left.invariant c.in-Some.ensures.items (omega (arith, c.loop-left-test.true)) c.fate_of.ensures c.settle.ensures.row c.settle.ensures.report

pub returns-clause-judged : goal.returns-clause-judged
returns-clause-judged g c =
    rw c.from_vec.ensures (rw c.into_vec-2.ensures.items (
    ends g.L.Meanings c.args.limit c.args.ping c.args.links _ _ _ c.loop-left.invariant (omega (arith, c.loop-left-test.false))).0)

pub returns-clause-few : goal.returns-clause-few
returns-clause-few g c =
    rw c.from_vec.ensures (rw c.into_vec-2.ensures.items (
    ends g.L.Meanings c.args.limit c.args.ping c.args.links _ _ _ c.loop-left.invariant (omega (arith, c.loop-left-test.false))).1)
