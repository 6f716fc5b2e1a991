use Rattle.std.proofs.Common.{map}
use Rattle.std.proofs.lemmas.Result.{err_from_is_err_and}
use Rattle.ajp_wire.proofs.HeaderLoop.{goes_on, ends, is_done}
use Rattle.ajp_wire.proofs.headers.next_header_list.Goals as goal

pub returns-in_err-header : goal.returns-in_err-header
returns-in_err-header c =
    let p = err_from_is_err_and c.from_residual-in_err-header.result c.from_residual-in_err-header.ensures.1 in
    rw (p.1, p.2) (ends c.in_err-header.field-0.0 (map (λ name. name.now) c.args.table.now) c.args.absent_names c.loop.headers.items c.args.count c.loop.counter c.loop.rest.now _ c.loop-test.true c.in_err-header.ensures c.loop.invariant)

pub loop-preserved : goal.loop-preserved
loop-preserved c =
    rw c.in_ok-push.ensures.items (goes_on (map (λ name. name.now) c.args.table.now) c.args.absent_names c.loop.headers.items c.args.count c.loop.counter c.loop.rest.now _ c.in_ok-header.after.now _ c.loop-test.true c.in_ok-header.ensures c.loop.invariant)

pub returns : goal.returns
returns c = rw c.from_vec.ensures (is_done (map (λ name. name.now) c.args.table.now) c.args.absent_names c.loop.headers.items c.args.count c.loop.counter c.loop.rest.now _ c.loop-test.false c.loop.invariant)
