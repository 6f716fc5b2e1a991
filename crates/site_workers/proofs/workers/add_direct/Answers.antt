use Rattle.std.proofs.Common.{◌<◌, length, arith}
use Rattle.site_workers.proofs.workers.add_direct.Goals as goal

pub returns-clause-ok : goal.returns-clause-ok
returns-clause-ok c =
    let room : length c.args.draft.now.lbs < 1024 = omega (arith, c.len.ensures, c.if-len-ge-MAX_BALANCERS.false) in
    (room, c.in_ok-lb.lb, c.in_ok-lb.ensures.lb, c.in_ok-put_lb.ensures)
