-- A rest changes nothing that a reach tells but its looks.
use Rattle.std.proofs.Common.{refl, ap}
use Rattle.conn_pool.specs.Reaches.{beside_of, PooledState}
use Rattle.conn_pool.proofs.WatchLaws.{looks_so}
use Rattle.conn_pool.proofs.watched_reach.WatchedReachReach.TheImpl.Goals as goal

pub rest-tells : goal.rest-tells
rest-tells g c =
    let is = c.ensures.pooled in
    record {
      looks = looks_so _ _ _ c.ensures.watch;
      same = (refl, ap (λ (r : PooledState _ _ _). g.T.Tape.received r.tape) is);
      same_others =
          (ap (λ (r : PooledState _ _ _). g.T.Tape.sent r.tape) is, ap (λ (r : PooledState _ _ _). beside_of g.T.Tape.begun g.T.Tape.talks r) is);
      same_faults = ap (λ (r : PooledState _ _ _). r.faults) is;
    }
