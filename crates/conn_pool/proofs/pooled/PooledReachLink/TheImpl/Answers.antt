-- To be told what is awaited changes nothing that a reach tells.
use Rattle.std.proofs.Common.{refl, ap}
use Rattle.conn_pool.specs.Reaches.{beside_of, PooledState}
use Rattle.conn_pool.proofs.pooled.PooledReachLink.TheImpl.Goals as goal

pub await_next-tells : goal.await_next-tells
await_next-tells g c =
    let is = c.ensures.same in
    record {
      heard = c.ensures.told;
      same_bytes = (refl, ap (λ (r : PooledState _ _ _). g.T.Tape.received r.tape) is, ap (λ (r : PooledState _ _ _). g.T.Tape.sent r.tape) is);
      same = (ap (λ (r : PooledState _ _ _). beside_of g.T.Tape.begun g.T.Tape.talks r) is, ap (λ (r : PooledState _ _ _). r.faults) is);
    }
