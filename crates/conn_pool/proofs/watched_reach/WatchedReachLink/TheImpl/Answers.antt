-- To be told what is awaited changes nothing that a reach tells.
use Rattle.std.proofs.Common.{refl, ap}
use Rattle.conn_pool.specs.Reaches.{beside_of}
use Rattle.conn_pool.specs.Watched.{WatchedState}
use Rattle.conn_pool.proofs.watched_reach.WatchedReachLink.TheImpl.Goals as goal

pub await_next-tells : goal.await_next-tells
await_next-tells g c =
    let is = c.ensures.watch in
    record {
      heard = c.ensures.told;
      same_bytes = (refl, ap (λ (w : WatchedState _ _ _). g.T.Tape.received w.pooled.tape) is, ap (λ (w : WatchedState _ _ _). g.T.Tape.sent w.pooled.tape) is);
      same = (ap (λ (w : WatchedState _ _ _). beside_of g.T.Tape.begun g.T.Tape.talks w.pooled) is, ap (λ (w : WatchedState _ _ _). w.pooled.faults) is);
    }
