-- A reach doesn't tell what its link has to come, so a write leaves that as it was.
use Rattle.std.proofs.Common.{◌∙◌, Bool, refl, ap}
use Rattle.conn_pool.specs.Reaches.{beside_of, PooledState}
use Rattle.conn_pool.proofs.pooled.PooledReachSink.TheImpl.Goals as goal

pub write-tells : goal.write-tells
write-tells g c = record {
  count = c.ensures.count;
  put = c.ensures.put;
  shut = c.ensures.shut;
  kept_on_error = c.ensures.kept_on_error;
  same = (refl, c.ensures.same.0, c.ensures.same.1);
  cause = c.ensures.cause;
  steady = c.ensures.steady;
}

pub flush-tells : goal.flush-tells
flush-tells g c =
    let is = c.ensures.same_others in
    let runs = ap (λ (b : Bool). record (beside_of g.T.Tape.begun g.T.Tape.talks c.args.self.now) { runs = b }) c.ensures.runs in
    record {
      same_sent = ap (λ (r : PooledState _ _ _). g.T.Tape.sent r.tape) is;
      same = (refl, ap (λ (r : PooledState _ _ _). g.T.Tape.received r.tape) is, ap (λ (r : PooledState _ _ _). beside_of g.T.Tape.begun g.T.Tape.talks r) is ∙ runs);
      cause = c.ensures.cause;
      steady = c.ensures.steady;
    }
