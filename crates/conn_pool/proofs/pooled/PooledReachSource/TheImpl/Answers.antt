-- A reach doesn't tell what its link has to come, so what a source says of that holds of each answer.
use Rattle.std.proofs.Common.{Ok, Err, refl}
use Rattle.std.specs.Prelude.{Result, IfOk, OnErr}
use Rattle.conn_pool.proofs.pooled.PooledReachSource.TheImpl.Goals as goal

of_each : {T E : Type 0} (result : Result T E) (P : T → Type 0) → ((n : T) → P n) → IfOk result P
of_each (Ok n) P holds = holds n
of_each (Err e) P holds = tt

beside_that : {T E : Type 0} (result : Result T E) (P Q : Type 0) → P → OnErr result Q → OnErr result (P × Q)
beside_that (Ok n) P Q p q = tt
beside_that (Err e) P Q p q = (p, q)

pub read-tells : goal.read-tells
read-tells g c = record {
  count = c.ensures.count;
  gave = of_each c.result _ (λ n. refl);
  got = c.ensures.got;
  end = of_each c.result _ (λ n zero. tt);
  shut = c.ensures.shut;
  kept_on_error = beside_that c.result _ _ refl c.ensures.kept_on_error;
  same = c.ensures.same;
  cause = c.ensures.cause;
  steady = c.ensures.steady;
}
