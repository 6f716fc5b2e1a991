use Rattle.std.proofs.Common.{None, inl, inr, refl}
use Rattle.jkd.proofs.demo.contain_demo.Goals as goal

pub returns-in-Ok : goal.returns-in-Ok
returns-in-Ok g c = record {
  contains = λ files held. inr (rw (held, c.in-Ok.ensures) at (c.run_jkd-run.ensures.serves (rw c.in-Ok.ensures refl) None));
}

pub returns-in-Err : goal.returns-in-Err
returns-in-Err g c = record { contains = λ files held. inl (refl, refl) }
