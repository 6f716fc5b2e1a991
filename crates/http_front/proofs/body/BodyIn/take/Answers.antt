-- A piece of the body, or a fault, by the moments before and after.
use Rattle.std.proofs.Common.{ap, Err, refl, rules, arith}
use Rattle.http_front.specs.State.{place_of, taken_of, most_of, failed_of}
use Rattle.http_front.specs.Wants.{Next}
use Rattle.http_front.proofs.MomentLemmas.{piece-taken, piece-failed, fault-again}
use Rattle.http_front.proofs.body.BodyIn.take.Goals as goal

pub returns-in-Some-clause-err : goal.returns-in-Some-clause-err
returns-in-Some-clause-err g c = fault-again _ (Next c.args.n) c.in-Some.fault c.in-Some.is

pub returns-in-Ok-clause-ok : goal.returns-in-Ok-clause-ok
returns-in-Ok-clause-ok g c =
    let e = c.in-Ok.ensures in
    piece-taken _ _ c.args.n _ (record { going = search rules; most = refl; sent = e.reads.same.0 }) e.ok (search rules) (omega (arith, c.saturating_add-self.ensures, c.len.ensures)) (e.reads.steady tt)

pub returns-in-Err-clause-err : goal.returns-in-Err-clause-err
returns-in-Err-clause-err g c =
    let e = c.in-Err.ensures in
    piece-failed _ _ c.args.n c.in-Err.fault (record {
      keeps = record { going = search rules; most = ap most_of c.break_off.ensures; sent = e.reads.same.0 };
      failed = ap failed_of c.break_off.ensures;
      taken = ap taken_of c.break_off.ensures;
      place = ap place_of c.break_off.ensures;
      fault = λ is. e.reads.fault (ap Err is);
      steady = λ calm. e.reads.steady calm;
      no_fewer = e.reads.no_fewer;
    }) e.err
