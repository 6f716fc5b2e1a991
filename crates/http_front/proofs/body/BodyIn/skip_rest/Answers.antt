-- The end of the body, or a fault, by the moments before and after.
use Rattle.std.proofs.Common.{ap, Err, refl, rules}
use Rattle.http_front.specs.State.{place_of, taken_of, most_of, failed_of}
use Rattle.http_front.specs.Wants.{Rest}
use Rattle.http_front.proofs.MomentLemmas.{rest-passed, rest-failed, fault-again}
use Rattle.http_front.proofs.body.BodyIn.skip_rest.Goals as goal

pub returns-in-Some-clause-err : goal.returns-in-Some-clause-err
returns-in-Some-clause-err g c = fault-again _ Rest c.in-Some.fault c.in-Some.is

pub returns-in-Ok-clause-ok : goal.returns-in-Ok-clause-ok
returns-in-Ok-clause-ok g c =
    let e = c.in-Ok.ensures in
    rest-passed _ _ (record { going = search rules; most = refl; sent = e.reads.same.0 }) e.ok (search rules) (e.reads.steady tt)

pub returns-in-Err-clause-err : goal.returns-in-Err-clause-err
returns-in-Err-clause-err g c =
    let e = c.in-Err.ensures in
    rest-failed _ _ c.in-Err.fault (record {
      keeps = record { going = search rules; most = ap most_of c.break_off.ensures; sent = e.reads.same.0 };
      failed = ap failed_of c.break_off.ensures;
      taken = ap taken_of c.break_off.ensures;
      place = ap place_of c.break_off.ensures;
      fault = λ is. e.reads.fault (ap Err is);
      steady = λ calm. e.reads.steady calm;
      no_fewer = e.reads.no_fewer;
    }) e.err
