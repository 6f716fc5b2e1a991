-- Where the walk begins, its two steps, and each exit.
use Rattle.std.proofs.Common.{◌≡◌, Err, ◌<◌, ◌+◌, ◌-◌, ◌*◌, [], ◌++◌, Some, length, length-append, arith, refl, subst, sym, ap, ◌∙◌}
use Rattle.jk_io.specs.Told.{prepended}
use Rattle.std.proofs.lemmas.Bool.{true≢false, or_from}
use Rattle.std.proofs.lemmas.Result.{err_from_is_err_and}
use Rattle.http_front.specs.Body.{Uses}
use Rattle.http_front.specs.Falls.{framing_left, exact_left}
use Rattle.http_front.specs.Places.{data_left, is_limited}
use Rattle.http_front.specs.declared.fault.BodyFault.TheVariants as fault
use Rattle.http_front.specs.declared.place.Place.{Place}
use Rattle.http_front.specs.Walks.{IsUnder, is_reached}
use Rattle.http_front.specs.Wants.{Rest}
use Rattle.http_front.proofs.QuietLemmas.{some-left}
use Rattle.http_front.proofs.BodyLemmas.{Uses-nil}
use Rattle.http_front.proofs.ReadLemmas.{none-failed, reads-then}
use Rattle.http_front.proofs.WalkLemmas.{bad-place, breaks-read, uses-framing, uses-dropped, drop-smaller, under-now, data-chunks, start-exact}
use Rattle.http_front.proofs.walk.pass_body.Goals as goal

pub walk-init : goal.walk-init
walk-init g c = record {
  passed = [];
  under = λ out limited. absurd (true≢false (sym limited ∙ out));
  exact = λ limited. start-exact c.args.start limited;
  uses = Uses-nil _ c.args.start;
  counts = omega (arith, c.ranges.taken);
  sent = refl;
  beside = refl;
  steady = refl;
  quiet = λ decided. (refl, Uses-nil _ c.args.start);
}

pub walk-smaller-then-left-eq0 : goal.walk-smaller-then-left-eq0
walk-smaller-then-left-eq0 g c = omega (arith, c.in_ok-place.ensures.falls, c.in_ok-place.ensures.chunked)

pub walk-preserved-then-left-eq0 : goal.walk-preserved-then-left-eq0
walk-preserved-then-left-eq0 g c =
    let I = c.walk.invariant in
    let e = c.in_ok-place.ensures in
    record {
      passed = I.passed;
      under = λ out limited. (under-now c.args.start c.walk.place c.args.most c.args.taken (length I.passed) c.walk.sum I.counts (sym c.is_reached.ensures ∙ c.if-is_reached.false) I.under (omega (arith, c.ranges.most)) limited).0;
      exact = λ limited. e.chunked;
      uses = uses-framing _ _ _ c.args.start c.walk.place c.in_ok-place.place I.passed I.uses e.ok;
      counts = I.counts;
      sent = e.steps.reads.same.0 ∙ I.sent;
      beside = e.steps.reads.same.1 ∙ I.beside;
      steady = e.steps.reads.steady tt ∙ I.steady;
      quiet = λ decided.
          let q = I.quiet decided in
          let below : IsUnder c.args.most c.args.taken c.args.start I.passed = λ limited. (under-now c.args.start c.walk.place c.args.most c.args.taken (length I.passed) c.walk.sum I.counts (sym c.is_reached.ensures ∙ c.if-is_reached.false) I.under (omega (arith, c.ranges.most)) limited).1 in
          let more = some-left Rest _ _ c.args.inbox.now c.walk.inbox c.args.start c.walk.place I.passed q.1 (or_from _ _ (sym c.is_whole.ensures ∙ c.if-is_whole.false) (sym c.is_bad.ensures ∙ c.if-is_bad.false)) tt below decided in
          (e.steps.unasked more ∙ q.0, uses-framing _ _ _ c.args.start c.walk.place c.in_ok-place.place I.passed q.1 (e.inside more));
    }

pub walk-preserved : goal.walk-preserved
walk-preserved g c =
    let I = c.walk.invariant in
    let e = c.in_ok-count.ensures in
    let some : 0 < data_left c.walk.place = omega (arith, c.data_left-left.ensures, e.count) in
    let P : Place → Type 0 = λ p. Uses (prepended c.args.inbox.now (g.C.Meanings.incoming c.args.client.now)) (prepended c.drop_data.new.inbox (g.C.Meanings.incoming c.drop_data.new.client)) c.args.start p (I.passed ++ e.gone.gone) in
    record {
      passed = I.passed ++ e.gone.gone;
      under = λ out limited. absurd (true≢false (sym (ap is_limited c.data_step-place.ensures ∙ (data-chunks c.walk.place c.in_ok-count.count some (I.exact limited)).0) ∙ out));
      exact = λ limited. ap exact_left c.data_step-place.ensures ∙ (data-chunks c.walk.place c.in_ok-count.count some (I.exact limited)).1;
      uses = subst P (sym c.data_step-place.ensures) (uses-dropped _ _ _ c.args.start c.walk.place I.passed e.gone.gone c.in_ok-count.count e.gone.count (omega (arith, e.count.1, c.data_left-left.ensures)) I.uses e.gone.used);
      counts = omega (arith, c.saturating_add-sum.ensures, I.counts, e.gone.count, length-append I.passed e.gone.gone);
      sent = e.steps.reads.same.0 ∙ I.sent;
      beside = e.steps.reads.same.1 ∙ I.beside;
      steady = e.steps.reads.steady tt ∙ I.steady;
      quiet = λ decided.
          let q = I.quiet decided in
          let below : IsUnder c.args.most c.args.taken c.args.start I.passed = λ limited. (under-now c.args.start c.walk.place c.args.most c.args.taken (length I.passed) c.walk.sum I.counts (sym c.is_reached.ensures ∙ c.if-is_reached.false) I.under (omega (arith, c.ranges.most)) limited).1 in
          let more = some-left Rest _ _ c.args.inbox.now c.walk.inbox c.args.start c.walk.place I.passed q.1 (or_from _ _ (sym c.is_whole.ensures ∙ c.if-is_whole.false) (sym c.is_bad.ensures ∙ c.if-is_bad.false)) tt below decided in
          let Q : Place → Type 0 = λ p. Uses (Some c.args.inbox.now) (Some c.drop_data.new.inbox) c.args.start p (I.passed ++ e.gone.gone) in
          (e.steps.unasked more ∙ q.0, subst Q (sym c.data_step-place.ensures) (uses-dropped _ _ _ c.args.start c.walk.place I.passed e.gone.gone c.in_ok-count.count e.gone.count (omega (arith, e.count.1, c.data_left-left.ensures)) q.1 (ap Some (e.gone.inside more))));
    }

pub walk-smaller : goal.walk-smaller
walk-smaller g c =
    let e = c.in_ok-count.ensures in
    let fall = drop-smaller c.walk.place c.in_ok-count.count c.args.most c.walk.sum c.saturating_add-sum.result e.count.0 (omega (arith, e.count.1, c.data_left-left.ensures)) (sym c.is_reached.ensures ∙ c.if-is_reached.false) c.saturating_add-sum.ensures (omega (arith, c.ranges.most)) in
    let P : Place → Type 0 = λ p. 40000 * (c.args.most - c.saturating_add-sum.result + exact_left p) + framing_left p < 40000 * (c.args.most - c.walk.sum + exact_left c.walk.place) + framing_left c.walk.place in
    subst P (sym c.data_step-place.ensures) fall

pub returns-then-is_reached-clause-unasked : goal.returns-then-is_reached-clause-unasked
returns-then-is_reached-clause-unasked g c = λ decided. (c.walk.invariant.quiet decided).0

pub returns-then-is_bad-clause-unasked : goal.returns-then-is_bad-clause-unasked
returns-then-is_bad-clause-unasked g c = λ decided. (c.walk.invariant.quiet decided).0

pub returns-then-is_whole-clause-unasked : goal.returns-then-is_whole-clause-unasked
returns-then-is_whole-clause-unasked g c = λ decided. (c.walk.invariant.quiet decided).0

pub returns-in_err-place-clause-unasked : goal.returns-in_err-place-clause-unasked
returns-in_err-place-clause-unasked g c = λ decided.
    let I = c.walk.invariant in
    let q = I.quiet decided in
    let below : IsUnder c.args.most c.args.taken c.args.start I.passed = λ limited. (under-now c.args.start c.walk.place c.args.most c.args.taken (length I.passed) c.walk.sum I.counts (sym c.is_reached.ensures ∙ c.if-is_reached.false) I.under (omega (arith, c.ranges.most)) limited).1 in
    c.pass_framing.ensures.steps.unasked (some-left Rest _ _ c.args.inbox.now c.walk.inbox c.args.start c.walk.place I.passed q.1 (or_from _ _ (sym c.is_whole.ensures ∙ c.if-is_whole.false) (sym c.is_bad.ensures ∙ c.if-is_bad.false)) tt below decided) ∙ q.0

pub returns-in_err-count-clause-unasked : goal.returns-in_err-count-clause-unasked
returns-in_err-count-clause-unasked g c = λ decided.
    let I = c.walk.invariant in
    let q = I.quiet decided in
    let below : IsUnder c.args.most c.args.taken c.args.start I.passed = λ limited. (under-now c.args.start c.walk.place c.args.most c.args.taken (length I.passed) c.walk.sum I.counts (sym c.is_reached.ensures ∙ c.if-is_reached.false) I.under (omega (arith, c.ranges.most)) limited).1 in
    c.drop_data.ensures.steps.unasked (some-left Rest _ _ c.args.inbox.now c.walk.inbox c.args.start c.walk.place I.passed q.1 (or_from _ _ (sym c.is_whole.ensures ∙ c.if-is_whole.false) (sym c.is_bad.ensures ∙ c.if-is_bad.false)) tt below decided) ∙ q.0

pub returns-then-is_reached-clause-err : goal.returns-then-is_reached-clause-err
returns-then-is_reached-clause-err g c =
    let I = c.walk.invariant in
    record {
      place = c.walk.place;
      data' = I.passed;
      uses = I.uses;
      meets = ap (is_reached c.walk.place c.args.most) (sym I.counts) ∙ sym c.is_reached.ensures ∙ c.if-is_reached.true;
      stays = tt;
    }

pub returns-then-is_whole-clause-ok : goal.returns-then-is_whole-clause-ok
returns-then-is_whole-clause-ok g c =
    let I = c.walk.invariant in
    record {
      data' = I.passed;
      uses = I.uses;
      whole = sym c.is_whole.ensures ∙ c.if-is_whole.true;
      counts = I.counts;
      under = sym c.is_reached.ensures ∙ c.if-is_reached.false;
      below = λ limited. (under-now c.args.start c.walk.place c.args.most c.args.taken (length I.passed) c.walk.sum I.counts (sym c.is_reached.ensures ∙ c.if-is_reached.false) I.under (omega (arith, c.ranges.most)) limited).1;
      limit = λ limited. (under-now c.args.start c.walk.place c.args.most c.args.taken (length I.passed) c.walk.sum I.counts (sym c.is_reached.ensures ∙ c.if-is_reached.false) I.under (omega (arith, c.ranges.most)) limited).0;
    }

pub returns-then-is_bad-clause-err : goal.returns-then-is_bad-clause-err
returns-then-is_bad-clause-err g c =
    let I = c.walk.invariant in
    record {
      place = c.walk.place;
      data' = I.passed;
      uses = I.uses;
      meets = bad-place c.walk.place (sym c.is_bad.ensures ∙ c.if-is_bad.true);
      stays = λ limited. (under-now c.args.start c.walk.place c.args.most c.args.taken (length I.passed) c.walk.sum I.counts (sym c.is_reached.ensures ∙ c.if-is_reached.false) I.under (omega (arith, c.ranges.most)) limited).1;
    }

pub returns-in_err-place-clause-err : goal.returns-in_err-place-clause-err
returns-in_err-place-clause-err g c =
    let I = c.walk.invariant in
    let e = c.in_err-place.ensures in
    let why = c.in_err-place.field-0.0 in
    let p = err_from_is_err_and c.from_residual.result c.from_residual.ensures.1 in
    let same : c.from_residual.result ≡ Err why = cc (p.1, p.2) in
    let breaks = breaks-read c.args.most c.args.taken _ _ _ c.args.start c.walk.place I.passed why I.uses e.err
    (or_from _ _ (sym c.is_whole.ensures ∙ c.if-is_whole.false) (sym c.is_bad.ensures ∙ c.if-is_bad.false))
    (λ is. e.steps.end (ap Err is)) (λ is. e.steps.kind.0 (ap Err is)) (λ is. e.steps.kind.1 (ap Err is))
    (λ limited. (under-now c.args.start c.walk.place c.args.most c.args.taken (length I.passed) c.walk.sum I.counts (sym c.is_reached.ensures ∙ c.if-is_reached.false) I.under (omega (arith, c.ranges.most)) limited).1) in
    rw same breaks

pub returns-in_err-count-clause-err : goal.returns-in_err-count-clause-err
returns-in_err-count-clause-err g c =
    let I = c.walk.invariant in
    let e = c.in_err-count.ensures in
    let why = c.in_err-count.field-0.0 in
    let p = err_from_is_err_and c.from_residual-in_err-count.result c.from_residual-in_err-count.ensures.1 in
    let same : c.from_residual-in_err-count.result ≡ Err why = cc (p.1, p.2) in
    let breaks = breaks-read c.args.most c.args.taken _ _ _ c.args.start c.walk.place I.passed why I.uses e.err
    (or_from _ _ (sym c.is_whole.ensures ∙ c.if-is_whole.false) (sym c.is_bad.ensures ∙ c.if-is_bad.false))
    (λ is. e.steps.end (ap Err is)) (λ is. e.steps.kind.0 (ap Err is)) (λ is. e.steps.kind.1 (ap Err is))
    (λ limited. (under-now c.args.start c.walk.place c.args.most c.args.taken (length I.passed) c.walk.sum I.counts (sym c.is_reached.ensures ∙ c.if-is_reached.false) I.under (omega (arith, c.ranges.most)) limited).1) in
    rw same breaks

pub returns-then-is_reached-clause-reads : goal.returns-then-is_reached-clause-reads
returns-then-is_reached-clause-reads g c = none-failed g.C.Meanings fault.Fault _ _ _ _ (λ is. cc) c.walk.invariant.sent c.walk.invariant.beside c.walk.invariant.steady

pub returns-then-is_bad-clause-reads : goal.returns-then-is_bad-clause-reads
returns-then-is_bad-clause-reads g c = none-failed g.C.Meanings fault.Fault _ _ _ _ (λ is. cc) c.walk.invariant.sent c.walk.invariant.beside c.walk.invariant.steady

pub returns-then-is_whole-clause-reads : goal.returns-then-is_whole-clause-reads
returns-then-is_whole-clause-reads g c = none-failed g.C.Meanings fault.Fault _ _ _ _ (λ is. cc) c.walk.invariant.sent c.walk.invariant.beside c.walk.invariant.steady

pub returns-in_err-place-clause-reads : goal.returns-in_err-place-clause-reads
returns-in_err-place-clause-reads g c =
    let I = c.walk.invariant in
    let why = c.in_err-place.field-0.0 in
    let p = err_from_is_err_and c.from_residual.result c.from_residual.ensures.1 in
    let same : c.from_residual.result ≡ Err why = cc (p.1, p.2) in
    reads-then g.C.Meanings _ _ _ why c.from_residual.result same I.sent I.beside I.steady c.in_err-place.ensures.steps.reads

pub returns-in_err-count-clause-reads : goal.returns-in_err-count-clause-reads
returns-in_err-count-clause-reads g c =
    let I = c.walk.invariant in
    let why = c.in_err-count.field-0.0 in
    let p = err_from_is_err_and c.from_residual-in_err-count.result c.from_residual-in_err-count.ensures.1 in
    let same : c.from_residual-in_err-count.result ≡ Err why = cc (p.1, p.2) in
    reads-then g.C.Meanings _ _ _ why c.from_residual-in_err-count.result same I.sent I.beside I.steady c.in_err-count.ensures.steps.reads
