-- Each exit of the walk, and its two steps.
use Rattle.std.proofs.Common.{◌≡◌, ℕ, List, ◌+◌, ◌≤◌, ◌<◌, Some, Err, length, take, inl, inr, arith, subst, sym, ap, ◌∙◌}
use Rattle.std.proofs.lemmas.Result.{err_from_is_err_and}
use Rattle.std.proofs.lemmas.Bool.{or_from, true≢false}
use Rattle.jk_io.specs.Told.{prepended}
use Rattle.http_front.specs.Body.{Uses}
use Rattle.http_front.specs.Falls.{exact_left}
use Rattle.http_front.specs.Places.{data_left, data_step, is_limited}
use Rattle.http_front.specs.Walks.{Fails}
use Rattle.http_front.specs.declared.fault.BodyFault.TheVariants as fault
use Rattle.http_front.specs.declared.place.Place.{Place}
use Rattle.http_front.proofs.FillLemmas.{front-left, front-limit, walked}
use Rattle.http_front.proofs.ReadLemmas.{none-failed, reads-then}
use Rattle.http_front.proofs.WalkLemmas.{fails-long, fails-bad, fails-read, uses-framing, uses-dropped, data-chunks}
use Rattle.http_front.proofs.walk.fill_piece.Goals as goal

pub returns-then-is_reached-clause-err : goal.returns-then-is_reached-clause-err
returns-then-is_reached-clause-err g c =
    fails-long c.args.most c.args.taken c.saturating_add.result c.walk.count _ _ c.args.start c.walk.place c.walk.piece c.walk.invariant.within c.walk.invariant.uses c.saturating_add.ensures (sym c.is_reached.ensures ∙ c.if-is_reached.true)

pub returns-then-count-piece-clause-ok : goal.returns-then-count-piece-clause-ok
returns-then-count-piece-clause-ok g c =
    let limit = front-limit c.args.start c.walk.place c.args.most c.args.taken c.walk.count c.saturating_add.result c.saturating_add.ensures (sym c.is_reached.ensures ∙ c.if-is_reached.false) c.walk.invariant.under (omega (arith, c.ranges.most)) in
    walked c.args.start c.walk.place c.args.most c.args.taken c.walk.count c.saturating_add.result _ _ c.walk.piece c.walk.invariant.within c.walk.invariant.uses
    c.saturating_add.ensures (sym c.is_reached.ensures ∙ c.if-is_reached.false) limit (inl c.if-count-piece.true)

pub returns-then-is_whole-clause-ok : goal.returns-then-is_whole-clause-ok
returns-then-is_whole-clause-ok g c =
    let limit = front-limit c.args.start c.walk.place c.args.most c.args.taken c.walk.count c.saturating_add.result c.saturating_add.ensures (sym c.is_reached.ensures ∙ c.if-is_reached.false) c.walk.invariant.under (omega (arith, c.ranges.most)) in
    walked c.args.start c.walk.place c.args.most c.args.taken c.walk.count c.saturating_add.result _ _ c.walk.piece c.walk.invariant.within c.walk.invariant.uses
    c.saturating_add.ensures (sym c.is_reached.ensures ∙ c.if-is_reached.false) limit (inr (sym c.is_whole.ensures ∙ c.if-is_whole.true))

pub returns-then-is_bad-clause-err : goal.returns-then-is_bad-clause-err
returns-then-is_bad-clause-err g c =
    let limit = front-limit c.args.start c.walk.place c.args.most c.args.taken c.walk.count c.saturating_add.result c.saturating_add.ensures (sym c.is_reached.ensures ∙ c.if-is_reached.false) c.walk.invariant.under (omega (arith, c.ranges.most)) in
    fails-bad c.args.most c.args.taken c.walk.count _ _ c.args.start c.walk.place c.walk.piece (omega (arith, c.walk.invariant.within, c.if-count-piece.false)) c.walk.invariant.uses (sym c.is_bad.ensures ∙ c.if-is_bad.true)
    (λ limited. (limit limited).1)

pub returns-in_err-place-clause-err : goal.returns-in_err-place-clause-err
returns-in_err-place-clause-err g c =
    let limit = front-limit c.args.start c.walk.place c.args.most c.args.taken c.walk.count c.saturating_add.result c.saturating_add.ensures (sym c.is_reached.ensures ∙ c.if-is_reached.false) c.walk.invariant.under (omega (arith, c.ranges.most)) in
    let e = c.in_err-place.ensures in
    let why = c.in_err-place.field-0.0 in
    let p = err_from_is_err_and c.from_residual.result c.from_residual.ensures.1 in
    let same : c.from_residual.result ≡ Err why = cc (p.1, p.2) in
    let was : c.pass_framing.result ≡ Err why = c.in_err-place.was in
    let fails = fails-read c.args.most c.args.taken c.walk.count _ _ _ c.args.start c.walk.place c.walk.piece why (omega (arith, c.walk.invariant.within, c.if-count-piece.false)) c.walk.invariant.uses e.err
    (or_from _ _ (sym c.is_whole.ensures ∙ c.if-is_whole.false) (sym c.is_bad.ensures ∙ c.if-is_bad.false))
    (λ is. e.steps.end (ap Err is)) (λ is. e.steps.kind.0 (ap Err is)) (λ is. e.steps.kind.1 (ap Err is))
    (λ limited. (limit limited).1) in
    rw same fails

pub walk-preserved-then-left-eq0 : goal.walk-preserved-then-left-eq0
walk-preserved-then-left-eq0 g c =
    let limit = front-limit c.args.start c.walk.place c.args.most c.args.taken c.walk.count c.saturating_add.result c.saturating_add.ensures (sym c.is_reached.ensures ∙ c.if-is_reached.false) c.walk.invariant.under (omega (arith, c.ranges.most)) in
    let I = c.walk.invariant in
    let e = c.in_ok-place.ensures in
    record {
      within = I.within;
      under = λ out limited. (limit limited).0;
      exact = λ limited. e.chunked;
      uses = uses-framing _ _ _ c.args.start c.walk.place c.in_ok-place.place (take c.walk.count c.walk.piece) I.uses e.ok;
      sent = e.steps.reads.same.0 ∙ I.sent;
      beside = e.steps.reads.same.1 ∙ I.beside;
      steady = e.steps.reads.steady tt ∙ I.steady;
      quiet = λ decided.
          let q = I.quiet decided in
          let some = front-left c.args.start c.walk.place c.args.most c.args.taken c.walk.count (length c.args.piece.now) c.args.inbox.now c.walk.inbox c.walk.piece c.walk.invariant.within c.if-count-piece.false (omega (arith, c.walk.auto.piece)) q.1 (sym c.is_whole.ensures ∙ c.if-is_whole.false) (sym c.is_bad.ensures ∙ c.if-is_bad.false) limit decided in
          (e.steps.unasked some ∙ q.0, uses-framing _ _ _ c.args.start c.walk.place c.in_ok-place.place (take c.walk.count c.walk.piece) q.1 (e.inside some));
    }

pub returns-in_err-came-clause-err : goal.returns-in_err-came-clause-err
returns-in_err-came-clause-err g c =
    let limit = front-limit c.args.start c.walk.place c.args.most c.args.taken c.walk.count c.saturating_add.result c.saturating_add.ensures (sym c.is_reached.ensures ∙ c.if-is_reached.false) c.walk.invariant.under (omega (arith, c.ranges.most)) in
    let e = c.in_err-came.ensures in
    let why = c.in_err-came.field-0.0 in
    let p = err_from_is_err_and c.from_residual-in_err-came.result c.from_residual-in_err-came.ensures.1 in
    let same : c.from_residual-in_err-came.result ≡ Err why = cc (p.1, p.2) in
    let fails = fails-read c.args.most c.args.taken c.walk.count _ _ _ c.args.start c.walk.place c.walk.piece why (omega (arith, c.walk.invariant.within, c.if-count-piece.false)) c.walk.invariant.uses e.err
    (or_from _ _ (sym c.is_whole.ensures ∙ c.if-is_whole.false) (sym c.is_bad.ensures ∙ c.if-is_bad.false))
    (λ is. e.steps.end (ap Err is)) (λ is. e.steps.kind.0 (ap Err is)) (λ is. e.steps.kind.1 (ap Err is))
    (λ limited. (limit limited).1) in
    let len : length c.take_data.new.piece ≡ length c.walk.piece = omega (arith, c.take_data.auto.piece) in
    let P : ℕ → Type 0 = λ n. Fails c.args.most c.args.taken n (prepended c.args.inbox.now (g.C.Meanings.incoming c.args.client.now)) (prepended c.take_data.new.inbox (g.C.Meanings.incoming c.take_data.new.client)) c.args.start why in
    rw same (subst P (sym len) fails)

pub walk-preserved : goal.walk-preserved
walk-preserved g c =
    let limit = front-limit c.args.start c.walk.place c.args.most c.args.taken c.walk.count c.saturating_add.result c.saturating_add.ensures (sym c.is_reached.ensures ∙ c.if-is_reached.false) c.walk.invariant.under (omega (arith, c.ranges.most)) in
    let I = c.walk.invariant in
    let e = c.in_ok-came.ensures in
    let came = c.in_ok-came.came in
    let gone = e.put.dropped.gone in
    let some : 0 < data_left c.walk.place = omega (arith, c.data_left-left.ensures, c.if-left-eq0.false) in
    let left : came ≤ data_left c.walk.place = omega (arith, c.data_left-left.ensures, e.within.1) in
    let before = prepended c.args.inbox.now (g.C.Meanings.incoming c.args.client.now) in
    let now = prepended c.take_data.new.inbox (g.C.Meanings.incoming c.take_data.new.client) in
    let P : Place → Type 0 = λ p. Uses before now c.args.start p (take (c.walk.count + came) c.take_data.new.piece) in
    let R : List ℕ → Type 0 = λ l. Uses before now c.args.start (data_step c.walk.place came) l in
    record {
      within = e.within.2;
      under = λ out limited. absurd (true≢false (sym (ap is_limited c.data_step-place.ensures ∙ (data-chunks c.walk.place came some (I.exact limited)).0) ∙ out));
      exact = λ limited. ap exact_left c.data_step-place.ensures ∙ (data-chunks c.walk.place came some (I.exact limited)).1;
      uses = subst P (sym c.data_step-place.ensures) (subst R (sym e.put.put)
          (uses-dropped _ _ _ c.args.start c.walk.place (take c.walk.count c.walk.piece) gone came e.put.dropped.count left I.uses e.put.dropped.used));
      sent = e.steps.reads.same.0 ∙ I.sent;
      beside = e.steps.reads.same.1 ∙ I.beside;
      steady = e.steps.reads.steady tt ∙ I.steady;
      quiet = λ decided.
          let q = I.quiet decided in
          let more = front-left c.args.start c.walk.place c.args.most c.args.taken c.walk.count (length c.args.piece.now) c.args.inbox.now c.walk.inbox c.walk.piece c.walk.invariant.within c.if-count-piece.false (omega (arith, c.walk.auto.piece)) q.1 (sym c.is_whole.ensures ∙ c.if-is_whole.false) (sym c.is_bad.ensures ∙ c.if-is_bad.false) limit decided in
          let Q : Place → Type 0 = λ p. Uses (Some c.args.inbox.now) (Some c.take_data.new.inbox) c.args.start p (take (c.walk.count + came) c.take_data.new.piece) in
          let S : List ℕ → Type 0 = λ l. Uses (Some c.args.inbox.now) (Some c.take_data.new.inbox) c.args.start (data_step c.walk.place came) l in (
            e.steps.unasked more ∙ q.0,
            subst Q (sym c.data_step-place.ensures) (subst S (sym e.put.put)
                (uses-dropped _ _ _ c.args.start c.walk.place (take c.walk.count c.walk.piece) gone came e.put.dropped.count left q.1 (ap Some (e.put.dropped.inside more)))),
          );
    }

pub returns-then-is_reached-clause-unasked : goal.returns-then-is_reached-clause-unasked
returns-then-is_reached-clause-unasked g c = λ decided. (c.walk.invariant.quiet decided).0

pub returns-then-is_bad-clause-unasked : goal.returns-then-is_bad-clause-unasked
returns-then-is_bad-clause-unasked g c = λ decided. (c.walk.invariant.quiet decided).0

pub returns-then-count-piece-clause-unasked : goal.returns-then-count-piece-clause-unasked
returns-then-count-piece-clause-unasked g c = λ decided. (c.walk.invariant.quiet decided).0

pub returns-then-is_whole-clause-unasked : goal.returns-then-is_whole-clause-unasked
returns-then-is_whole-clause-unasked g c = λ decided. (c.walk.invariant.quiet decided).0

pub returns-in_err-place-clause-unasked : goal.returns-in_err-place-clause-unasked
returns-in_err-place-clause-unasked g c = λ decided.
    let limit = front-limit c.args.start c.walk.place c.args.most c.args.taken c.walk.count c.saturating_add.result c.saturating_add.ensures (sym c.is_reached.ensures ∙ c.if-is_reached.false) c.walk.invariant.under (omega (arith, c.ranges.most)) in
    let q = c.walk.invariant.quiet decided in
    c.pass_framing.ensures.steps.unasked (front-left c.args.start c.walk.place c.args.most c.args.taken c.walk.count (length c.args.piece.now) c.args.inbox.now c.walk.inbox c.walk.piece c.walk.invariant.within c.if-count-piece.false (omega (arith, c.walk.auto.piece)) q.1 (sym c.is_whole.ensures ∙ c.if-is_whole.false) (sym c.is_bad.ensures ∙ c.if-is_bad.false) limit decided) ∙ q.0

pub returns-in_err-came-clause-unasked : goal.returns-in_err-came-clause-unasked
returns-in_err-came-clause-unasked g c = λ decided.
    let limit = front-limit c.args.start c.walk.place c.args.most c.args.taken c.walk.count c.saturating_add.result c.saturating_add.ensures (sym c.is_reached.ensures ∙ c.if-is_reached.false) c.walk.invariant.under (omega (arith, c.ranges.most)) in
    let q = c.walk.invariant.quiet decided in
    c.take_data.ensures.steps.unasked (front-left c.args.start c.walk.place c.args.most c.args.taken c.walk.count (length c.args.piece.now) c.args.inbox.now c.walk.inbox c.walk.piece c.walk.invariant.within c.if-count-piece.false (omega (arith, c.walk.auto.piece)) q.1 (sym c.is_whole.ensures ∙ c.if-is_whole.false) (sym c.is_bad.ensures ∙ c.if-is_bad.false) limit decided) ∙ q.0

pub returns-then-is_reached-clause-reads : goal.returns-then-is_reached-clause-reads
returns-then-is_reached-clause-reads g c = none-failed g.C.Meanings fault.Fault _ _ _ _ (λ is. cc) c.walk.invariant.sent c.walk.invariant.beside c.walk.invariant.steady

pub returns-then-is_bad-clause-reads : goal.returns-then-is_bad-clause-reads
returns-then-is_bad-clause-reads g c = none-failed g.C.Meanings fault.Fault _ _ _ _ (λ is. cc) c.walk.invariant.sent c.walk.invariant.beside c.walk.invariant.steady

pub returns-then-count-piece-clause-reads : goal.returns-then-count-piece-clause-reads
returns-then-count-piece-clause-reads g c = none-failed g.C.Meanings fault.Fault _ _ _ _ (λ is. cc) c.walk.invariant.sent c.walk.invariant.beside c.walk.invariant.steady

pub returns-then-is_whole-clause-reads : goal.returns-then-is_whole-clause-reads
returns-then-is_whole-clause-reads g c = none-failed g.C.Meanings fault.Fault _ _ _ _ (λ is. cc) c.walk.invariant.sent c.walk.invariant.beside c.walk.invariant.steady

pub returns-in_err-place-clause-reads : goal.returns-in_err-place-clause-reads
returns-in_err-place-clause-reads g c =
    let I = c.walk.invariant in
    let why = c.in_err-place.field-0.0 in
    let p = err_from_is_err_and c.from_residual.result c.from_residual.ensures.1 in
    let same : c.from_residual.result ≡ Err why = cc (p.1, p.2) in
    reads-then g.C.Meanings _ _ _ why c.from_residual.result same I.sent I.beside I.steady c.in_err-place.ensures.steps.reads

pub returns-in_err-came-clause-reads : goal.returns-in_err-came-clause-reads
returns-in_err-came-clause-reads g c =
    let I = c.walk.invariant in
    let why = c.in_err-came.field-0.0 in
    let p = err_from_is_err_and c.from_residual-in_err-came.result c.from_residual-in_err-came.ensures.1 in
    let same : c.from_residual-in_err-came.result ≡ Err why = cc (p.1, p.2) in
    reads-then g.C.Meanings _ _ _ why c.from_residual-in_err-came.result same I.sent I.beside I.steady c.in_err-came.ensures.steps.reads
