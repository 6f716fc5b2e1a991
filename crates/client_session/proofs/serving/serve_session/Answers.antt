-- A request was served, or the session ended at it or after it, or nothing of a next one was there.
use Rattle.std.proofs.Common.{refl, ap, ◌∙◌, arith}
use Rattle.status_worker.proofs.DeskLaws.{none_met, none_twice, untouched}
use Rattle.jk_io.specs.Moments.{Moment}
use Rattle.client_session.specs.declared.ending.SessionStop.TheVariants as stop
use Rattle.client_session.specs.declared.ending.Why.TheVariants as why
use Rattle.exchange.proofs.AwaitLaws.{awaits_none, awaits_twice}
use Rattle.client_session.proofs.AwaitLaws.{all_awaited, idle_awaited, next_awaited, none_awaited, still_awaited}
use Rattle.client_session.proofs.DeskLaws.{met_at_end}
use Rattle.client_session.proofs.KeepingLaws.{keeps_by, keeps_twice}
use Rattle.client_session.proofs.SessionLaws.{begins, ended, goes_on, idles, risen_at_end, same_client, still_under_way}
use Rattle.client_session.proofs.SurroundingsLaws.{keeps_still}
use Rattle.client_session.proofs.TurnLaws.{ended_busy}
use Rattle.client_session.proofs.WayLaws.{holds_of_each, whole_by}
use Rattle.client_session.proofs.serving.serve_session.Goals as goal

pub loop-number-init : goal.loop-number-init
loop-number-init g c = record {
  way = rw c.clear.ensures (begins _ _ _ (g.met.W.RowSink.gains_nothing _));
  few = omega arith;
  met = none_met _;
  calm = refl;
  awaits = rw c.clear.ensures (none_awaited _ _ _ _);
  dials = awaits_none _ _ _ _ _ refl;
  kept = keeps_by _ _ _ _ _ _ c.requires.ready (untouched _ _) refl refl (keeps_still g.C.Meanings _) (refl, refl, refl, refl, refl);
}

pub serve_one-requires-clause-ready : goal.serve_one-requires-clause-ready
serve_one-requires-clause-ready g c = c.loop-number.invariant.kept.ready

pub serve_one-requires-clause-number : goal.serve_one-requires-clause-number
serve_one-requires-clause-number g c = c.loop-number.invariant.few

pub loop-number-preserved : goal.loop-number-preserved
loop-number-preserved g c =
    let way = goes_on _ _ _ _ _ _ _ _ (λ xs ys first second. g.met.W.RowSink.gains_on _ _ _ _ _ first second) c.loop-number.invariant.way c.in-Next.ensures.turn.turned in
    let faults = ap (λ (m : Moment). m.faults) c.is_idle.ensures.same.step in
    record {
      way = still_under_way _ _ _ _ _ _ c.is_idle.ensures.same.step way;
      few = c.in-Next.ensures.turn.more refl;
      met = none_twice _ _ _ c.loop-number.invariant.met c.in-Next.ensures.turn.met;
      calm = faults ∙ c.in-Next.ensures.turn.fault ∙ c.loop-number.invariant.calm;
      awaits = still_awaited _ _ _ _ _ _ _ c.is_idle.ensures.same.step
          (next_awaited _ _ _ _ _ _ _ _ c.loop-number.invariant.awaits (c.loop-number.around.client.now, refl, c.in-Next.ensures.awaits) c.in-Next.ensures.turn.turned);
      dials = awaits_twice _ _ _ _ _ _ c.loop-number.invariant.dials c.in-Next.ensures.turn.dials;
      kept = keeps_twice _ _ _ _ _ _ _ c.loop-number.invariant.kept
          (keeps_twice _ _ _ _ _ _ _ c.in-Next.ensures.turn.kept
          (keeps_by _ _ _ _ _ _ c.in-Next.ensures.turn.kept.ready (untouched _ _) refl refl c.is_idle.ensures.same.kept (refl, refl, refl, refl, refl)));
    }

pub returns-in-EndsAfter : goal.returns-in-EndsAfter
returns-in-EndsAfter g c = record {
  session = whole_by _ _ _ _ _ _ _ _ _
      (ended _ _ _ _ _ _ _ _ c.in-EndsAfter.stop _ _ (λ xs ys first second. g.met.W.RowSink.gains_on _ _ _ _ _ first second) c.loop-number.invariant.way c.after.ensures c.in-EndsAfter.ensures.turn.turned)
      (met_at_end c.in-EndsAfter.stop _ _ _ _ _ c.after.ensures c.loop-number.invariant.met c.in-EndsAfter.ensures.turn.met)
      (risen_at_end c.in-EndsAfter.stop _ _ _ _ _ c.after.ensures c.loop-number.invariant.calm c.in-EndsAfter.ensures.turn.fault)
      (keeps_twice _ _ _ _ _ _ _ c.loop-number.invariant.kept c.in-EndsAfter.ensures.turn.kept);
  each = holds_of_each _ _;
  awaits = all_awaited _ _ _ _ _ _ _ _ _ c.in-EndsAfter.stop _ _ c.loop-number.invariant.awaits (c.loop-number.around.client.now, refl, c.in-EndsAfter.ensures.awaits) c.after.ensures
      c.in-EndsAfter.ensures.turn.turned;
  dials = awaits_twice _ _ _ _ _ _ c.loop-number.invariant.dials c.in-EndsAfter.ensures.turn.dials;
  idle_only = ended_busy c.in-EndsAfter.stop _ _ _ c.after.ensures c.in-EndsAfter.ensures.turn.busy;
}

pub returns-in-EndsAt : goal.returns-in-EndsAt
returns-in-EndsAt g c = record {
  session = whole_by _ _ _ _ _ _ _ _ _
      (ended _ _ _ _ _ _ _ _ c.in-EndsAt.stop _ _ (λ xs ys first second. g.met.W.RowSink.gains_on _ _ _ _ _ first second) c.loop-number.invariant.way c.after-in-EndsAt.ensures c.in-EndsAt.ensures.turn.turned)
      (met_at_end c.in-EndsAt.stop _ _ _ _ _ c.after-in-EndsAt.ensures c.loop-number.invariant.met c.in-EndsAt.ensures.turn.met)
      (risen_at_end c.in-EndsAt.stop _ _ _ _ _ c.after-in-EndsAt.ensures c.loop-number.invariant.calm c.in-EndsAt.ensures.turn.fault)
      (keeps_twice _ _ _ _ _ _ _ c.loop-number.invariant.kept c.in-EndsAt.ensures.turn.kept);
  each = holds_of_each _ _;
  awaits = all_awaited _ _ _ _ _ _ _ _ _ c.in-EndsAt.stop _ _ c.loop-number.invariant.awaits (c.loop-number.around.client.now, refl, c.in-EndsAt.ensures.awaits) c.after-in-EndsAt.ensures
      c.in-EndsAt.ensures.turn.turned;
  dials = awaits_twice _ _ _ _ _ _ c.loop-number.invariant.dials c.in-EndsAt.ensures.turn.dials;
  idle_only = ended_busy c.in-EndsAt.stop _ _ _ c.after-in-EndsAt.ensures c.in-EndsAt.ensures.turn.busy;
}

pub returns-then-is_idle : goal.returns-then-is_idle
returns-then-is_idle g c =
    let faults = ap (λ (m : Moment). m.faults) c.is_idle.ensures.same.step in
    let way = goes_on _ _ _ _ _ _ _ _ (λ xs ys first second. g.met.W.RowSink.gains_on _ _ _ _ _ first second) c.loop-number.invariant.way c.in-Next.ensures.turn.turned in
    record {
      session = whole_by _ _ _ _ _ _ _ _ _
          (idles _ _ _ _ _ _ _ way (omega arith) (c.is_idle.ensures.idle c.if-is_idle.true).0 (same_client _ _ c.is_idle.ensures.same.step) c.after-then-is_idle.ensures)
          (met_at_end (stop.Closed why.Idle) _ _ _ _ _ c.after-then-is_idle.ensures c.loop-number.invariant.met c.in-Next.ensures.turn.met)
          (risen_at_end (stop.Closed why.Idle) _ _ _ _ _ c.after-then-is_idle.ensures c.loop-number.invariant.calm (faults ∙ c.in-Next.ensures.turn.fault))
          (keeps_twice _ _ _ _ _ _ _ c.loop-number.invariant.kept
          (keeps_twice _ _ _ _ _ _ _ c.in-Next.ensures.turn.kept
          (keeps_by _ _ _ _ _ _ c.in-Next.ensures.turn.kept.ready (untouched _ _) refl refl c.is_idle.ensures.same.kept (refl, refl, refl, refl, refl))));
      each = holds_of_each _ _;
      awaits = idle_awaited _ _ _ _ _ _ _ _ _
          (next_awaited _ _ _ _ _ _ _ _ c.loop-number.invariant.awaits (c.loop-number.around.client.now, refl, c.in-Next.ensures.awaits) c.in-Next.ensures.turn.turned)
          (omega arith) (c.is_idle.ensures.idle c.if-is_idle.true).0 (same_client _ _ c.is_idle.ensures.same.step) c.after-then-is_idle.ensures;
      dials = awaits_twice _ _ _ _ _ _ c.loop-number.invariant.dials c.in-Next.ensures.turn.dials;
      idle_only = λ _. (c.is_idle.ensures.idle c.if-is_idle.true).1;
    }
