-- One more balancer was looked at.
use Rattle.std.proofs.Common.{ap, ◌∙◌, ◌+◌, ℕ}
use Rattle.status_worker.proofs.PageLaws.{sees_on}
use Rattle.status_worker.proofs.pages.all_parts.Goals as goal

pub loop-lb-preserved : goal.loop-lb-preserved
loop-lb-preserved g c = record {
  seen = sees_on _ (g.B.Desk.state c.loop-lb.desk) _ _ c.loop-lb.place c.lb-item.result _ _ c.in_ok-look_at.field-0 c.loop-lb-test.true c.lb-item.is
      c.loop-lb.invariant.same c.loop-lb.invariant.place c.loop-lb.invariant.seen c.in_ok-look_at.ensures.seen c.in_ok-push.ensures.ok;
  place = ap (λ (n : ℕ). n + 1) c.loop-lb.invariant.place;
  same = c.look_at.ensures.same ∙ c.loop-lb.invariant.same;
}
