-- Talks failed, and another one is to follow; the talks that are left run out.
use Rattle.ajp_talk.specs.Ends.{IsPlan}
use Rattle.exchange.specs.Awaits.{AwaitsMember}
use Rattle.exchange.specs.Keeping.{KeepsSides, MayTalk}
use Rattle.exchange.specs.Means.{around_of}
use Rattle.exchange.specs.Requests.{errand_of, plan_for}
use Rattle.exchange.proofs.TalksLaws.{IsUnderWay}
use Rattle.exchange.proofs.talks.run_talks.Given as goal

abbrev pub invariant-loop-end : goal.invariant-loop-end
invariant-loop-end g l = record {
  way : IsUnderWay l.request.lb l.to.member l.to.endpoint.now l.request.head.now (plan_for (errand_of l.request) l.first l.to.config.now l.to.endpoint.now) l.fresh
      (around_of g.R.Meanings g.C.Meanings l.fn.sides) (around_of g.R.Meanings g.C.Meanings l.sides)
      l.plan l.fresh_link l.bytes l.left;
  plan : IsPlan l.plan;
  may : MayTalk g.R.Meanings l.request.lb l.to.member l.plan.first l.sides;
  kept : KeepsSides g.R.Meanings g.C.Meanings l.fn.sides l.sides;
  awaits : AwaitsMember g.R.Meanings g.R.Link.heard l.request l.to l.fn.sides.reach.now l.sides.reach.now;
}

abbrev pub decreases-loop-end : goal.decreases-loop-end
decreases-loop-end g l = l.left
