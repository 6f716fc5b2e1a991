-- The talk was held on the link that was begun, and the reach noted it.
use Rattle.std.proofs.Common.{refl, ap, ◌∙◌}
use Rattle.jk_io.specs.declared.reaching.Beside.{Beside}
use Rattle.ajp_wire.specs.Moments.{link_at}
use Rattle.exchange.proofs.OneTalkLaws.{was_held}
use Rattle.exchange.proofs.one_talk.one_talk.Goals as goal

pub returns-clause-talk : goal.returns-clause-talk
returns-clause-talk g c =
    was_held c.args.lb c.args.to.now.member c.args.to.now.endpoint.now c.args.plan.now c.args.fresh c.in-Ok.dialled _ _
    (link_at g.R.Meanings c.begin.new.self)
    (link_at g.R.Meanings c.talk-end.new.line)
    c.talk-end.result (g.R.Meanings.beside c.begin.new.self) (g.R.Meanings.beside c.talk-end.new.line)
    c.in-Ok.ensures.new_link c.begin.ensures.nothing_yet
    (rw (c.pings-plan.ensures, c.pong_limit-plan.ensures) at c.talk-end.ensures.talk.talk) (rw (c.pings-plan.ensures, c.pong_limit-plan.ensures) at c.talk-end.ensures.complete)
    c.in-Ok.ensures.begun c.talk-end.ensures.beside.0 (c.in-Ok.ensures.ok ∙ ap (λ (b : Beside). b.talks) c.await_next.ensures.same.0) (rw c.keeps.ensures at c.finish.ensures.noted)
    (c.in-Ok.ensures.steady refl ∙ c.await_next.ensures.same.1) c.talk-end.ensures.talk.line c.finish.ensures.same_faults c.talk-end.ensures.talk.client c.talk-end.ensures.talk.calm

pub returns-clause-heard : goal.returns-clause-heard
returns-clause-heard g c = λ had. record {
  dialled = c.in-Ok.dialled;
  begun = c.begin.new.self;
  nothing_yet = c.begin.ensures.nothing_yet;
  awaits = rw (c.pings-plan.ensures, c.pong_limit-plan.ensures) at (c.talk-end.ensures.awaits had);
}

pub returns-in-Err-Failed-clause-heard : goal.returns-in-Err-Failed-clause-heard
returns-in-Err-Failed-clause-heard g c = rw c.no_link.ensures (λ had. absurd cc)
