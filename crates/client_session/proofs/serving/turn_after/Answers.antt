-- The session ends with the answer, or the rest of the body is read.
use Rattle.std.proofs.Common.{refl}
use Rattle.http_front.specs.Takes.{body_at}
use Rattle.client_session.specs.Standings.{client_at}
use Rattle.client_session.proofs.SurroundingsLaws.{keeps_still}
use Rattle.client_session.proofs.TurnLaws.{turns_last, turns_not, turns_on}
use Rattle.client_session.proofs.serving.turn_after.Goals as goal

pub returns-in-Not-clause-turned : goal.returns-in-Not-clause-turned
returns-in-Not-clause-turned g c = record {
  step = turns_not c.args.answered c.in-Not.stop c.args.last (body_at c.args.body.now c.args.inbox.now (client_at g.C.Meanings c.args.client.now)) (body_at c.args.body.now c.args.inbox.now (client_at g.C.Meanings c.args.client.now)) c.in-Not.is refl;
  kept = keeps_still g.C.Meanings _;
}

pub returns-in-Whole-clause-turned : goal.returns-in-Whole-clause-turned
returns-in-Whole-clause-turned g c = record {
  step = turns_last c.args.answered c.args.last (body_at c.args.body.now c.args.inbox.now (client_at g.C.Meanings c.args.client.now)) (body_at c.args.body.now c.args.inbox.now (client_at g.C.Meanings c.args.client.now)) c.in-Whole.is c.if-last.true refl;
  kept = keeps_still g.C.Meanings _;
}

pub returns-in-Whole-2-clause-turned : goal.returns-in-Whole-2-clause-turned
returns-in-Whole-2-clause-turned g c = record {
  step = turns_on c.args.answered c.args.last (body_at c.args.body.now c.args.inbox.now (client_at g.C.Meanings c.args.client.now))
      (body_at c.finish_body.new.body c.finish_body.new.inbox (client_at g.C.Meanings c.finish_body.new.client)) c.finish_body.result c.in-Whole-2.is c.if-last.false c.finish_body.ensures.step;
  kept = c.finish_body.ensures.kept;
}
