-- The request came to its end before a worker was asked.
use Rattle.std.proofs.Common.{◌≡◌, None, Some, refl, rules}
use Rattle.exchange.proofs.AwaitLaws.{awaits_none}
use Rattle.status_worker.proofs.DeskLaws.{untouched}
use Rattle.client_session.specs.Requests.{continue_for, mounted_at, visit_in}
use Rattle.client_session.specs.Standings.{client_at, standing}
use Rattle.client_session.specs.Surroundings.{standing_of}
use Rattle.client_session.proofs.AnswerLaws.{answers_early, goes_on_new, meets_early, not_found_answers, not_found_meets, not_found_rises, rises_early, told_on}
use Rattle.client_session.proofs.KeepingLaws.{keeps_by, keeps_twice, rises_from}
use Rattle.client_session.proofs.answering.answer.Goals as goal

pub returns-in-Err-clause-answer : goal.returns-in-Err-clause-answer
returns-in-Err-clause-answer g c =
    let mounted : mounted_at (visit_in c.args.of.now) c.args.of.now.head.now ≡ Some c.in-Some.worker = search rules in
    let broken = c.in-Err.ensures.told.step in
    record {
      answer = answers_early (visit_in c.args.of.now) c.args.of.now.head.now c.args.of.now.last
          (standing_of g.B.Desk.state g.K.Clock.answers g.R.Meanings g.C.Meanings c.args.around.now)
          (standing g.B.Desk.state g.K.Clock.answers g.R.Meanings g.C.Meanings c.args.around.now.desk.now c.args.around.now.clock.now c.args.around.now.reach.now c.begin.new.client c.args.around.now.inbox.now)
          c.args.body.now c.in-Some.worker c.in-Err.stop c.stopped.result mounted refl broken c.stopped.ensures;
      met = meets_early (continue_for c.args.of.now.head.now) (client_at g.C.Meanings c.args.around.now.client.now) (client_at g.C.Meanings c.begin.new.client) c.in-Err.stop
          c.stopped.result _ broken c.stopped.ensures;
      fault = rises_early (continue_for c.args.of.now.head.now) (client_at g.C.Meanings c.args.around.now.client.now) (client_at g.C.Meanings c.begin.new.client) c.in-Err.stop
          c.stopped.result broken c.stopped.ensures;
      kept = keeps_by _ _ _ _ _ _ c.requires.ready (untouched _ _) refl refl c.begin.ensures.told.kept (refl, refl, refl, refl, refl);
      dials = awaits_none _ _ _ _ _ refl;
    }

pub returns-in-Err-clause-going : goal.returns-in-Err-clause-going
returns-in-Err-clause-going g c = goes_on_new _ _ _ c.requires.fresh

-- the client of a request that is mounted nowhere
pub returns-in_default-clause-answer : goal.returns-in_default-clause-answer
returns-in_default-clause-answer g c =
    let none : mounted_at (visit_in c.args.of.now) c.args.of.now.head.now ≡ None = search rules in
    let found = c.not_found.ensures.step in
    record {
      answer = not_found_answers (visit_in c.args.of.now) c.args.of.now.head.now c.args.of.now.last
          (standing_of g.B.Desk.state g.K.Clock.answers g.R.Meanings g.C.Meanings c.args.around.now)
          (client_at g.C.Meanings c.not_found.new.client) c.args.body.now c.not_found.result none found;
      met = not_found_meets (visit_in c.args.of.now) c.args.of.now.head.now (client_at g.C.Meanings c.args.around.now.client.now) (client_at g.C.Meanings c.not_found.new.client) c.not_found.result _ found;
      fault = not_found_rises (visit_in c.args.of.now) c.args.of.now.head.now (client_at g.C.Meanings c.args.around.now.client.now) (client_at g.C.Meanings c.not_found.new.client) c.not_found.result found;
      kept = keeps_by _ _ _ _ _ _ c.requires.ready (untouched _ _) refl refl c.not_found.ensures.kept (refl, refl, refl, refl, refl);
      dials = awaits_none _ _ _ _ _ refl;
    }

pub returns-in_default-clause-going : goal.returns-in_default-clause-going
returns-in_default-clause-going g c = goes_on_new _ _ _ c.requires.fresh

-- its worker was asked
pub forward-requires-clause-ready : goal.forward-requires-clause-ready
forward-requires-clause-ready g c = c.requires.ready

pub forward-requires-clause-fresh : goal.forward-requires-clause-fresh
forward-requires-clause-fresh g c = c.requires.fresh

pub show-requires-clause-ready : goal.show-requires-clause-ready
show-requires-clause-ready g c = c.requires.ready

pub returns-in-Balancer-clause-answer : goal.returns-in-Balancer-clause-answer
returns-in-Balancer-clause-answer g c =
    let mounted : mounted_at (visit_in c.args.of.now) c.args.of.now.head.now ≡ Some c.in-Some.worker = search rules in
    let told = c.forward.ensures.answer in
    record {
      answer = told_on (visit_in c.args.of.now) c.args.of.now.head.now c.args.of.now.last
          (standing_of g.B.Desk.state g.K.Clock.answers g.R.Meanings g.C.Meanings c.args.around.now)
          (standing_of g.B.Desk.state g.K.Clock.answers g.R.Meanings g.C.Meanings c.forward.new.around) (client_at g.C.Meanings c.begin.new.client) _ _ _ _ c.in-Some.worker mounted
          c.in-Ok.ensures.told.step told.answer;
      met = told.met;
      fault = rises_from _ _ _ _ c.in-Ok.ensures.told.step.steady told.fault;
      kept = keeps_twice _ _ _ _ _ _ _
          (keeps_by _ _ _ _ _ _ c.requires.ready (untouched _ _) refl refl c.begin.ensures.told.kept (refl, refl, refl, refl, refl))
          told.kept;
      dials = told.dials;
    }

pub returns-in-Balancer-clause-going : goal.returns-in-Balancer-clause-going
returns-in-Balancer-clause-going g c = c.forward.ensures.going

pub returns-in-Status-clause-answer : goal.returns-in-Status-clause-answer
returns-in-Status-clause-answer g c =
    let mounted : mounted_at (visit_in c.args.of.now) c.args.of.now.head.now ≡ Some c.in-Some.worker = search rules in
    let told = c.show.ensures in
    record {
      answer = told_on (visit_in c.args.of.now) c.args.of.now.head.now c.args.of.now.last
          (standing_of g.B.Desk.state g.K.Clock.answers g.R.Meanings g.C.Meanings c.args.around.now)
          (standing_of g.B.Desk.state g.K.Clock.answers g.R.Meanings g.C.Meanings c.show.new.around) (client_at g.C.Meanings c.begin.new.client) _ _ _ _ c.in-Some.worker mounted
          c.in-Ok.ensures.told.step (told.answer c.args.body.now);
      met = told.met;
      fault = rises_from _ _ _ _ c.in-Ok.ensures.told.step.steady told.fault;
      kept = keeps_twice _ _ _ _ _ _ _
          (keeps_by _ _ _ _ _ _ c.requires.ready (untouched _ _) refl refl c.begin.ensures.told.kept (refl, refl, refl, refl, refl))
          told.kept;
      dials = told.dials;
    }

pub returns-in-Status-clause-going : goal.returns-in-Status-clause-going
returns-in-Status-clause-going g c = goes_on_new _ _ _ c.requires.fresh
