-- The request's turn: it ends the session, or the rest of its body was read.
use Rattle.std.proofs.Common.{refl, sym, ◌∙◌}
use Rattle.http_front.specs.Takes.{body_at}
use Rattle.exchange.proofs.AwaitLaws.{awaits_none}
use Rattle.status_worker.proofs.DeskLaws.{none_met, untouched}
use Rattle.client_session.specs.Requests.{visit_at, visit_of}
use Rattle.client_session.specs.Standings.{client_at, standing}
use Rattle.client_session.specs.Surroundings.{standing_of}
use Rattle.client_session.specs.declared.ending.SessionStop.TheVariants as stop
use Rattle.client_session.specs.declared.turn.SessionTurn.TheVariants as turn
use Rattle.client_session.proofs.KeepingLaws.{keeps_by, keeps_twice}
use Rattle.client_session.proofs.MomentLaws.{clocked, head_clocked, next_since, turned_now}
use Rattle.client_session.proofs.SurroundingsLaws.{keeps_still}
use Rattle.client_session.proofs.TurnLaws.{follows_meets, follows_rises, none_next, not_last, turn_busy, turn_follows, unrowed}
use Rattle.client_session.proofs.serving.serve_head.Goals as goal

pub returns-in_default : goal.returns-in_default
returns-in_default g c =
    let clock = g.K.Clock.answers c.moment_of-date.new.clock in
    let now =
    standing g.B.Desk.state g.K.Clock.answers g.R.Meanings g.C.Meanings c.args.around.now.desk.now c.moment_of-date.new.clock c.args.around.now.reach.now c.args.around.now.client.now
    c.args.around.now.inbox.now in
    record {
      turned = λ s reads.
          turned_now (visit_of c.args.site.now) c.args.number s now clock c.moment_of-date.result _ (turn.EndsAt stop.NoMemory)
          (next_since _ _ _ _ _ _ reads c.moment_of-date.ensures)
          (unrowed (visit_at (visit_of c.args.site.now) c.moment_of-date.result) c.args.number (clocked s clock) now _ c.new-body.result _
          (record { place = c.new-body.ensures.place; most = c.new-body.ensures.most; taken = c.new-body.ensures.taken; going = c.new-body.ensures.failed })
          c.room.ensures.same (head_clocked _ _ _ clock reads));
      more = λ next. none_next _ _ next;
      busy = tt;
      met = none_met _;
      fault = refl;
      kept = keeps_by _ _ _ _ _ _ c.requires.ready (untouched _ _) refl refl (keeps_still g.C.Meanings _) (refl, refl, refl, refl, refl);
      dials = awaits_none _ _ _ _ _ refl;
    }

pub returns : goal.returns
returns g c =
    let clock = g.K.Clock.answers c.moment_of-date.new.clock in
    let told = c.answer-answered.ensures.answer in
    let after = c.turn_after.ensures.turned in
    record {
      turned = λ s reads.
          turned_now (visit_of c.args.site.now) c.args.number s _ clock c.moment_of-date.result _ c.turn_after.result
          (next_since _ _ _ _ _ _ reads c.moment_of-date.ensures)
          (turn_follows _ _ (clocked s clock) _
          (standing_of g.B.Desk.state g.K.Clock.answers g.R.Meanings g.C.Meanings c.answer-answered.new.around)
          (standing g.B.Desk.state g.K.Clock.answers g.R.Meanings g.C.Meanings c.answer-answered.new.around.desk.now c.answer-answered.new.around.clock.now c.answer-answered.new.around.reach.now c.turn_after.new.client c.turn_after.new.inbox)
          _ c.new-body.result c.answer-answered.new.body c.turn_after.new.body c.answer-answered.result.answered c.is_last-last.result _ _ c.turn_after.result
          (record { place = c.new-body.ensures.place; most = c.new-body.ensures.most; taken = c.new-body.ensures.taken; going = c.new-body.ensures.failed })
          (g.met.W.RowSink.gains_on _ _ _ _ _ c.room.ensures.same c.put_row.ensures) c.is_last-last.ensures told.answer told.fault
          c.answer-answered.ensures.going refl after.step (head_clocked _ _ _ clock reads));
      more = λ next. not_last c.args.number c.args.head.now (sym c.is_last-last.ensures ∙ c.turn_after.ensures.more next) c.requires.number;
      busy = turn_busy _ _ _ _ _ _ _ _ c.answer-answered.result.answered _ _ _ c.turn_after.result told.answer after.step;
      met = follows_meets c.answer-answered.result.answered c.is_last-last.result (body_at c.answer-answered.new.body c.answer-answered.new.around.inbox.now (client_at g.C.Meanings c.answer-answered.new.around.client.now))
          (body_at c.turn_after.new.body c.turn_after.new.inbox (client_at g.C.Meanings c.turn_after.new.client)) c.turn_after.result _ _ after.step told.met;
      fault = follows_rises c.answer-answered.result.answered c.is_last-last.result (body_at c.answer-answered.new.body c.answer-answered.new.around.inbox.now (client_at g.C.Meanings c.answer-answered.new.around.client.now))
          (body_at c.turn_after.new.body c.turn_after.new.inbox (client_at g.C.Meanings c.turn_after.new.client)) c.turn_after.result _ c.answer-answered.ensures.going
          after.step told.fault;
      kept = let k = told.kept in
          keeps_twice _ _ _ _ _ c.answer-answered.new.around _
          (record { ready = k.ready; kept = k.kept; beside = k.beside; reach_faults = k.reach_faults; client_faults = k.client_faults; same = k.same })
          (keeps_by _ _ _ _ _ _ k.ready (untouched _ _) refl refl after.kept (refl, refl, refl, refl, refl));
      dials = told.dials;
    }

pub answer-answered-requires-clause-ready : goal.answer-answered-requires-clause-ready
answer-answered-requires-clause-ready g c = c.requires.ready
