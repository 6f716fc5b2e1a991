-- A head was read, the bytes ended, or no head was read.
use Rattle.std.proofs.Common.{None, refl, ◌∙◌, arith}
use Rattle.client_session.specs.Requests.{visit_at, visit_of}
use Rattle.client_session.specs.Standings.{client_at, standing}
use Rattle.client_session.specs.Surroundings.{standing_of}
use Rattle.client_session.specs.declared.turn.SessionTurn.TheVariants as turn
use Rattle.exchange.proofs.AwaitLaws.{awaits_none}
use Rattle.status_worker.proofs.DeskLaws.{none_met, untouched}
use Rattle.client_session.proofs.KeepingLaws.{keeps_by, keeps_twice}
use Rattle.client_session.proofs.SessionLaws.{ends_by_client, meets_without_head, rises_without_head, without_head}
use Rattle.client_session.proofs.MomentLaws.{clocked, turned_now, turned_unread}
use Rattle.client_session.proofs.SurroundingsLaws.{keeps_link_twice}
use Rattle.client_session.proofs.TurnLaws.{busy_without_head, none_next, rises_since}
use Rattle.client_session.proofs.serving.serve_one.Goals as goal

pub returns-in-Ok-Head-clause-turn : goal.returns-in-Ok-Head-clause-turn
returns-in-Ok-Head-clause-turn g c =
    let told = c.serve_head.ensures in
    record {
      turned = told.turned
          (standing_of g.B.Desk.state g.K.Clock.answers g.R.Meanings g.C.Meanings c.args.around.now)
          (record {
            used = rw (c.in-Ok-Head.field-0-is, c.await_next.ensures.same_bytes.0) at c.in-Ok-Head.ensures.head;
            on = record { alone = refl; sent = c.read_head.ensures.same.0 ∙ c.await_next.ensures.same_bytes.2; steady = c.in-Ok-Head.ensures.steady tt ∙ c.await_next.ensures.same.1 };
          });
      more = told.more;
      busy = told.busy;
      met = told.met;
      fault = rises_since _ _ _ _ (c.in-Ok-Head.ensures.steady tt ∙ c.await_next.ensures.same.1) told.fault;
      kept = keeps_twice _ _ _ _ _ _ _
          (keeps_by _ _ _ _ _ _ c.requires.ready (untouched _ _) refl refl
          (record { beside = c.read_head.ensures.same.1 ∙ c.await_next.ensures.same.0; no_fewer = omega (arith, c.read_head.ensures.no_fewer, c.await_next.ensures.same.1) })
          (refl, refl, refl, refl, refl))
          told.kept;
      dials = told.dials;
    }

pub returns-in-Ok-End-clause-turn : goal.returns-in-Ok-End-clause-turn
returns-in-Ok-End-clause-turn g c = record {
  turned = turned_unread _ _ _ _ _
      (ends_by_client (visit_at (visit_of c.args.site.now) None) c.args.number
      (standing_of g.B.Desk.state g.K.Clock.answers g.R.Meanings g.C.Meanings c.args.around.now)
      (standing g.B.Desk.state g.K.Clock.answers g.R.Meanings g.C.Meanings c.args.around.now.desk.now c.args.around.now.clock.now c.args.around.now.reach.now c.read_head.new.client c.read_head.new.inbox) _
      (g.met.W.RowSink.gains_nothing _)
      (record {
        used = rw (c.in-Ok-End.field-0-is, c.await_next.ensures.same_bytes.0) at c.in-Ok-End.ensures.end;
        on = record { alone = refl; sent = c.read_head.ensures.same.0 ∙ c.await_next.ensures.same_bytes.2; steady = c.in-Ok-End.ensures.steady tt ∙ c.await_next.ensures.same.1 };
      }));
  more = λ next. none_next _ _ next;
  busy = tt;
  met = none_met _;
  fault = c.in-Ok-End.ensures.steady tt ∙ c.await_next.ensures.same.1;
  kept = keeps_by _ _ _ _ _ _ c.requires.ready (untouched _ _) refl refl
      (record { beside = c.read_head.ensures.same.1 ∙ c.await_next.ensures.same.0; no_fewer = omega (arith, c.read_head.ensures.no_fewer, c.await_next.ensures.same.1) })
      (refl, refl, refl, refl, refl);
  dials = awaits_none _ _ _ _ _ refl;
}

pub returns-in-Err-clause-turn : goal.returns-in-Err-clause-turn
returns-in-Err-clause-turn g c =
    let clock = g.K.Clock.answers c.moment_of-date.new.clock in
    let s = standing_of g.B.Desk.state g.K.Clock.answers g.R.Meanings g.C.Meanings c.args.around.now in
    let read =
    standing g.B.Desk.state g.K.Clock.answers g.R.Meanings g.C.Meanings c.args.around.now.desk.now c.moment_of-date.new.clock c.args.around.now.reach.now c.read_head.new.client
    c.read_head.new.inbox in
    let end =
    standing g.B.Desk.state g.K.Clock.answers g.R.Meanings g.C.Meanings c.args.around.now.desk.now c.moment_of-date.new.clock c.args.around.now.reach.now c.stop_without_head.new.client
    c.read_head.new.inbox in
    let stops = c.stop_without_head.ensures.step in
    record {
      turned = turned_now (visit_of c.args.site.now) c.args.number s end clock c.moment_of-date.result _ (turn.EndsAt c.stop_without_head.result) c.moment_of-date.ensures
          (without_head (visit_at (visit_of c.args.site.now) c.moment_of-date.result) c.args.number (clocked s clock) read end
          c.in-Err.error _ c.stop_without_head.result
          (record {
            alone = refl;
            sent = c.read_head.ensures.same.0 ∙ c.await_next.ensures.same_bytes.2;
            unused = rw c.await_next.ensures.same_bytes.0 at c.in-Err.ensures.err;
            no_fewer = omega (arith, c.read_head.ensures.no_fewer, c.await_next.ensures.same.1);
            refused = c.in-Err.ensures.refused;
            truncated = c.in-Err.ensures.truncated;
            fault = rw c.await_next.ensures.same.1 at c.in-Err.ensures.fault;
            awaited = c.in-Err.ensures.awaited;
            steady = λ calm. c.in-Err.ensures.steady calm ∙ c.await_next.ensures.same.1;
          })
          refl stops);
      more = λ next. none_next _ _ next;
      busy = busy_without_head c.moment_of-date.result c.in-Err.error (client_at g.C.Meanings c.read_head.new.client) (client_at g.C.Meanings c.stop_without_head.new.client) _
          c.stop_without_head.result stops;
      met = meets_without_head c.moment_of-date.result c.in-Err.error (client_at g.C.Meanings c.read_head.new.client) (client_at g.C.Meanings c.stop_without_head.new.client) _
          c.stop_without_head.result _ stops;
      fault = rises_without_head c.moment_of-date.result s
          (standing g.B.Desk.state g.K.Clock.answers g.R.Meanings g.C.Meanings c.args.around.now.desk.now c.args.around.now.clock.now c.args.around.now.reach.now c.read_head.new.client c.read_head.new.inbox)
          (client_at g.C.Meanings c.stop_without_head.new.client) c.in-Err.error _ c.stop_without_head.result
          (record {
            alone = refl;
            sent = c.read_head.ensures.same.0 ∙ c.await_next.ensures.same_bytes.2;
            unused = rw c.await_next.ensures.same_bytes.0 at c.in-Err.ensures.err;
            no_fewer = omega (arith, c.read_head.ensures.no_fewer, c.await_next.ensures.same.1);
            refused = c.in-Err.ensures.refused;
            truncated = c.in-Err.ensures.truncated;
            fault = rw c.await_next.ensures.same.1 at c.in-Err.ensures.fault;
            awaited = c.in-Err.ensures.awaited;
            steady = λ calm. c.in-Err.ensures.steady calm ∙ c.await_next.ensures.same.1;
          })
          stops;
      kept = keeps_by _ _ _ _ _ _ c.requires.ready (untouched _ _) refl refl
          (keeps_link_twice g.C.Meanings c.args.around.now.client.now c.read_head.new.client _
          (record { beside = c.read_head.ensures.same.1 ∙ c.await_next.ensures.same.0; no_fewer = omega (arith, c.read_head.ensures.no_fewer, c.await_next.ensures.same.1) })
          c.stop_without_head.ensures.kept)
          (refl, refl, refl, refl, refl);
      dials = awaits_none _ _ _ _ _ refl;
    }

pub serve_head-requires-clause-ready : goal.serve_head-requires-clause-ready
serve_head-requires-clause-ready g c = c.requires.ready

pub serve_head-requires-clause-number : goal.serve_head-requires-clause-number
serve_head-requires-clause-number g c = c.requires.number
