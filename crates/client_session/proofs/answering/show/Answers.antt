-- The page was shown, or an own answer took its place, or nothing whole was written.
use Rattle.std.proofs.Common.{ap}
use Rattle.exchange.proofs.AwaitLaws.{awaits_none}
use Rattle.client_session.specs.Requests.{visit_in}
use Rattle.client_session.proofs.AnswerLaws.{at_status}
use Rattle.client_session.proofs.KeepingLaws.{room_for_status, shown_answers, shown_known, shown_meets, shown_rises}
use Rattle.client_session.proofs.answering.show.Goals as goal

pub serve_status-answer-requires : goal.serve_status-answer-requires
serve_status-answer-requires g c = record { ready = c.requires.ready }

pub shown-requires-clause-room : goal.shown-requires-clause-room
shown-requires-clause-room g c =
    room_for_status c.args.of.now.site.now.cfg.now c.args.of.now.head.now c.args.row c.args.place c.index-as_slice-place.result c.requires.room c.requires.worker
    (rw c.as_slice.ensures at c.index-as_slice-place.is)

pub shown-requires-clause-known : goal.shown-requires-clause-known
shown-requires-clause-known g c =
    shown_known (visit_in c.args.of.now) c.args.of.now.head.now c.args.of.now.last _ _ c.index-as_slice-place.result c.serve_status-answer.result
    c.serve_status-answer.ensures.answer

pub returns : goal.returns
returns g c =
    let is = rw c.is_head.ensures at c.shown.ensures in
    record {
      answer = λ body.
          shown_answers (visit_in c.args.of.now) c.args.of.now.head.now c.args.of.now.last _ _ body c.index-as_slice-place.result c.serve_status-answer.result _ c.shown.result
          (at_status _ _ _ c.index-as_slice-place.result c.requires.mounted c.requires.worker (rw c.as_slice.ensures at c.index-as_slice-place.is))
          c.serve_status-answer.ensures.answer c.requires.room.1.asked' is;
      met = shown_meets (visit_in c.args.of.now) c.args.of.now.head.now c.args.of.now.last _ _ c.index-as_slice-place.result c.serve_status-answer.result _ c.shown.result _ _
          c.serve_status-answer.ensures.answer is c.serve_status-answer.ensures.met;
      fault = shown_rises (visit_in c.args.of.now) c.args.of.now.head.now c.args.of.now.last _ _ c.index-as_slice-place.result c.serve_status-answer.result _ c.shown.result
          c.serve_status-answer.ensures.answer is;
      kept = c.serve_status-answer.ensures.kept;
      dials = awaits_none _ _ _ _ _ (ap (λ r. (g.R.Meanings.beside r).talks) c.serve_status-answer.ensures.same_reach);
    }
