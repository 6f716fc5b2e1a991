-- Each way out of a talk, from how it stood and from its last turn.
use Rattle.std.proofs.Common.{refl, sym, ap, ◌∙◌, arith, Ok}
use Rattle.http_front.specs.Unread.{unread}
use Rattle.ajp_talk.proofs.AskLaws.{untaken-same}
use Rattle.ajp_talk.proofs.CompleteLaws.{completed}
use Rattle.ajp_talk.proofs.EndLaws.{on, on_more, on_course}
use Rattle.ajp_talk.proofs.LostLaws.{lost}
use Rattle.ajp_talk.proofs.TalkLaws.{calm_turn, ended_talk, lost_calm, lost_talk}
use Rattle.ajp_talk.proofs.talking.talk.Goals as goal

pub returns-in-Some-clause-talk : goal.returns-in-Some-clause-talk
returns-in-Some-clause-talk g c = record {
  talk = c.in-Some.ensures.begins _ _ c.requires.first c.requires.going;
  line = c.begin.ensures.keeps.no_fewer;
  client = omega arith;
  calm = λ calm. refl;
}

-- ---- message by message

pub loop-room-init : goal.loop-room-init
loop-room-init g c = record {
  stands = c.in-None.ensures.begins _ _ c.requires.first c.requires.going;
  line_beside = c.begin.ensures.keeps.beside;
  client_beside = refl;
  line_faults = c.begin.ensures.keeps.no_fewer;
  client_faults = refl;
  same = (refl, refl);
}

pub loop-room-preserved : goal.loop-room-preserved
loop-room-preserved g c =
    let i = c.loop-room.invariant in
    record {
      stands = on c.args.plan.now _ _ _ c.loop-room.course c.step.new.course i.stands c.requires.plan c.in-On.ensures.turn;
      line_beside = c.step.ensures.keeps.0.beside ∙ i.line_beside;
      client_beside = c.step.ensures.keeps.1.beside ∙ i.client_beside;
      line_faults = omega (arith, c.step.ensures.keeps.0.no_fewer, i.line_faults);
      client_faults = c.in-On.ensures.calm tt ∙ i.client_faults;
      same = (c.step.ensures.same.0 ∙ i.same.0, c.step.ensures.same.1 ∙ i.same.1);
    }

pub loop-room-smaller : goal.loop-room-smaller
loop-room-smaller g c =
    let i = c.loop-room.invariant in
    let more = on_more c.args.plan.now _ _ _ c.loop-room.course c.step.new.course i.stands c.requires.plan c.in-On.ensures.turn in
    let below = i.stands.stands.below in
    omega (arith, more, below)

pub step-requires : goal.step-requires
step-requires g c =
    let i = c.loop-room.invariant in
    record { plan = c.requires.plan; course = on_course _ _ _ _ i.stands; going = i.stands.stands.takes.going }

-- ---- the ends

pub lost-requires : goal.lost-requires
lost-requires g c =
    let i = c.loop-room.invariant in
    let l = lost c.args.plan.now _ _ _ c.loop-room.course c.step.new.course i.stands c.requires.plan (omega (arith, i.client_faults)) c.in-Lost.ensures.turn in
    record { plan = c.requires.plan; lost = l.lost; below = l.below }

pub returns-in-Lost-clause-talk : goal.returns-in-Lost-clause-talk
returns-in-Lost-clause-talk g c =
    let i = c.loop-room.invariant in
    let body = c.body-1.given.1 (sym (c.step.ensures.same.0 ∙ i.same.0)) in
    let inbox = c.inbox-1.given.1 (sym (c.step.ensures.same.1 ∙ i.same.1)) in
    rw (body, inbox)
    (record {
      talk = lost_talk c.args.plan.now _ _ _ c.step.new.course c.lost.new.course c.lost.result c.requires.plan
          (lost c.args.plan.now _ _ _ c.loop-room.course c.step.new.course i.stands c.requires.plan (omega (arith, i.client_faults)) c.in-Lost.ensures.turn)
          (untaken-same _ _ (record { body = refl; unread = ap (unread c.step.new.upload.inbox.now) c.lost.ensures.incoming })) c.lost.ensures.keeps.1.no_fewer c.lost.ensures.ended;
      line = omega (arith, c.lost.ensures.keeps.0.no_fewer, c.step.ensures.keeps.0.no_fewer, i.line_faults);
      client = omega (arith, c.lost.ensures.keeps.1.no_fewer, c.step.ensures.keeps.1.no_fewer, i.client_faults);
      calm = λ calm. absurd (lost_calm c.args.plan.now _ _ _ _ c.step.new.course c.lost.new.course c.lost.result c.lost.ensures.ended calm);
    })

pub returns-in-Some-clause-complete : goal.returns-in-Some-clause-complete
returns-in-Some-clause-complete g c = λ all w. completed _ _ _ all w _ (returns-in-Some-clause-talk g c).talk

pub returns-in-Lost-clause-complete : goal.returns-in-Lost-clause-complete
returns-in-Lost-clause-complete g c = λ all w. completed _ _ _ all w (Ok c.lost.result) (returns-in-Lost-clause-talk g c).talk

pub ended-requires : goal.ended-requires
ended-requires g c = record { plan = c.requires.plan; over = c.in_default.not-On; stays = c.in_default.not-Lost }

pub returns-in_default-clause-talk : goal.returns-in_default-clause-talk
returns-in_default-clause-talk g c =
    let i = c.loop-room.invariant in
    let body = c.body-in_default-1.given.1 (sym (c.step.ensures.same.0 ∙ i.same.0)) in
    let inbox = c.inbox-in_default-1.given.1 (sym (c.step.ensures.same.1 ∙ i.same.1)) in
    rw (body, inbox)
    (record {
      talk = rw c.ended.ensures
          (ended_talk c.args.plan.now _ _ _ c.loop-room.course c.step.new.course (record {}) c.taken.result c.step.result i.stands c.requires.plan c.requires.first
          i.line_faults (omega (arith, i.client_faults)) c.taken.ensures c.in_default.not-On c.in_default.not-Lost c.step.ensures.turn);
      line = omega (arith, c.step.ensures.keeps.0.no_fewer, i.line_faults);
      client = omega (arith, c.step.ensures.keeps.1.no_fewer, i.client_faults);
      calm = λ calm. c.step.ensures.calm (calm_turn (record {}) c.args.plan.now c.step.new.course c.taken.result c.step.result c.in_default.not-Lost (rw c.ended.ensures at calm)) ∙ i.client_faults;
    })

pub returns-in_default-clause-complete : goal.returns-in_default-clause-complete
returns-in_default-clause-complete g c = λ all w. completed _ _ _ all w _ (returns-in_default-clause-talk g c).talk

pub returns-in_default-clause-beside : goal.returns-in_default-clause-beside
returns-in_default-clause-beside g c =
    let i = c.loop-room.invariant in
    (c.step.ensures.keeps.0.beside ∙ i.line_beside, c.step.ensures.keeps.1.beside ∙ i.client_beside)

pub returns-in-Some-clause-beside : goal.returns-in-Some-clause-beside
returns-in-Some-clause-beside g c = (c.begin.ensures.keeps.beside, refl)

pub returns-in-Lost-clause-beside : goal.returns-in-Lost-clause-beside
returns-in-Lost-clause-beside g c =
    let i = c.loop-room.invariant in
    let s = c.step.ensures.keeps in
    let l = c.lost.ensures.keeps in
    (l.0.beside ∙ s.0.beside ∙ i.line_beside, l.1.beside ∙ s.1.beside ∙ i.client_beside)

-- ---- what the link is told

pub returns-in-Some-clause-awaits : goal.returns-in-Some-clause-awaits
returns-in-Some-clause-awaits g c = λ heard. absurd (c.in-Some.ensures.unheard heard)

pub returns-in-Lost-clause-awaits : goal.returns-in-Lost-clause-awaits
returns-in-Lost-clause-awaits g c = λ heard. c.in-None.ensures.awaits refl

pub returns-in_default-clause-awaits : goal.returns-in_default-clause-awaits
returns-in_default-clause-awaits g c = λ heard. c.in-None.ensures.awaits refl
