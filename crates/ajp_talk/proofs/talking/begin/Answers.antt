-- The talk begins where CPong came, if it was asked for, and the request went out.
use Rattle.std.proofs.Common.{ap, refl}
use Rattle.ajp_talk.specs.declared.course.Course.{Course}
use Rattle.ajp_talk.proofs.AwaitLaws.{fresh-headers, reply_awaited, unanswered_unheard}
use Rattle.ajp_talk.proofs.GreetingLaws.{begins_on, begins_failed, begins_wanted, begins_unanswered, fresh-counts}
use Rattle.ajp_talk.proofs.talking.begin.Goals as goal

pub greet-requires : goal.greet-requires
greet-requires g c = record {
  some = c.requires.plan.some_bytes;
  none_sent = ap (λ (k : Course). k.sent) c.requires.begun;
  none_received = ap (λ (k : Course). k.received) c.requires.begun;
}

pub returns-in-Err-clause-begins : goal.returns-in-Err-clause-begins
returns-in-Err-clause-begins g c =
    rw c.unanswered.ensures (begins_unanswered c.args.plan.now _ _ c.args.course.now c.greet.new.sent c.greet.new.received (record {}) c.in-Err.why c.in-Err.ensures.greeting)

pub returns-in-Ok-send_request-clause-begins : goal.returns-in-Ok-send_request-clause-begins
returns-in-Ok-send_request-clause-begins g c =
    let e = c.in-Ok-send_request.ensures.sent in
    rw c.await_on.ensures.same
    (begins_on c.args.plan.now _ _ _ _ c.greet.new.sent c.send_request.new.sent c.greet.new.received c.requires.plan
    (fresh-counts c.args.plan.now c.args.course.now c.send_request.new.sent c.greet.new.received c.requires.begun) c.in-Ok.ensures.greeting e.0 e.1)

pub returns-in-Err-Failed-clause-begins : goal.returns-in-Err-Failed-clause-begins
returns-in-Err-Failed-clause-begins g c =
    let e = rw c.in-Err-Failed.field-0-is at c.in-Err-Failed.ensures.sent in
    rw c.failed.ensures
    (begins_failed c.args.plan.now _ _ _ _ c.greet.new.sent c.send_request.new.sent c.greet.new.received e.0 c.len.result c.requires.plan c.len.ensures
    (fresh-counts c.args.plan.now c.args.course.now c.send_request.new.sent c.greet.new.received c.requires.begun) c.in-Ok.ensures.greeting c.greet.ensures.keeps.no_fewer e.1 e.2 e.3)

pub returns-in-Err-NoMemory-clause-begins : goal.returns-in-Err-NoMemory-clause-begins
returns-in-Err-NoMemory-clause-begins g c =
    let e = rw c.in-Err-NoMemory.field-0-is at c.in-Err-NoMemory.ensures.sent in
    begins_wanted c.args.plan.now _ _ _ c.args.course.now c.greet.new.sent c.send_request.new.sent c.greet.new.received e.0 (record {}) c.requires.plan c.in-Ok.ensures.greeting e.1 e.2 e.3

-- ---- what the link is told

pub returns-in-Ok-send_request-clause-awaits : goal.returns-in-Ok-send_request-clause-awaits
returns-in-Ok-send_request-clause-awaits g c = λ none. record {
  pong = c.in-Ok.ensures.awaits refl;
  reply = reply_awaited g.L.Meanings g.L.Link.heard c.args.plan.now c.args.line.now c.send_request.new.line _ _ c.greet.new.sent c.send_request.new.sent
      c.greet.new.line c.greet.new.received c.in-Ok.ensures.greeting c.in-Ok-send_request.ensures.sent.0 c.await_on.ensures.heard c.await_on.ensures.same;
}

pub returns-in-Err-clause-unheard : goal.returns-in-Err-clause-unheard
returns-in-Err-clause-unheard g c = rw c.unanswered.ensures (unanswered_unheard (record {}) c.greet.new.sent c.greet.new.received c.in-Err.why)

pub returns-in-Err-Failed-clause-unheard : goal.returns-in-Err-Failed-clause-unheard
returns-in-Err-Failed-clause-unheard g c =
    rw c.failed.ensures
    (fresh-headers c.args.plan.now _ c.send_request.new.sent c.greet.new.received
    (fresh-counts c.args.plan.now c.args.course.now c.send_request.new.sent c.greet.new.received c.requires.begun))
