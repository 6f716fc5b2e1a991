use Rattle.ajp_container.proofs.TurnLaws.{ping-taken, turn-strange}
use Rattle.ajp_container.proofs.serving.serve_taken.Goals as goal

pub returns-in-Some-Ping-clause-took : goal.returns-in-Some-Ping-clause-took
returns-in-Some-Ping-clause-took g c = λ before taken.
    let begun = rw c.in-Some-Ping.field-0-is at c.in-Some-Ping.ensures in
    ping-taken _ _ _ _ _ c.pong.result taken begun c.pong.ensures.sent c.pong.ensures.kind

pub returns-in-Some-Request-clause-took : goal.returns-in-Some-Request-clause-took
returns-in-Some-Request-clause-took g c = c.serve_read.ensures.took

pub returns-in-None-clause-took : goal.returns-in-None-clause-took
returns-in-None-clause-took g c = λ before taken. turn-strange _ _ _ _ taken c.in-None.ensures
