-- No CPong came: CPing couldn't be sent whole, or something else came, or nothing.
use Rattle.ajp_talk.proofs.GreetingLaws.{heard_pong, ping_line, ping_wanted, unheard_pong}
use Rattle.jk_io.specs.Moments.{Moment}
use Rattle.ajp_wire.specs.Moments.{link_at}
use Rattle.ajp_talk.proofs.AwaitLaws.{pong_awaited}
use Rattle.ajp_talk.proofs.cping.greet.Goals as goal

pub returns-in-Err-Failed-clause-greeting : goal.returns-in-Err-Failed-clause-greeting
returns-in-Err-Failed-clause-greeting g c =
    let after : Moment = link_at g.L.Meanings c.send.new.line in
    let e = rw c.in-Err-Failed.field-0-is at c.in-Err-Failed.ensures.sent in
    ping_line c.args.plan.now _ after after c.args.sent.now c.send.new.sent 0 c.args.received.now
    c.if-not-plan.false c.requires.some c.requires.none_sent c.requires.none_received e.0 e.1 e.2 e.3

pub returns-in-Err-NoMemory-clause-greeting : goal.returns-in-Err-NoMemory-clause-greeting
returns-in-Err-NoMemory-clause-greeting g c =
    let after : Moment = link_at g.L.Meanings c.send.new.line in
    let e = rw c.in-Err-NoMemory.field-0-is at c.in-Err-NoMemory.ensures.sent in
    ping_wanted c.args.plan.now _ after after c.args.sent.now c.send.new.sent 0 c.args.received.now
    c.if-not-plan.false c.requires.none_sent c.requires.none_received e.0 e.1 e.2 e.3

pub returns-in-Err-clause-greeting : goal.returns-in-Err-clause-greeting
returns-in-Err-clause-greeting g c =
    let after : Moment = link_at g.L.Meanings c.send.new.line in
    unheard_pong c.args.plan.now _ after _ c.args.sent.now c.send.new.sent c.args.received.now c.receive.new.count c.in-Err.why
    c.if-not-plan.false c.requires.none_sent c.requires.none_received c.in-Ok.ensures.sent.0 c.in-Ok.ensures.sent.1 (rw c.await_on.ensures.same at c.in-Err.ensures.unheard)

pub returns-in-Ok-receive-clause-greeting : goal.returns-in-Ok-receive-clause-greeting
returns-in-Ok-receive-clause-greeting g c =
    let after : Moment = link_at g.L.Meanings c.send.new.line in
    rw c.pong_only.ensures
    (heard_pong c.args.plan.now _ after _ c.args.sent.now c.send.new.sent c.args.received.now c.receive.new.count c.in-Ok-receive.message
    c.if-not-plan.false c.requires.none_sent c.requires.none_received c.in-Ok.ensures.sent.0 c.in-Ok.ensures.sent.1 (rw c.await_on.ensures.same at c.in-Ok-receive.ensures.heard))

pub returns-in-Ok-receive-clause-awaits : goal.returns-in-Ok-receive-clause-awaits
returns-in-Ok-receive-clause-awaits g c = λ answered pings.
    pong_awaited g.L.Meanings g.L.Link.heard c.args.plan.now c.args.line.now c.send.new.line _ _ c.args.sent.now c.send.new.sent pings c.in-Ok.ensures.sent.0 c.await_on.ensures.heard c.await_on.ensures.same
