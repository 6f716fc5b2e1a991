-- A piece was sent, or the body can't be taken further, and nothing was sent.
use Rattle.std.proofs.Common.{ap, subst, ◌∙◌}
use Rattle.jk_io.specs.Moments.{Moment}
use Rattle.http_front.specs.Takes.{body_at, MeetsFault, TakesPiece}
use Rattle.http_front.specs.Wants.{Next}
use Rattle.ajp_wire.specs.Moments.{link_at}
use Rattle.ajp_talk.proofs.SendingLaws.{ask-refused, ask-sent, refused-calm}
use Rattle.ajp_talk.proofs.body_piece.answer_ask.Goals as goal

pub returns-in-Err-clause-turn : goal.returns-in-Err-clause-turn
returns-in-Err-clause-turn g c =
    let e =
    subst (λ (m : Moment). MeetsFault (body_at c.args.upload.now.body.now c.args.upload.now.inbox.now m) (body_at c.take.new.self c.take.new.inbox (link_at g.C.Meanings c.take.new.client)) (Next c.args.n) c.in-Err.fault)
    c.await_on.ensures.same c.in-Err.ensures.err in
    rw c.fault_turn.ensures
    (ask-refused c.args.n _ c.args.sent.now
    (link_at g.C.Meanings c.args.client.now)
    (link_at g.C.Meanings c.take.new.client)
    _ _ _ _ c.in-Err.fault (record { gone = e.gone; used = e.used; most = e.most })
    (λ is. e.truncated is c.requires.going) (λ is. e.bad is c.requires.going) (λ is. e.too_long is c.requires.going) (λ is. e.fault is c.requires.going))

pub returns-in-Ok-clause-turn : goal.returns-in-Ok-clause-turn
returns-in-Ok-clause-turn g c =
    let e =
    subst (λ (m : Moment). TakesPiece (body_at c.args.upload.now.body.now c.args.upload.now.inbox.now m) (body_at c.take.new.self c.take.new.inbox (link_at g.C.Meanings c.take.new.client)) c.args.n c.in-Ok.piece)
    c.await_on.ensures.same c.in-Ok.ensures.ok in
    let sent = rw c.as_slice.ensures at c.send_piece.ensures.sent in
    rw c.sent_turn.ensures
    (ask-sent c.args.n (link_at g.L.Meanings c.args.line.now) (link_at g.L.Meanings c.send_piece.new.line) c.args.sent.now c.send_piece.new.sent
    (link_at g.C.Meanings c.args.client.now) (link_at g.C.Meanings c.take.new.client) _ _ c.in-Ok.piece c.send_piece.result
    (record { within = e.within; data' = e.next; left = e.left; uses = e.on.uses; counts = e.on.taken; going = e.on.goes_on; most = e.on.most }) sent)

pub returns-in-Err-clause-calm : goal.returns-in-Err-clause-calm
returns-in-Err-clause-calm g c = rw c.fault_turn.ensures (λ calm. refused-calm c.in-Err.fault _ _ c.in-Err.ensures.err.steady calm ∙ ap (λ (m : Moment). m.faults) c.await_on.ensures.same)

pub returns-in-Ok-clause-calm : goal.returns-in-Ok-clause-calm
returns-in-Ok-clause-calm g c = λ calm. c.in-Ok.ensures.ok.on.steady ∙ ap (λ (m : Moment). m.faults) c.await_on.ensures.same
