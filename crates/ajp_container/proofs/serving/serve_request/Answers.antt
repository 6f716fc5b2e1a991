use Rattle.std.proofs.Common.{sym, ◌∙◌}
use Rattle.std.proofs.lemmas.Result.{err_from_is_err_and}
use Rattle.ajp_container.proofs.TurnLaws.{answer-wanted, messages-sendable, messages-failed, messages-dropped, messages-served}
use Rattle.ajp_container.proofs.serving.serve_request.Goals as goal

pub returns-in_err-body-clause-served : goal.returns-in_err-body-clause-served
returns-in_err-body-clause-served g c =
    let p = err_from_is_err_and c.from_residual.result c.from_residual.ensures.1 in
    rw (p.1, p.2) c.in_err-body.ensures.took

pub returns-in_err-messages-clause-served : goal.returns-in_err-messages-clause-served
returns-in_err-messages-clause-served g c =
    let p = err_from_is_err_and c.from_residual-in_err-messages.result c.from_residual-in_err-messages.ensures.1 in
    rw (p.1, p.2) (answer-wanted _ _ _ _ _ c.in_ok-body.ensures.took)

pub send-requires : goal.send-requires
send-requires g c =
    messages-sendable c.args.app.now c.args.forward.now c.in_ok-body.body _ (c.as_slice.ensures ∙ c.in_ok-messages.ensures.answer) c.in_ok-body.ensures.small

pub returns-in_err-send-clause-served : goal.returns-in_err-send-clause-served
returns-in_err-send-clause-served g c =
    let p = err_from_is_err_and c.from_residual-in_err-send.result c.from_residual-in_err-send.ensures.1 in
    rw (p.1, p.2)
    (messages-failed _ _ _ _ _ _ _ _ (c.as_slice.ensures ∙ c.in_ok-messages.ensures.answer) c.in_ok-body.ensures.took c.in_err-send.ensures.sent)

pub returns-then-is_drop-clause-served : goal.returns-then-is_drop-clause-served
returns-then-is_drop-clause-served g c =
    let gone = rw c.application_of.ensures at (sym c.is_drop.ensures ∙ c.if-is_drop.true) in
    messages-dropped _ _ _ _ _ _ _ (c.as_slice.ensures ∙ c.in_ok-messages.ensures.answer) c.in_ok-body.ensures.took c.in_ok-send.ensures.sent gone

pub returns-clause-served : goal.returns-clause-served
returns-clause-served g c =
    let stays = rw c.application_of.ensures at (sym c.is_drop.ensures ∙ c.if-is_drop.false) in
    messages-served _ _ _ _ _ _ _ (c.as_slice.ensures ∙ c.in_ok-messages.ensures.answer) c.in_ok-body.ensures.took c.in_ok-send.ensures.sent stays
