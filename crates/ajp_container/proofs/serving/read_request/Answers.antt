use Rattle.ajp_container.proofs.TurnLaws.{request-unread}
use Rattle.ajp_container.proofs.serving.read_request.Goals as goal

pub returns-in-Err : goal.returns-in-Err
returns-in-Err c = request-unread _ _ _ c.stopped_by.ensures c.in-Err.ensures.none
