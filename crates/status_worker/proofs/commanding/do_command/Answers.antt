-- A refusal is told with the numbers of its mark.
use Rattle.std.proofs.Common.{◌∙◌}
use Rattle.status_worker.proofs.RefusalLaws.{plain_error, plainly, same_page}
use Rattle.status_worker.proofs.commanding.do_command.Goals as goal

pub returns-in-Err-clause-err : goal.returns-in-Err-clause-err
returns-in-Err-clause-err g c = (
  plain_error g.B.Desk.numbers c.in-Err.error,
  record {
    at = c.now-at.result;
    asked_at = c.now-at.ensures;
    refused = plainly g.B.Desk.numbers _ _ _ _ _ _ c.in-Err.error c.in-Err.ensures.err;
    held = c.command.ensures.held;
  },
  c.no_page.ensures ∙ same_page g.B.Desk.numbers c.in-Err.error,
)
