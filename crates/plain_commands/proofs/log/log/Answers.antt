use Rattle.std.proofs.Common.{inr}
use Rattle.plain_commands.proofs.LogLemmas.{logged_ok, refused_ok}
use Rattle.plain_commands.proofs.PlainLemmas.{never_caused}
use Rattle.plain_commands.proofs.log.log.Goals as goal

pub returns-in-Ok-clause-ok : goal.returns-in-Ok-clause-ok
returns-in-Ok-clause-ok g c =
    let n = c.args.names.now in
    logged_ok _ c.args.format.now n.request.now n.reply.now n.workers.now n.map.now c.in-Ok.format c.log_over.result
    (rw c.as_slice.ensures at c.in-Ok.ensures.ok) c.log_over.ensures.ok

pub returns-in-Ok-clause-format : goal.returns-in-Ok-clause-format
returns-in-Ok-clause-format g c = inr (c.in-Ok.format, rw c.as_slice.ensures at c.in-Ok.ensures.ok)

pub returns-in-Err-BadFormat-clause-ok : goal.returns-in-Err-BadFormat-clause-ok
returns-in-Err-BadFormat-clause-ok g c =
    let n = c.args.names.now in
    refused_ok _ c.args.format.now n.request.now n.reply.now n.workers.now n.map.now c.in-Err-BadFormat.at c.format_refused.result (rw (c.in-Err-BadFormat.field-0-is, c.as_slice.ensures) at c.in-Err-BadFormat.ensures.refused) c.format_refused.ensures.ok

pub returns-in-Err-BadFormat-clause-cause : goal.returns-in-Err-BadFormat-clause-cause
returns-in-Err-BadFormat-clause-cause g c = never_caused _ _ c.format_refused.ensures.failed
