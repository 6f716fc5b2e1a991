-- The client waits for 100 Continue.
use Rattle.std.proofs.Common.{sym, ◌∙◌}
use Rattle.client_session.proofs.WritingLaws.{sent_continue}
use Rattle.client_session.proofs.answering.send_continue.Goals as goal

pub returns : goal.returns
returns g c = record {
  step = sent_continue c.args.head.now _ _ c.send.result (sym c.awaits_continue.ensures ∙ c.if-not-awaits_continue.false) c.send.ensures.step;
  kept = c.send.ensures.kept;
}
