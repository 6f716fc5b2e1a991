use Rattle.std.proofs.Common.{◌++◌, ◌∙◌}
use Rattle.http_out.specs.Framing.{closing_bytes}
use Rattle.http_out.proofs.PassageLaws.{nothing_sent}
use Rattle.http_out.proofs.pieces.write_closing.Goals.{in-Ok, in-Err}
use Rattle.http_out.proofs.pieces.write_closing.Goals as goal

pub returns-clause-sent : goal.returns-clause-sent
returns-clause-sent g c =
    elim c.match-put_closing.branch [
      | in-Ok w ↦ rw (w.sent-is, w.passage-is, w.client-is) (rw (w.as_slice.ensures, w.in-Ok.ensures) at w.send-sent.ensures.sent)
      | in-Err w ↦
          rw (w.sent-is, w.give_up.ensures.error, w.client-is)
          (nothing_sent (c.args.text.now ++ closing_bytes c.args.framing) c.args.passage.now c.match-put_closing.passage _ (w.passage-is ∙ w.give_up.ensures.broken))
    ]
