-- One more byte of framing.
use Rattle.std.proofs.Common.{Some, arith, sym, ap, ◌∙◌}
use Rattle.http_front.proofs.BodyLemmas.{framing-more}
use Rattle.http_front.proofs.walk.step_framing.Goals as goal

pub loop-used-preserved : goal.loop-used-preserved
loop-used-preserved c =
    let I = c.loop-used.invariant in
    let framing = c.is_framing.ensures.0 c.if-is_framing.true in
    let more = framing-more c.args.bytes.now c.loop-used.used c.args.start c.loop-used.place (omega arith) I.own I.brings framing.0 framing.1 in
    record {
      within = omega arith;
      own = more.0 ∙ ap Some (sym c.step-place-in-loop-used.ensures.value);
      brings = more.1;
      falls = omega (arith, I.falls, c.step-place-in-loop-used.ensures.falls);
      chunked = c.step-place-in-loop-used.ensures.chunked;
    }
