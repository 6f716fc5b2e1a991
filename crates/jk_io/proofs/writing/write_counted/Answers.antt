-- A write takes the next bytes of the piece.
use Rattle.std.proofs.Common.{◌∙◌, refl, arith}
use Rattle.jk_io.proofs.PieceLaws.{put_next}
use Rattle.jk_io.proofs.writing.write_counted.Goals as goal

pub loop-at-preserved : goal.loop-at-preserved
loop-at-preserved g c =
    let e = c.in_ok-taken.ensures in
    let before = c.loop-at.invariant in
    record {
      within = omega (arith, e.count.1);
      counted = omega arith;
      put = put_next _ _ _ c.args.piece.now c.loop-at.at c.in_ok-taken.taken before.put e.put;
      incoming = e.same.0 ∙ before.incoming;
      received = e.same.1 ∙ before.received;
      beside = e.same.2 ∙ before.beside;
      steady = e.steady refl ∙ before.steady;
    }
