use Rattle.std.proofs.Common.{arith, sym, ◌∙◌}
use Rattle.http_front.proofs.CutLemmas.{Skipped-more}
use Rattle.http_front.proofs.cut.skip_empty_lines.Goals as goal

pub loop-at-preserved : goal.loop-at-preserved
loop-at-preserved c = record {
  from = omega arith;
  within = omega arith;
  skipped = Skipped-more c.args.bytes.now c.loop-at.at (omega arith) (sym c.is_empty_line_at.ensures.value ∙ c.if-not-is_empty_line_at.false) c.loop-at.invariant.skipped;
}
