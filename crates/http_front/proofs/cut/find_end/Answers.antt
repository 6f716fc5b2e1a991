use Rattle.std.proofs.Common.{arith, sym, ◌∙◌}
use Rattle.std.proofs.lemmas.Bool.{OnTrue_at, OnFalse_at, and_left, and_right, ne_eqb}
use Rattle.std.proofs.lemmas.List.{at_drop_all}
use Rattle.http_front.specs.Cut.{head_len}
use Rattle.http_front.proofs.CutLemmas.{head_len-open, head_len-none, Searched-more}
use Rattle.http_front.proofs.cut.find_end.Goals as goal
use Rattle.http_front.proofs.cut.find_end.Goals.{then-front-at-eq-LF+else-is_empty_line_at+else-is_open_at, else-front-at-eq-LF}

pub returns-then-is_open_at : goal.returns-then-is_open_at
returns-then-is_open_at c = (
  omega arith,
  head_len-open c.args.front.now c.loop-at.at c.loop-at.invariant.searched (head_len-none c.args.front.now c.loop-at.at (omega arith) (sym c.is_empty_line_at.ensures.value ∙ c.if-is_empty_line_at.false) (OnTrue_at c.if-is_open_at.true c.is_open_at.ensures.left)),
  c.loop-at.invariant.searched,
)

pub returns : goal.returns
returns c = (
  omega arith,
  head_len-open c.args.front.now c.loop-at.at c.loop-at.invariant.searched (at_drop_all head_len c.args.front.now c.loop-at.at (omega arith)),
  c.loop-at.invariant.searched,
)

pub loop-at-preserved : goal.loop-at-preserved
loop-at-preserved c = record {
  within = omega arith;
  searched = Searched-more c.args.front.now c.loop-at.at (omega arith) (elim c.if-front-at-eq-LF.branch [ then-front-at-eq-LF+else-is_empty_line_at+else-is_open_at w ↦ λ more. and_right _ _ (OnFalse_at w.if-is_open_at.false w.is_open_at.ensures.decided more) | else-front-at-eq-LF w ↦ λ more. and_left _ _ (ne_eqb _ _ w.if-front-at-eq-LF.false) ]) c.loop-at.invariant.searched;
}
