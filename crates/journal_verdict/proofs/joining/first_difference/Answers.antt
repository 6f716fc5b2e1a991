use Rattle.std.proofs.Common.{◌≡◌, ◌∙◌, ap, sym, Some, below_more, arith, rules}
use Rattle.journal_verdict.proofs.JoinFacts.{same_texts, texts_long}
use Rattle.journal_verdict.proofs.joining.first_difference.Goals as goal

-- the lines at this place are the same
pub loop-at-preserved : goal.loop-at-preserved
loop-at-preserved c = λ v.
    let same : c.in_ok-kept.kept ≡ c.in_ok-ruled.ruled = search rules in
    below_more _ _ (c.loop-at.invariant v) (c.in_ok-kept.ensures v ∙ ap Some same ∙ sym (c.in_ok-ruled.ensures v))

pub returns-clause-same : goal.returns-clause-same
returns-clause-same c = λ v.
    same_texts v c.args.name.now c.args.former.now c.args.opening.now c.args.ending.now
    (λ i h k. c.loop-at.invariant v i
    (omega (
      arith,
      h,
      k,
      texts_long v c.args.name.now c.args.opening.now c.requires.valid.rows.count,
      texts_long v c.args.former.now c.args.ending.now c.requires.former.rows.count,
      c.loop-at-test.false,
      c.min-at-end.ensures,
      c.count_lines.ensures,
      c.count_lines-2.ensures,
    )))
