use Rattle.std.proofs.Common.{arith, sym, ◌∙◌}
use Rattle.site_config.specs.Cut.{is_separator}
use Rattle.site_config.proofs.CutLemmas.{cut_found_so, cut_none}
use Rattle.site_config.proofs.cut.cut_at_separator.Goals as goal

pub returns-then-is_separator : goal.returns-then-is_separator
returns-then-is_separator c =
    cut_found_so is_separator c.args.text.now c.loop-i.i (omega arith) c.loop-i.invariant (sym c.is_separator.ensures ∙ c.if-is_separator.true)

pub returns : goal.returns
returns c = sym (cut_none is_separator c.args.text.now (λ k h. c.loop-i.invariant k (omega arith)))
