use Rattle.std.proofs.Common.{◌==◌, ℕ, arith, sym}
use Rattle.site_config.proofs.CutLemmas.{cut_found_so, cut_none}
use Rattle.site_config.proofs.cut.cut_at.Goals as goal

pub returns-then-b-byte : goal.returns-then-b-byte
returns-then-b-byte c =
    cut_found_so (λ (b : ℕ). b == c.args.byte) c.args.text.now c.loop-i.i (omega arith) c.loop-i.invariant (grind arith)

pub returns : goal.returns
returns c =
    sym (cut_none (λ (b : ℕ). b == c.args.byte) c.args.text.now (λ k h. c.loop-i.invariant k (omega arith)))
