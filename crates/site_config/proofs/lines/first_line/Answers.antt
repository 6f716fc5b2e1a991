use Rattle.std.proofs.Common.{◌≡◌, ◌==◌, ◌<◌, ℕ, length, arith, sym, Some}
use Rattle.std.proofs.lemmas.List.{take_rest, drop_all}
use Rattle.site_config.specs.Cut.{cut_at}
use Rattle.site_config.proofs.CutLemmas.{cut_shorter}
use Rattle.site_config.proofs.LineLemmas.{lines_cut, lines_one}
use Rattle.site_config.proofs.lines.first_line.Goals as goal

pub returns-in-Some-clause-some : goal.returns-in-Some-clause-some
returns-in-Some-clause-some c =
    let first : cut_at 10 c.args.text.now ≡ Some (c.in-Some.line.now, c.in-Some.rest.now) = sym c.in-Some.ensures in
    rw c.without_return.ensures (lines_cut c.args.text.now c.in-Some.line.now c.in-Some.rest.now first)

pub returns-in-Some-clause-shorter : goal.returns-in-Some-clause-shorter
returns-in-Some-clause-shorter c =
    cut_shorter (λ (b : ℕ). b == 10) c.args.text.now c.in-Some.line.now c.in-Some.rest.now (sym c.in-Some.ensures)

pub returns-in-None-clause-some : goal.returns-in-None-clause-some
returns-in-None-clause-some c =
    let text = c.args.text.now in
    let some : 0 < length text = grind arith in
    rw (take_rest text (length text), drop_all (length text) text (omega arith)) (lines_one text some (sym c.in-None.ensures))
