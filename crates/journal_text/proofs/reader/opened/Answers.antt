use Rattle.std.proofs.Common.{◌≡◌, true, refl, arith}
use Rattle.std.proofs.lemmas.Grind.{common_steps}
use Rattle.journal_text.specs.Reading.{is_full}
use Rattle.journal_text.proofs.reader.opened.Goals as goal

pub returns : goal.returns
returns c =
    let full : is_full c.args.draft ≡ true = grind (arith, common_steps, c.is_full.ensures, c.if-not-is_full.false) in
    (full, c.in_ok-name.segment, c.in_ok-name.ensures.1, rw c.in_ok-name.ensures.0 refl)
