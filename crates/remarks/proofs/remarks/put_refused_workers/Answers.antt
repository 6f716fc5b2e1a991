use Rattle.std.proofs.Common.{◌∙◌, ℕ, List, Some, ap, subst, sym}
use Rattle.site_reports.specs.RefusedParts.{IsRefusedPart}
use Rattle.site_reports.specs.declared.refused_part.RefusedPart.{RefusedPart}
use Rattle.remarks.specs.Explained.{explained_workers}
use Rattle.remarks.specs.Refused.{first_in, refused_lines, wrong_line}
use Rattle.remarks.proofs.AddedLemmas.{adds_as}
use Rattle.remarks.proofs.FirstLemmas.{workers_first}
use Rattle.remarks.proofs.RefusedLemmas.{lines_alone, workers_alone}
use Rattle.remarks.proofs.remarks.put_refused_workers.Goals as goal

pub put_refused-requires-clause-first : goal.put_refused-requires-clause-first
put_refused-requires-clause-first g c =
    let refused = c.args.refused.now in
    ap (first_in wrong_line) c.as_slice.ensures
    ∙ workers_first refused.text (Some refused.refusal)
    (subst (λ (p : RefusedPart). IsRefusedPart p refused.text refused.refusal) c.in-Line.is refused.told_apart)
    ∙ ap (λ (words : List ℕ). Some (refused.refusal.line, words)) (sym c.workers_words.ensures)

pub returns-in-Line : goal.returns-in-Line
returns-in-Line g c =
    let refused = c.args.refused.now in
    let name = c.args.name.now in
    adds_as c.put_refused.result _ _ _ _ c.put_refused.ensures
    (ap (refused_lines wrong_line name) c.as_slice.ensures
    ∙ lines_alone name refused.text refused.refusal
    (subst (λ (p : RefusedPart). IsRefusedPart p refused.text refused.refusal) c.in-Line.is refused.told_apart))

pub returns-in-Workers : goal.returns-in-Workers
returns-in-Workers g c =
    let refused = c.args.refused.now in
    let name = c.args.name.now in
    adds_as c.put_workers_refusal.result _ _ _ _ c.put_workers_refusal.ensures
    (ap (λ (text : List ℕ). explained_workers name text refused.refusal) c.as_slice.ensures
    ∙ workers_alone name refused.text refused.refusal
    (subst (λ (p : RefusedPart). IsRefusedPart p refused.text refused.refusal) c.in-Workers.is refused.told_apart))
