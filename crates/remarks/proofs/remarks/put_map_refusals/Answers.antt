use Rattle.std.proofs.Common.{◌∙◌, ℕ, List, Some, ap, sym}
use Rattle.site_config.specs.declared.config.Config.{Config}
use Rattle.remarks.specs.Refused.{first_in, refused_lines, wrong_rule}
use Rattle.remarks.proofs.AddedLemmas.{adds_as}
use Rattle.remarks.proofs.FirstLemmas.{rules_first}
use Rattle.remarks.proofs.remarks.put_map_refusals.Goals as goal

pub put_refused-requires-clause-first : goal.put_refused-requires-clause-first
put_refused-requires-clause-first g c =
    ap (λ (w : Config). first_in (wrong_rule w) c.args.map.now.text.now) c.in_ok-workers.ensures
    ∙ rules_first c.args.config.now c.args.map.now.text.now c.args.refusal c.requires.first
    ∙ ap (λ (words : List ℕ). Some (c.args.refusal.line, words)) (sym c.map_words.ensures)

pub returns : goal.returns
returns g c =
    let map = c.args.map.now in
    adds_as c.put_refused.result _ _ _ _ c.put_refused.ensures
    (ap (λ (w : Config). refused_lines (wrong_rule w) map.name.now map.text.now) c.in_ok-workers.ensures)
