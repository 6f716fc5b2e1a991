use Rattle.std.proofs.Common.{◌≡◌, ◌+◌, List, [], ◌∷◌, ◌++◌, take, ap, sym, ◌∙◌, arith}
use Rattle.std.proofs.lemmas.List.{take_more, take_all}
use Rattle.std.specs.Option.{option_copied}
use Rattle.site_mounts.specs.declared.rule.Rule.{Rule}
use Rattle.site_mounts.specs.Mounts.{best}
use Rattle.site_mounts.proofs.BestLemmas.{best_step, best_found}
use Rattle.site_mounts.proofs.uri_map.best.Goals as goal

pub loop-rule-preserved : goal.loop-rule-preserved
loop-rule-preserved c =
    let rules = c.args.rules.now in
    let i = c.loop-rule.rule-index in
    let item = c.rule-item.result in
    let step = best_step c.args.path.now (take i rules) (option_copied c.loop-rule.best) item c.loop-rule.invariant in
    let more : take (i + 1) rules ≡ take i rules ++ item ∷ [] = take_more rules i item c.loop-rule-test.true ∙ ap (λ (x : Rule). take i rules ++ x ∷ []) (sym c.rule-item.is) in
    rw (c.better-best.ensures, more) step

pub returns : goal.returns
returns c =
    let rules = c.args.rules.now in
    let found = best_found c.args.path.now (take c.loop-rule.rule-index rules) (option_copied c.loop-rule.best) c.loop-rule.invariant in
    found ∙ ap (λ (xs : List Rule). best xs c.args.path.now) (take_all c.loop-rule.rule-index rules (omega arith))
