use Rattle.std.proofs.Common.{◌≡◌, List, sym, ◌∙◌, ap, rules}
use Rattle.std.proofs.lemmas.Bool.{and_parts}
use Rattle.site_mounts.specs.declared.rule.Rule.{Rule}
use Rattle.site_mounts.specs.Mounts.{taken}
use Rattle.site_mounts.proofs.SiteLemmas.{taken_fits}
use Rattle.site_mounts.proofs.uri_map.UriMap.mount.Goals as goal

pub returns-clause-placed : goal.returns-clause-placed
returns-clause-placed c = λ config stands.
    let same : c.args.self.now ≡ c.as_slice.result.now = search rules in
    let there = ap (λ (xs : List Rule). taken xs c.args.path.now) same ∙ sym c.taken.ensures ∙ c.in_ok-taken.was in
    (and_parts _ _ (taken_fits config c.args.self.now c.args.path.now c.in_ok-taken.field-0 stands there)).0
