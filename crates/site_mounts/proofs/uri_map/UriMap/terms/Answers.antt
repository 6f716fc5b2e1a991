use Rattle.std.proofs.Common.{◌≡◌, List, Some, sym, ◌∙◌, ap, rules}
use Rattle.std.proofs.lemmas.Bool.{and_parts}
use Rattle.site_mounts.specs.declared.rule.Rule.{Rule}
use Rattle.site_mounts.specs.Mounts.{taken}
use Rattle.site_mounts.proofs.SiteLemmas.{taken_fits}
use Rattle.site_mounts.proofs.uri_map.UriMap.terms.Goals as goal

pub returns-in-Some-clause-members : goal.returns-in-Some-clause-members
returns-in-Some-clause-members c =
    let same : c.args.self.now ≡ c.as_slice.result.now = search rules in
    let there : taken c.args.self.now c.args.path.now ≡ Some c.in-Some.mount = ap (λ (xs : List Rule). taken xs c.args.path.now) same ∙ sym c.in-Some.ensures in
    rw there (λ config stands. (and_parts _ _ (taken_fits config c.args.self.now c.args.path.now c.in-Some.mount stands there)).1)
