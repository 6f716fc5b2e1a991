use Rattle.std.proofs.Common.{◌≡◌, false, arith}
use Rattle.site_mounts.specs.Patterns.{has_wildcard}
use Rattle.site_mounts.proofs.MatchLemmas.{matches_plain}
use Rattle.site_mounts.proofs.pattern.Pattern.matches.Goals as goal

pub returns-else-self : goal.returns-else-self
returns-else-self c =
    let plain : has_wildcard c.args.self.now ≡ false = grind (arith, c.self.invariant, c.self.view_is) in
    rw (matches_plain c.args.self.now c.args.path.now plain) (grind (arith, c.self.view_is))
