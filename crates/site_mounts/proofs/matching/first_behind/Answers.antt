use Rattle.std.proofs.Common.{sym, ◌∙◌}
use Rattle.site_mounts.proofs.MatchLemmas.{first_here}
use Rattle.site_mounts.proofs.matching.first_behind.Goals as goal

pub returns-in-Some : goal.returns-in-Some
returns-in-Some c =
    sym (first_here c.args.piece.now c.loop-found.rest.now c.in-Some.found.now (sym c.in-Some.ensures)) ∙ c.loop-found.invariant
