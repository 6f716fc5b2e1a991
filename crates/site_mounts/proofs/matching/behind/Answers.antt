use Rattle.std.proofs.Common.{sym, ◌∙◌, arith}
use Rattle.site_mounts.proofs.MatchLemmas.{behind_ended}
use Rattle.site_mounts.proofs.matching.behind.Goals as goal

pub returns-in_default : goal.returns-in_default
returns-in_default c =
    sym (behind_ended c.args.piece.now c.loop-c.c-index c.loop-c.rest.now (omega arith) c.in_default.len_below) ∙ c.loop-c.invariant
