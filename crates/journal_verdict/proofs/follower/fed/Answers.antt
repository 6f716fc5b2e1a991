use Rattle.std.proofs.Common.{subst}
use Rattle.journal_verdict.specs.Machines.{Knows}
use Rattle.journal_verdict.specs.declared.known.Known.{Known}
use Rattle.journal_verdict.proofs.follower.fed.Goals as goal

pub returns-in-Err-clause-known : goal.returns-in-Err-clause-known
returns-in-Err-clause-known c bytes k =
    c.in-Err.ensures.err bytes (subst (λ (x : Known). Knows x c.args.part.now bytes) c.in-Going.is k)
