use Rattle.std.proofs.Common.{refl}
use Rattle.gear_parts.proofs.WorldLaws.{cause_again, no_cause}
use Rattle.gear_parts.proofs.logs.logs_for.Goals as goal

pub returns-in-Ok-clause-suited : goal.returns-in-Ok-clause-suited
returns-in-Ok-clause-suited g c = c.in-Ok.ensures.suited

pub returns-in-Ok-clause-counts : goal.returns-in-Ok-clause-counts
returns-in-Ok-clause-counts g c = record { cause = no_cause _ _ _ (c.in-Ok.ensures.counts.steady refl); steady = λ _. c.in-Ok.ensures.counts.steady refl }

pub returns-in-Err-clause-counts : goal.returns-in-Err-clause-counts
returns-in-Err-clause-counts g c = record { cause = cause_again _ _ _ _ c.in-Err.ensures.counts.cause refl; steady = λ no. absurd cc }
