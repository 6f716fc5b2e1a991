use Rattle.plain_commands.proofs.PlainLemmas.{never_caused}
use Rattle.plain_commands.proofs.dry.dry_over.Goals as goal

pub returns-in-None-clause-ok : goal.returns-in-None-clause-ok
returns-in-None-clause-ok g c = rw c.in-None.is c.dry_alone.ensures.ok

pub returns-in-None-clause-cause : goal.returns-in-None-clause-cause
returns-in-None-clause-cause g c = never_caused _ _ c.dry_alone.ensures.failed

pub returns-in-Some-clause-ok : goal.returns-in-Some-clause-ok
returns-in-Some-clause-ok g c = rw c.in-Some.is c.dry_site.ensures.ok

pub returns-in-Some-clause-cause : goal.returns-in-Some-clause-cause
returns-in-Some-clause-cause g c = c.dry_site.ensures.cause
