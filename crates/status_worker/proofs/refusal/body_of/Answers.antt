use Rattle.std.proofs.Common.{refl}
use Rattle.std.specs.Fmt.{digits}
use Rattle.status_worker.proofs.refusal.body_of.Goals as goal

pub returns-in-Closed-clause-value : goal.returns-in-Closed-clause-value
unfolding digits
returns-in-Closed-clause-value c = rw c.in-Closed.is refl

pub returns-in-ReadOnly-clause-value : goal.returns-in-ReadOnly-clause-value
unfolding digits
returns-in-ReadOnly-clause-value c = rw c.in-ReadOnly.is refl

pub returns-in-BadQuery-clause-value : goal.returns-in-BadQuery-clause-value
unfolding digits
returns-in-BadQuery-clause-value c = rw c.in-BadQuery.is refl

pub returns-in-UnknownName-clause-value : goal.returns-in-UnknownName-clause-value
unfolding digits
returns-in-UnknownName-clause-value c = rw c.in-UnknownName.is refl

pub returns-in-BadValue-clause-value : goal.returns-in-BadValue-clause-value
unfolding digits
returns-in-BadValue-clause-value c = rw c.in-BadValue.is refl

pub returns-in-TooWide-clause-value : goal.returns-in-TooWide-clause-value
unfolding digits
returns-in-TooWide-clause-value c = rw c.in-TooWide.is refl

pub returns-in-Full-clause-value : goal.returns-in-Full-clause-value
unfolding digits
returns-in-Full-clause-value c = rw c.in-Full.is refl
