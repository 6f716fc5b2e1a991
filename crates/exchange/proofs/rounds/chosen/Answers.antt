-- An ask by the desk's answer: a member was chosen, or why none was.
use Rattle.std.proofs.Common.{refl}
use Rattle.exchange.specs.Steps as no_lease_as
use Rattle.exchange.proofs.rounds.chosen.Goals as goal

pub returns-in-Ok-Chosen-clause-ok : goal.returns-in-Ok-Chosen-clause-ok
returns-in-Ok-Chosen-clause-ok g c = rw c.in-Ok-Chosen.field-0-is at c.in-Ok-Chosen.ensures.ok

pub returns-in-Ok-NoMember-clause-err : goal.returns-in-Ok-NoMember-clause-err
returns-in-Ok-NoMember-clause-err g c =
    let chose = rw c.in-Ok-NoMember.field-0-is at c.in-Ok-NoMember.ensures.ok in
    no_lease_as.none refl chose

pub returns-in-Ok-Forced-clause-err : goal.returns-in-Ok-Forced-clause-err
returns-in-Ok-Forced-clause-err g c =
    let chose = rw c.in-Ok-Forced.field-0-is at c.in-Ok-Forced.ensures.ok in
    no_lease_as.forced refl chose

pub returns-in-Err-Full-clause-err : goal.returns-in-Err-Full-clause-err
returns-in-Err-Full-clause-err g c =
    let refused = rw c.in-Err-Full.field-0-is at c.in-Err-Full.ensures.err in
    no_lease_as.full refl c.in-Err-Full.field-0-0 refused

pub returns-clause-err : goal.returns-clause-err
returns-clause-err g c =
    let refused = rw c.in-Err-NoMemory.field-0-is at c.in-Err-NoMemory.ensures.err in
    no_lease_as.wanted refl refused
