-- The lease that an answer comes with.
use Rattle.std.specs.Prelude.{◌≡◌, Option, Some, None}
use Rattle.lb_model.specs.declared.journal.Answer.{Answer}
use Rattle.lb_book.specs.declared.book.Lease.{Lease}

-- There is a lease exactly where the answer is a choice, and it names the member and the ticket.
abbrev pub IsLeaseOf : Answer → Option Lease → Type 0
IsLeaseOf (Answer.Chosen m t how probe) (Some lease) = (lease.member ≡ m) × (lease.ticket ≡ t)
IsLeaseOf (Answer.Chosen m t how probe) None = ⊥
IsLeaseOf Answer.NoMember (Some lease) = ⊥
IsLeaseOf Answer.NoMember None = Unit {0}
IsLeaseOf Answer.Forced (Some lease) = ⊥
IsLeaseOf Answer.Forced None = Unit {0}
IsLeaseOf Answer.Done (Some lease) = ⊥
IsLeaseOf Answer.Done None = Unit {0}
