-- The lease and the choice that a desk of one thread makes of a Book's answer.
use Rattle.std.specs.Prelude.{◌≡◌, ℕ, List, [], ◌∷◌}
use Rattle.lb_model.specs.declared.journal.Answer.{Answer}
use Rattle.lb_model.specs.declared.journal.Answer.TheVariants as answer
use Rattle.lb_book.specs.Desks.{LeaseNote}
use Rattle.lb_book.specs.declared.desk.Choice.{Choice}
use Rattle.lb_book.specs.declared.desk.Choice.TheVariants as choice
use Rattle.lb_book.specs.declared.plain_desk.PlainLease.{PlainLease}

-- The names on a lease.
abbrev pub note_of : PlainLease → LeaseNote
note_of l = record { lb = l.lb; member = l.lease.member; ticket = l.lease.ticket }

-- The pair of the ticket that an answer made.
abbrev pub pairs_in : (lb : ℕ) → Answer → List (ℕ × ℕ)
pairs_in lb (answer.Chosen m t how probe) = (lb, t) ∷ []
pairs_in lb answer.NoMember = []
pairs_in lb answer.Forced = []
pairs_in lb answer.Done = []

-- The choice says what the answer says; its lease has the member and the ticket.
abbrev pub IsChosenFor : (lb : ℕ) → Answer → Choice PlainLease → Type 0
IsChosenFor lb (answer.Chosen m t how probe) (choice.Chosen member lease) =
    (member ≡ m) × (lease.lb ≡ lb) × (lease.lease.member ≡ m) × (lease.lease.ticket ≡ t)
IsChosenFor lb (answer.Chosen m t how probe) choice.NoMember = ⊥
IsChosenFor lb (answer.Chosen m t how probe) choice.Forced = ⊥
IsChosenFor lb answer.NoMember c = c ≡ choice.NoMember
IsChosenFor lb answer.Forced c = c ≡ choice.Forced
IsChosenFor lb answer.Done c = ⊥
