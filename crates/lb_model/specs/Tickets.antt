-- Tickets: an entry that chooses makes one, under its own number, and it is out until its Return.
use Rattle.std.specs.Prelude.{ℕ, ◌==◌, ◌&&◌, Bool, false, not, List, ◌++◌, reverse, filter, count_by, Option, Some, None}
use Rattle.std.specs.List.{list_any, filter_map}
use Rattle.lb_model.specs.declared.journal.Call.{Call}
use Rattle.lb_model.specs.declared.journal.Call.TheVariants as call
use Rattle.lb_model.specs.declared.journal.Answer.{Answer}
use Rattle.lb_model.specs.declared.journal.Answer.TheVariants as answer
use Rattle.lb_model.specs.declared.journal.Entry.{Entry}
use Rattle.lb_model.specs.declared.opening.Opening.{Opening}

-- A ticket with its member.
abbrev pub Ticket : Type 0
Ticket = ℕ × ℕ

-- The ticket that the entry with this number made.
abbrev pub ticket_in : (seq : ℕ) → Answer → Option Ticket
ticket_in seq (answer.Chosen m t how probe) = Some (seq, m)
ticket_in seq answer.NoMember = None
ticket_in seq answer.Forced = None
ticket_in seq answer.Done = None

-- Whether a call returns ticket t.
abbrev pub gives_back : (t : ℕ) → Call → Bool
gives_back t (call.Select ask) = false
gives_back t (call.Return u w) = t == u
gives_back t call.Maintain = false
gives_back t (call.Admin command) = false

abbrev pub is_returned : (t : ℕ) → List Entry → Bool
is_returned t p = list_any (λ e. gives_back t e.call) p

-- All tickets, the newest first: those that entries made, and those that were out at the opening.
abbrev pub made : Opening → List Entry → List Ticket
made o p = filter_map (λ e. ticket_in e.seq e.answer) p ++ reverse o.out

-- The tickets that are out, the newest first.
abbrev pub out : Opening → List Entry → List Ticket
out o p = filter (λ x. not (is_returned x.0 p)) (made o p)

abbrev pub is_out : Opening → List Entry → (t : ℕ) → Bool
is_out o p t = list_any (λ x. x.0 == t) (out o p)

-- Whether t is a ticket on member m, out or returned.
abbrev pub is_on : Opening → List Entry → (t m : ℕ) → Bool
is_on o p t m = list_any (λ x. (x.0 == t) && (x.1 == m)) (made o p)

-- How many tickets are out on member m.
abbrev pub busy_of : Opening → List Entry → (m : ℕ) → ℕ
busy_of o p m = count_by (λ x. x.1 == m) (out o p)
