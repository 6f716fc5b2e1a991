-- Whether each ticket that was given out came back.
use Rattle.std.specs.Prelude.{◌≡◌, ℕ, Bool, List, [], ◌∷◌, map}
use Rattle.std.specs.List.{Contains}
use Rattle.lb_model.specs.declared.ask.Ask.{Ask}
use Rattle.lb_model.specs.declared.journal.Answer.TheVariants as answer
use Rattle.lb_model.specs.declared.journal.Call.TheVariants as call
use Rattle.lb_model.specs.declared.journal.Entry.{Entry}
use Rattle.lb_model.specs.declared.journal.How.{How}
use Rattle.lb_model.specs.declared.journal.Outcome.{Outcome}
use Rattle.lb_book.specs.declared.receipt.Receipt.{Receipt}

-- A Select chose a member, and gave out this ticket.
pub record GivesOut (entry : Entry) (ticket : ℕ) : Type 0 where
  pub ask : Ask
  pub member : ℕ
  pub how : How
  pub probe : Bool
  pub asked : entry.call ≡ call.Select ask
  pub chosen : entry.answer ≡ answer.Chosen member ticket how probe

-- A Return of this ticket was done.
pub record TakesIn (entry : Entry) (ticket : ℕ) : Type 0 where
  pub outcome : Outcome
  pub returned : entry.call ≡ call.Return ticket outcome
  pub done : entry.answer ≡ answer.Done

-- Among these entries, each with its balancer, is the Return of this ticket to balancer lb.
pub record ComesBack (lb ticket : ℕ) (entries : List (ℕ × Entry)) : Type 0 where
  pub entry : Entry
  pub within : Contains entries (lb, entry)
  pub takes : TakesIn entry ticket

-- Each ticket that one of these entries gave out came back by a later one, to the balancer that it is of.
abbrev pub AreReturned : List (ℕ × Entry) → Type 0
AreReturned [] = Unit {0}
AreReturned (x ∷ later) = ((ticket : ℕ) → GivesOut x.1 ticket → ComesBack x.0 ticket later) × AreReturned later

-- the same of what these receipts say
abbrev pub HaveReturned : List Receipt → Type 0
HaveReturned receipts = AreReturned (map (λ r. (r.lb, r.entry)) receipts)
