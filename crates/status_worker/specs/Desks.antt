-- The desk of a session and its clock, and what the desk keeps over a session's calls.
use Rattle.std.specs.Prelude.{ℕ, ◌≡◌, ◌+◌, ◌≤◌, List, ◌++◌, length, map, Option, Some, None}
use Rattle.std.specs.List.{All}
use Rattle.lb_model.specs.declared.refusal.Stray.{Stray}
use Rattle.lb_book.specs.Desks.{DeskState}
use Rattle.lb_book.specs.Returned.{HaveReturned}
use Rattle.lb_book.specs.ToldBooks.{AreSound}
use Rattle.lb_book.specs.declared.receipt.Receipt.{Receipt}
use Rattle.site_config.specs.declared.balancer.Lb.{Lb}

-- The desk, and the answers that the clock is to give.
pub record DeskSide : Type 0 where
  pub state : DeskState
  pub clock : Option (List ℕ)

abbrev pub desk_side : {B K : Type 0} → (B → DeskState) → (K → Option (List ℕ)) → B → K → DeskSide
desk_side state answers desk clock = record { state = state desk; clock = answers clock }

-- the numbers of members of these balancers
abbrev pub members_in : List Lb → List ℕ
members_in lbs = map (λ lb. length lb.book.members) lbs

-- The desk holds the tickets that it held before; its caller, sizes and parts never change, its counts never fall, and
-- the receipts that it gained are this session's. Unless it met a stray, each ticket that these gave out came back by them.
pub record KeepsTickets (session : ℕ) (old new : DeskState) : Type 0 where
  pub held : new.held ≡ old.held
  pub caller : new.caller ≡ old.caller
  pub sizes : new.sizes ≡ old.sizes
  pub parts : new.parts ≡ old.parts
  pub strays : old.strays ≤ new.strays
  pub fulls : old.fulls ≤ new.fulls
  pub wides : old.wides ≤ new.wides
  pub met : (stray : Stray) → old.met ≡ Some stray → new.met ≡ Some stray
  pub sound : AreSound old.sizes old.books → AreSound new.sizes new.books
  pub gained : List Receipt
  pub receipts : new.receipts ≡ old.receipts ++ gained
  pub added : new.added ≡ old.added + length gained
  pub own : All (λ (r : Receipt). r.entry.session ≡ session) gained
  pub returned : new.met ≡ None → HaveReturned gained
