-- A desk over an exchange, and over several requests: the tickets that it holds, and the stray that it met.
use Rattle.std.proofs.Common.{◌≡◌, ℕ, Option, subst, sym, ap, ◌∙◌, arith}
use Rattle.lb_model.specs.declared.refusal.Stray.{Stray}
use Rattle.lb_book.specs.Desks.{DeskState, MeetsNone, first_stray}
use Rattle.exchange.specs.Rounds.{IsDeskAfter}
use Rattle.status_worker.specs.Desks.{KeepsTickets}
use Rattle.status_worker.proofs.DeskLaws.{none_twice}
use Rattle.client_session.specs.Ends.{MeetsBy, end_of}
use Rattle.client_session.specs.declared.ending.SessionEnd.{SessionEnd}
use Rattle.client_session.specs.declared.ending.SessionStop.{SessionStop}
use Rattle.client_session.specs.declared.ending.SessionStop.TheVariants as stop

pub after_exchange : (old new : DeskState) (lb session : ℕ) → IsDeskAfter lb session old new → new.held ≡ old.held
    → KeepsTickets session old new
after_exchange old new lb session after held = record {
  held = held;
  caller = after.caller;
  sizes = after.sizes;
  parts = after.parts;
  strays = after.strays;
  fulls = after.fulls;
  wides = omega (arith, after.wides);
  met = after.met;
  sound = after.sound;
  gained = after.gained;
  receipts = after.receipts;
  added = after.added;
  own = λ k d within. (after.own k d within).caller;
  returned = after.returned;
}

pub meets_on : (stop' : SessionStop) (old mid new : DeskState) → MeetsNone old mid → MeetsBy stop' mid new → MeetsBy stop' old new
meets_on (stop.Closed why') old mid new first second = none_twice old mid new first second
meets_on stop.ClientFault old mid new first second = none_twice old mid new first second
meets_on stop.Truncated old mid new first second = none_twice old mid new first second
meets_on (stop.Stray ticket returned_at) old mid new first second = (
  rw (← first.strays) second.0,
  second.1 ∙ ap (λ (met : Option Stray). first_stray met (record { ticket = ticket; returned_at = returned_at })) first.met,
)
meets_on stop.NoMemory old mid new first second = none_twice old mid new first second

-- the session ended so
pub met_at_end : (stop' : SessionStop) (count : ℕ) (end : SessionEnd) (old mid new : DeskState) → end ≡ end_of stop' count → MeetsNone old mid
    → MeetsBy stop' mid new → MeetsBy end.stop old new
met_at_end stop' count end old mid new is before met =
    subst (λ (x : SessionEnd). MeetsBy x.stop old new) (sym is) (meets_on stop' old mid new before met)
