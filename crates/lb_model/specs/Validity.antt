-- When an opening is valid.
use Rattle.std.specs.Prelude.{◌≡◌, ℕ, ◌+◌, ◌*◌, ◌/◌, ◌^◌, ◌<◌, ◌≤◌, ◌==◌, ◌&&◌, true, List, [], ◌∷◌, length, reverse, count_by, Option, Some, None, slice_get}
use Rattle.std.specs.List.{list_any}
use Rattle.lb_model.specs.Journal.{members}
use Rattle.lb_model.specs.Limits.{most_numbers}
use Rattle.lb_model.specs.Multiple.{multiple_of}
use Rattle.lb_model.specs.Ranges.{factors_in}
use Rattle.lb_model.specs.Tickets.{Ticket}
use Rattle.lb_model.specs.declared.member.MemberConfig.{MemberConfig}
use Rattle.lb_model.specs.declared.member.Method.{Method}
use Rattle.lb_model.specs.declared.member.Method.TheVariants as method
use Rattle.lb_model.specs.declared.opening.Opening.{Opening}
use Rattle.lb_model.specs.declared.state.MemberState.{MemberState}
use Rattle.lb_model.specs.declared.state.MemberState.TheVariants as state
use Rattle.lb_model.specs.declared.view.MemberRow.{MemberRow}

-- Tickets, newest first: each is below the one before it, the first is below `next`, and each is on one of n members.
abbrev pub AreTickets : (n next : ℕ) → List Ticket → Type 0
AreTickets n next [] = Unit {0}
AreTickets n next (x ∷ xs) = (x.0 < next) × (x.1 < n) × AreTickets n x.0 xs

-- An error isn't after the opening's moment, and a trial runs under a ticket that is out on the member.
abbrev pub IsOpeningState : Opening → ℕ → MemberState → Type 0
IsOpeningState o m state.Ok = Unit {0}
IsOpeningState o m (state.Error at) = at ≤ o.at
IsOpeningState o m state.Recover = Unit {0}
IsOpeningState o m (state.Probe t) = list_any (λ x. (x.0 == t) && (x.1 == m)) o.out ≡ true

-- A row shows what the configuration says of its member.
pub record ShowsMember (c : MemberConfig) (r : MemberRow) : Type 0 where
  pub name : r.name ≡ c.name
  pub factor : r.factor ≡ c.factor
  pub distance : r.distance ≡ c.distance
  pub activation : r.activation ≡ c.activation
  pub redirect : r.redirect ≡ c.redirect

-- For Busyness the load is that of the tickets that are out.
abbrev pub IsRunning : Method → (running load : ℕ) → Type 0
IsRunning method.Request running load = Unit {0}
IsRunning method.Session running load = Unit {0}
IsRunning method.Traffic running load = Unit {0}
IsRunning method.Busyness running load = load ≡ running

-- The row of member m, whose configuration is c.
pub record IsOpeningRow (o : Opening) (m : ℕ) (c : MemberConfig) (r : MemberRow) : Type 0 where
  pub shows : ShowsMember c r
  pub busy : r.busy ≡ count_by (λ x. x.1 == m) o.out
  pub pool : r.busy ≤ c.pool
  pub state : IsOpeningState o m r.state
  pub load : r.load ≤ o.next * 2 ^ 76
  pub running : IsRunning o.config.method (r.busy * (multiple_of (factors_in o.config.members) / c.factor)) r.load

-- Each member has such a row.
pub record AreOpeningRows (o : Opening) : Type 0 where
  pub count : length o.rows ≡ members o
  pub row : (m : ℕ) (c : MemberConfig) (r : MemberRow) →
      slice_get o.config.members m ≡ Some c → slice_get o.rows m ≡ Some r → IsOpeningRow o m c r

-- The member chosen last is one of n.
abbrev pub IsWithin : (n : ℕ) → Option ℕ → Type 0
IsWithin n None = Unit {0}
IsWithin n (Some m) = m < n

pub record IsOpening (o : Opening) : Type 0 where
  pub tickets : AreTickets (members o) o.next (reverse o.out)
  pub chosen : IsWithin (members o) o.chosen
  pub rows : AreOpeningRows o
  pub maintained : o.maintained ≤ o.at
  pub room : o.next + length o.out ≤ most_numbers
