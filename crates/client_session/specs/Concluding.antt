-- The session after an exchange's end, or after a request that wasn't answered whole, and the row of that request.
use Rattle.std.specs.Prelude.{ℕ, ◌≡◌, ◌≤◌, ◌⊎◌, Bool, List, [], ◌∷◌, length, Option, Some, None, IsSome, slice_get}
use Rattle.http_out.specs.Own.{own_of}
use Rattle.lb_model.specs.declared.member.MemberConfig.{MemberConfig}
use Rattle.jk_io.specs.Moments.{Moment}
use Rattle.lb_model.specs.declared.served.Asked.{Asked}
use Rattle.lb_model.specs.declared.served.Asked.TheVariants as asked
use Rattle.lb_model.specs.declared.served.Served.{Served}
use Rattle.ajp_talk.specs.declared.ending.Told.{Told}
use Rattle.site_config.specs.declared.config.Config.{Config}
use Rattle.site_config.specs.declared.config.Status.{Status}
use Rattle.site_config.specs.declared.balancer.Lb.{Lb}
use Rattle.site_config.specs.declared.config.Named.{Named}
use Rattle.site_config.specs.declared.config.Named.TheVariants as named
use Rattle.exchange.specs.declared.ending.ExchangeEnd.TheVariants as exchange_end
use Rattle.exchange.specs.declared.ending.ExchangeEnd.{ExchangeEnd}
use Rattle.status_worker.specs.declared.refusal.PageRefusal.{PageRefusal}
use Rattle.client_session.specs.Requests.{Visit, own_kind_at}
use Rattle.client_session.specs.Rows.{IsRowOf, own_row_by, refusal_row_by, worker_row}
use Rattle.client_session.specs.Writing.{WritesOwn}
use Rattle.client_session.specs.declared.ending.SessionStop.TheVariants as stop
use Rattle.client_session.specs.declared.rows.Row.{Row}
use Rattle.http_front.specs.declared.head.Head.{Head}
use Rattle.exchange.specs.Requests.{is_head}
use Rattle.client_session.specs.declared.ending.SessionStop.{SessionStop}
use Rattle.client_session.specs.declared.ending.Why.TheVariants as why
use Rattle.client_session.specs.declared.turn.Answered.TheVariants as answered
use Rattle.client_session.specs.declared.turn.Settled.{Settled}

-- the row, if there is one
abbrev pub rows_of : Option Served → List Served
rows_of None = []
rows_of (Some row) = row ∷ []

-- the room holds the name of that member
abbrev pub HoldsName : List MemberConfig → (member room : ℕ) → Type 0
HoldsName members member room = (config : MemberConfig) × (slice_get members member ≡ Some config) × (length config.name ≤ room)

-- the end names a member whose name the room holds, or an own answer that there is
abbrev pub NamesWithin : ExchangeEnd → List MemberConfig → (room : ℕ) → Type 0
NamesWithin (exchange_end.Done member told) members room = HoldsName members member room
NamesWithin (exchange_end.Own status) members room = IsSome (own_of status)
NamesWithin (exchange_end.Cut member told) members room = HoldsName members member room
NamesWithin exchange_end.ClientFault members room = Unit {0}
NamesWithin exchange_end.Truncated members room = Unit {0}
NamesWithin (exchange_end.Stray ticket returned_at) members room = Unit {0}
NamesWithin exchange_end.NoMemory members room = Unit {0}

-- the row of what the member gave
abbrev pub IsMemberRow : Asked → List MemberConfig → (member : ℕ) → Told → Served → Type 0
IsMemberRow asked' members member told row =
    (config : MemberConfig) × (slice_get members member ≡ Some config) × (row ≡ worker_row asked' told.status told.body config.name)

abbrev pub whole_settled : Served → Settled
whole_settled row = record { answered = answered.Whole; row = Some row }

abbrev pub cut_settled : Served → Settled
cut_settled row = record { answered = answered.Not (stop.Closed why.Cut); row = Some row }

abbrev pub own_settled : Asked → (status : ℕ) → (head_only : Bool) → Settled
own_settled asked' status head_only =
    record { answered = answered.Not (stop.Closed (why.Own status)); row = Some (own_row_by asked' status head_only) }

abbrev pub refused_settled : Asked → PageRefusal → (head_only : Bool) → Settled
refused_settled asked' refusal head_only =
    record { answered = answered.Not (stop.Closed (why.Refused refusal)); row = Some (refusal_row_by asked' refusal head_only) }

abbrev pub stopped_by : SessionStop → Settled
stopped_by stop' = record { answered = answered.Not stop'; row = None }

-- what an exchange's end means, and the row of its request
abbrev pub IsConclusion : ExchangeEnd → List MemberConfig → (head_only : Bool) → Asked → Settled → Type 0
IsConclusion (exchange_end.Done member told) members head_only asked' settled =
    (row : Served) × IsMemberRow asked' members member told row × (settled ≡ whole_settled row)
IsConclusion (exchange_end.Own status) members head_only asked' settled = settled ≡ own_settled asked' status head_only
IsConclusion (exchange_end.Cut member told) members head_only asked' settled =
    (row : Served) × IsMemberRow asked' members member told row × (settled ≡ cut_settled row)
IsConclusion exchange_end.ClientFault members head_only asked' settled = settled ≡ stopped_by stop.ClientFault
IsConclusion exchange_end.Truncated members head_only asked' settled = settled ≡ stopped_by stop.Truncated
IsConclusion (exchange_end.Stray ticket returned_at) members head_only asked' settled =
    settled ≡ stopped_by (stop.Stray ticket returned_at)
IsConclusion exchange_end.NoMemory members head_only asked' settled = settled ≡ stopped_by stop.NoMemory

-- where it is an own answer, there is one with that status
abbrev pub IsKnownStop : SessionStop → Type 0
IsKnownStop (stop.Closed why.ByClient) = Unit {0}
IsKnownStop (stop.Closed why.Idle) = Unit {0}
IsKnownStop (stop.Closed why.Last) = Unit {0}
IsKnownStop (stop.Closed (why.Own status)) = IsSome (own_of status)
IsKnownStop (stop.Closed (why.Refused refusal)) = Unit {0}
IsKnownStop (stop.Closed why.Cut) = Unit {0}
IsKnownStop (stop.Closed why.Unread) = Unit {0}
IsKnownStop stop.ClientFault = Unit {0}
IsKnownStop stop.Truncated = Unit {0}
IsKnownStop (stop.Stray ticket returned_at) = Unit {0}
IsKnownStop stop.NoMemory = Unit {0}

-- an own answer has a row, and a refusal, and nothing else that isn't whole
abbrev pub settled_by : SessionStop → Asked → (head_only : Bool) → Settled
settled_by (stop.Closed why.ByClient) asked' head_only = stopped_by (stop.Closed why.ByClient)
settled_by (stop.Closed why.Idle) asked' head_only = stopped_by (stop.Closed why.Idle)
settled_by (stop.Closed why.Last) asked' head_only = stopped_by (stop.Closed why.Last)
settled_by (stop.Closed (why.Own status)) asked' head_only = own_settled asked' status head_only
settled_by (stop.Closed (why.Refused refusal)) asked' head_only = refused_settled asked' refusal head_only
settled_by (stop.Closed why.Cut) asked' head_only = stopped_by (stop.Closed why.Cut)
settled_by (stop.Closed why.Unread) asked' head_only = stopped_by (stop.Closed why.Unread)
settled_by stop.ClientFault asked' head_only = stopped_by stop.ClientFault
settled_by stop.Truncated asked' head_only = stopped_by stop.Truncated
settled_by (stop.Stray ticket returned_at) asked' head_only = stopped_by (stop.Stray ticket returned_at)
settled_by stop.NoMemory asked' head_only = stopped_by stop.NoMemory

-- each name that a row of this worker may tell has at most that length
abbrev pub HasNamesWithin : Config → Named → (longest : ℕ) → Type 0
HasNamesWithin cfg (named.Balancer lb) longest =
    (balancer : Lb) (m : ℕ) (config : MemberConfig) → slice_get cfg.lbs lb ≡ Some balancer
    → slice_get balancer.book.members m ≡ Some config → length config.name ≤ longest
HasNamesWithin cfg (named.Status place) longest =
    (status : Status) → slice_get cfg.statuses place ≡ Some status → length status.name ≤ longest

-- the row of this request, with room for each name that it may tell
abbrev pub HasRowRoom : Config → Named → Head → Row → Type 0
HasRowRoom cfg worker head row = (longest : ℕ) × IsRowOf head longest row × HasNamesWithin cfg worker longest

-- 404 was written whole, or a front of it, or memory was wanted
abbrev pub IsNotFound : Visit → Head → Moment → Moment → Settled → Type 0
IsNotFound v head s n settled =
    ((n ≡ s) × (settled ≡ stopped_by stop.NoMemory))
    ⊎ ((stop' : SessionStop) × WritesOwn 404 (own_kind_at v head) s n stop'
    × (settled ≡ settled_by stop' (asked.Line head.method head.target head.old) (is_head head)))
