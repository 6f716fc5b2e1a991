-- One talk of an exchange: begun on a link of the reach, held, and noted by the reach.
use Rattle.std.specs.Prelude.{◌≡◌, ℕ, ◌≤◌, ◌⊎◌, ◌&&◌, ◌||◌, Bool, true, false, List, [], ◌∷◌, Option, Some, None, Result, Ok, Err, if◌then◌else◌}
use Rattle.ajp_wire.specs.Moments.{link_at}
use Rattle.jk_io.specs.declared.traits.streams.Meanings.{Ghosts}
use Rattle.jk_io.specs.Told.{appended, IsEmpty, Rose}
use Rattle.jk_io.specs.Talks.{failed_talk, IsNoteOf}
use Rattle.jk_io.specs.declared.failures.NoMemory.{NoMemory}
use Rattle.jk_io.specs.declared.reaching.Begun.{Begun}
use Rattle.jk_io.specs.declared.reaching.Beside.{Beside}
use Rattle.jk_io.specs.declared.reaching.Talk.{Talk}
use Rattle.ajp_talk.specs.Complete.{Completes}
use Rattle.jk_io.specs.Moments.{Moment}
use Rattle.ajp_talk.specs.Moments.{BodyAt}
use Rattle.ajp_talk.specs.Talk.{IsCalmEnd, IsTalk}
use Rattle.ajp_talk.specs.declared.ending.Cause.TheVariants as cause_is
use Rattle.ajp_talk.specs.declared.ending.TalkEnd.{TalkEnd}
use Rattle.ajp_talk.specs.declared.ending.TalkEnd.TheVariants as ends
use Rattle.ajp_talk.specs.declared.plan.TalkPlan.{TalkPlan}
use Rattle.http_front.specs.declared.body.BodyIn.{BodyIn}
use Rattle.http_front.specs.Unread.{unread}
use Rattle.jk_io.specs.declared.traits.streams.Awaited.{Awaited}
use Rattle.jk_io.specs.declared.traits.streams.Awaited.TheVariants as awaited
use Rattle.site_config.specs.Limits.{dial_limit, each_pong_limit, first_pong_limit, keeps_alive}
use Rattle.site_config.specs.declared.endpoint.Endpoint.{Endpoint}

-- The moment between two talks: the talks that the reach noted and its count of faults, the client, and the request's
-- body.
pub record Around : Type 0 where
  pub talks : Option (List Talk)
  pub faults : ℕ
  pub client : Moment
  pub body : BodyAt

-- The same, by what the types of the reach and of the client tell: `around R.Meanings C.Meanings`.
abbrev pub around : {R C B : Type 0} → Ghosts R Beside → Ghosts C B → R → C → BodyIn → List ℕ → Around
around told_of_reach told_of_client reach client body inbox = record {
  talks = (told_of_reach.beside reach).talks;
  faults = told_of_reach.faults reach;
  client = link_at told_of_client client;
  body = record { body = body; unread = unread inbox (told_of_client.incoming client) };
}

-- a ping goes first on each link, or on a newly dialled one, where the member is so configured
abbrev pub pings : Endpoint → (dialled : Bool) → Bool
pings endpoint dialled = endpoint.ping_each || (endpoint.ping_new && dialled)

-- how long a CPong is waited for: on a newly dialled link that is pinged as such, or before a request
abbrev pub pong_limit : Endpoint → (dialled : Bool) → ℕ
pong_limit endpoint dialled =
    if endpoint.ping_new && dialled then first_pong_limit endpoint.limits else each_pong_limit endpoint.limits

-- what the reach is told of the dial before it
abbrev pub dial_for : Endpoint → Awaited
dial_for endpoint = awaited.Link (dial_limit endpoint.limits) (keeps_alive endpoint.limits)

-- the plan of a talk on a link that is new or not
abbrev pub plan_on : TalkPlan → Endpoint → (dialled : Bool) → TalkPlan
plan_on plan endpoint dialled = record plan {
  ping = pings endpoint dialled;
  limits = record plan.limits { pong = pong_limit endpoint dialled };
}

-- the same plan but for what the link decides
abbrev pub IsPlanOf : TalkPlan → TalkPlan → Type 0
IsPlanOf plan other = other ≡ record plan { ping = other.ping; limits = record plan.limits { pong = other.limits.pong } }

-- A link is kept exactly after a complete reply that lets it serve again, also where the client was gone.
abbrev pub keeps : Result TalkEnd NoMemory → Bool
keeps (Ok (ends.Done told reuse bytes)) = reuse
keeps (Ok (ends.Failed stage cause told bytes)) = false
keeps (Ok (ends.ClientGone truncated keep bytes)) = keep
keeps (Ok (ends.BadBody status told passed bytes)) = false
keeps (Err e) = false

-- the end of a talk that had no link
abbrev pub no_link : TalkEnd
no_link = ends.Failed (record { got = false; headers = false; passed = false; beyond = false }) cause_is.NoLink None 0

-- what a talk was begun with
abbrev pub begun_with : (lb member : ℕ) → Endpoint → (fresh dialled : Bool) → Moment → Begun
begun_with lb member endpoint fresh dialled opened = record {
  lb = lb;
  member = member;
  host = endpoint.host;
  port = endpoint.port;
  fresh = fresh;
  dialled = dialled;
  came = opened.incoming;
}

-- A talk that was held on a link. Nothing had come or gone on it before; where a fresh link was wanted it was dialled;
-- the reach noted just what is told of it.
pub record IsHeld (lb member : ℕ) (endpoint : Endpoint) (plan : TalkPlan) (fresh : Bool) (s n : Around) (answer : Result TalkEnd NoMemory) : Type 0 where
  pub dialled : Bool
  pub opened : Moment
  pub closed : Moment
  pub new_link : fresh ≡ true → dialled ≡ true
  pub nothing_yet : IsEmpty opened.sent × IsEmpty opened.received
  pub talk : IsTalk (plan_on plan endpoint dialled)
      (record { line = opened; client = s.client; body = s.body }) (record { line = closed; client = n.client; body = n.body }) answer
  pub complete : Completes (plan_on plan endpoint dialled)
      (record { line = opened; client = s.client; body = s.body }) (record { line = closed; client = n.client; body = n.body }) answer
  pub noted : (note : Talk) → IsNoteOf (Some (begun_with lb member endpoint fresh dialled opened)) closed.sent closed.received (keeps answer) note
      → n.talks ≡ appended s.talks (note ∷ [])
  pub faults_before : opened.faults ≡ s.faults
  pub faults_within : opened.faults ≤ closed.faults
  pub faults_after : n.faults ≡ closed.faults
  pub client_faults : s.client.faults ≤ n.client.faults
  pub calm : IsCalmEnd answer → n.client.faults ≡ s.client.faults

-- A talk that had no link.
pub record HasNoLink (lb member : ℕ) (endpoint : Endpoint) (fresh : Bool) (s n : Around) : Type 0 where
  pub noted : n.talks ≡ appended s.talks (failed_talk lb member endpoint.host endpoint.port fresh ∷ [])
  pub rose : Rose s.faults n.faults
  pub no_fewer : s.faults ≤ n.faults
  pub client : n.client ≡ s.client
  pub body : n.body ≡ s.body

-- No talk was begun, since memory was wanted. That is no fault of the reach.
pub record IsUnbegun (s n : Around) : Type 0 where
  pub steady : n.faults ≡ s.faults
  pub noted : n.talks ≡ s.talks
  pub client : n.client ≡ s.client
  pub body : n.body ≡ s.body

-- The answer of a talk on a member.
abbrev pub IsOneTalk : (lb member : ℕ) → Endpoint → TalkPlan → (fresh : Bool) → Around → Around → Result TalkEnd NoMemory → Type 0
IsOneTalk lb member endpoint plan fresh s n answer =
    IsHeld lb member endpoint plan fresh s n answer
    ⊎ (((answer ≡ Ok no_link) × HasNoLink lb member endpoint fresh s n)
    ⊎ ((e : NoMemory) × (answer ≡ Err e) × IsUnbegun s n))
