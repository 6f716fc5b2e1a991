-- What the two sides of an exchange are told that is waited for: the reach before each talk, the client before its body is read.
use Rattle.std.specs.Prelude.{◌≡◌, ◌≢◌, ◌⊎◌, Bool, List, [], ◌∷◌, Some, slice_get}
use Rattle.jk_io.specs.Told.{appended, IsEmpty}
use Rattle.jk_io.specs.declared.reaching.Beside.{Beside}
use Rattle.jk_io.specs.declared.reaching.Talk.{Talk}
use Rattle.jk_io.specs.declared.traits.streams.Awaited.{Awaited}
use Rattle.jk_io.specs.declared.traits.streams.Awaited.TheVariants as awaited
use Rattle.jk_io.specs.declared.traits.streams.Meanings.{Ghosts}
use Rattle.ajp_talk.specs.Awaits.{AwaitsReply}
use Rattle.ajp_talk.specs.declared.plan.TalkPlan.{TalkPlan}
use Rattle.forwarding.specs.FirstPiece.{first_len}
use Rattle.site_config.specs.declared.balancer.Lb.{Lb}
use Rattle.site_config.specs.declared.endpoint.Endpoint.{Endpoint}
use Rattle.exchange.specs.OneTalk.{dial_for, plan_on}
use Rattle.exchange.specs.declared.request.Request.{Request}
use Rattle.exchange.specs.declared.sides.Means.{Means}
use Rattle.exchange.specs.declared.target.Target.{Target}

-- a link was told this next
abbrev pub HearsNext : {L : Type 0} → (heard : L → Awaited → L → Type 0) → L → Awaited → Type 0
HearsNext {L} heard before what = (after : L) × heard before what after

-- A talk was begun on a link of the reach over which nothing had come or gone. The link was told how long CPong and the reply are
-- waited for, by the plan of a talk with this member on that link.
pub record AwaitsBegun {R : Type 0} (told : Ghosts R Beside) (heard : R → Awaited → R → Type 0) (plan : TalkPlan) (endpoint : Endpoint) : Type 0 where
  pub dialled : Bool
  pub begun : R
  pub nothing_yet : IsEmpty (told.sent begun) × IsEmpty (told.received begun)
  pub awaits : AwaitsReply told heard (plan_on plan endpoint dialled) begun

-- A dial for this talk may take so long: its member, of these balancers, is so configured.
pub record IsDialOf (lbs : List Lb) (talk : Talk) (what : Awaited) : Type 0 where
  pub balancer : Lb
  pub endpoint : Endpoint
  pub stands : slice_get lbs talk.lb ≡ Some balancer
  pub reached : slice_get balancer.ends talk.member ≡ Some endpoint
  pub limit : what ≡ dial_for endpoint

-- The reach noted these talks from one moment to another, the newest first, and no other. Before each, once those before it had
-- ended, it was told how long a dial for that talk may take.
abbrev pub HaveAwaited : {R : Type 0} → Ghosts R Beside → (heard : R → Awaited → R → Type 0) → List Lb → R → List Talk → R → Type 0
HaveAwaited told heard lbs s [] n = (told.beside n).talks ≡ (told.beside s).talks
HaveAwaited {R} told heard lbs s (talk ∷ past) n =
    (before : R) × (what : Awaited) × HaveAwaited told heard lbs s past before × IsDialOf lbs talk what × HearsNext heard before what
    × ((told.beside n).talks ≡ appended (told.beside before).talks (talk ∷ []))

-- So of the talks from one moment to another, whichever they are.
pub record AwaitsDials {R : Type 0} (told : Ghosts R Beside) (heard : R → Awaited → R → Type 0) (lbs : List Lb) (s n : R) : Type 0 where
  pub talks : List Talk
  pub way : HaveAwaited told heard lbs s talks n

-- P of each list of balancers in which the request's has its place
abbrev pub InItsSite : Request → (List Lb → Type 0) → Type 0
InItsSite q P = (lbs : List Lb) → slice_get lbs q.lb ≡ Some q.balancer.now → P lbs

-- so of the talks of a round with this member, and of those of rounds
abbrev pub AwaitsMember : {R : Type 0} → Ghosts R Beside → (heard : R → Awaited → R → Type 0) → Request → Target → R → R → Type 0
AwaitsMember told heard q to s n =
    slice_get q.balancer.now.ends to.member ≡ Some to.endpoint.now → InItsSite q (λ lbs. AwaitsDials told heard lbs s n)

abbrev pub AwaitsRounds : {B K R C : Type 0} → Ghosts R Beside → (heard : R → Awaited → R → Type 0) → Request → Means B K R C → Means B K R C → Type 0
AwaitsRounds told heard q s n = InItsSite q (λ lbs. AwaitsDials told heard lbs s.sides.reach.now n.sides.reach.now)

-- Before a byte of a body is read, its client is told that more of it is waited for: the client is as it was, or was told that
-- first. Before each talk the reach is told how long a dial of its member may take.
pub record AwaitsSides {B K R C : Type 0} (told : Ghosts R Beside) (reach_heard : R → Awaited → R → Type 0) (client_heard : C → Awaited → C → Type 0)
    (q : Request) (s n : Means B K R C) : Type 0 where
  pub body : first_len q.head.now.plan q.balancer.now.ends ≢ 0
      → (n.sides.client.now ≡ s.sides.client.now) ⊎ HearsNext client_heard s.sides.client.now awaited.Body
  pub dials : AwaitsRounds told reach_heard q s n
