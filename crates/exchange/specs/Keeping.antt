-- Values lent to the parts of an exchange: those with which a part may begin, and those that it keeps.
use Rattle.std.specs.Prelude.{◌≡◌, ℕ, ◌≤◌, ◌<◌, false, List, length, slice_get, slice_index, None, Some, IfSome}
use Rattle.http_front.specs.Places.{start_of}
use Rattle.http_front.specs.State.{failed_of, place_of, taken_of}
use Rattle.http_front.specs.declared.body.BodyIn.{BodyIn}
use Rattle.http_front.specs.declared.head.BodyPlan.{BodyPlan}
use Rattle.jk_io.specs.declared.reaching.Beside.{Beside}
use Rattle.jk_io.specs.declared.traits.streams.Meanings.{Ghosts}
use Rattle.lb_book.specs.Desks.{DeskState}
use Rattle.forwarding.specs.FirstPiece.{piece_for}
use Rattle.site_config.specs.declared.endpoint.Endpoint.{Endpoint}
use Rattle.exchange.specs.Means.{AreSameSides}
use Rattle.exchange.specs.Rounds.{IsDeskAfter}
use Rattle.exchange.specs.declared.request.Request.{Request}
use Rattle.exchange.specs.declared.sides.Means.{Means}
use Rattle.exchange.specs.declared.sides.Sides.{Sides}

-- Nothing was taken of a body of this plan.
pub record IsAllLeft (plan : BodyPlan) (body : BodyIn) : Type 0 where
  pub place : place_of body ≡ start_of plan
  pub taken : taken_of body ≡ 0
  pub going : failed_of body ≡ None

-- A talk with this member may begin: none runs, and just the first piece was taken of the body.
pub record MayTalk {R C : Type 0} (told : Ghosts R Beside) (lb member : ℕ) (first : List ℕ) (s : Sides R C) : Type 0 where
  pub idle : (told.beside s.reach.now).runs ≡ false
  pub known : member < slice_index (told.beside s.reach.now).sizes lb
  pub taken : taken_of s.body.now ≡ length first
  pub going : failed_of s.body.now ≡ None

-- After talks none runs, no count of faults fell, and the sides are still the caller's own.
pub record KeepsSides {R C X : Type 0} (of_reach : Ghosts R Beside) (of_client : Ghosts C X) (s n : Sides R C) : Type 0 where
  pub idle : (of_reach.beside n.reach.now).runs ≡ false
  pub sizes : (of_reach.beside n.reach.now).sizes ≡ (of_reach.beside s.reach.now).sizes
  pub beside : of_client.beside n.client.now ≡ of_client.beside s.client.now
  pub reach_faults : of_reach.faults s.reach.now ≤ of_reach.faults n.reach.now
  pub client_faults : of_client.faults s.client.now ≤ of_client.faults n.client.now
  pub same : AreSameSides s n

-- The desk may be asked for a member of the request's balancer, which has the same members to the desk and to the reach.
pub record MayAsk {B K R C : Type 0} (state : B → DeskState) (told : Ghosts R Beside) (q : Request) (m : Means B K R C) : Type 0 where
  pub lb : q.lb < length (state m.desk.now).sizes
  pub caller : IfSome (state m.desk.now).caller (λ n. q.session ≡ n)
  pub desk_size : slice_index (state m.desk.now).sizes q.lb ≡ length q.balancer.now.book.members
  pub reach_size : slice_index (told.beside m.sides.reach.now).sizes q.lb ≡ length q.balancer.now.book.members
  pub idle : (told.beside m.sides.reach.now).runs ≡ false

-- Just the first piece was taken, and a packet for each member has room for it.
pub record TookFirst (q : Request) (first : List ℕ) (body : BodyIn) : Type 0 where
  pub short : (endpoint : Endpoint) → (m : ℕ) → slice_get q.balancer.now.ends m ≡ Some endpoint → length first ≤ piece_for endpoint
  pub taken : taken_of body ≡ length first
  pub going : failed_of body ≡ None

-- After rounds the desk holds the tickets that it held, and desk, clock and sides are still the caller's own.
pub record KeepsMeans {B K R C X : Type 0} (state : B → DeskState) (of_reach : Ghosts R Beside) (of_client : Ghosts C X) (q : Request)
    (s n : Means B K R C) : Type 0 where
  pub held : (state n.desk.now).held ≡ (state s.desk.now).held
  pub kept : IsDeskAfter q.lb q.session (state s.desk.now) (state n.desk.now)
  pub desk : n.desk.ghost_name ≡ s.desk.ghost_name
  pub clock : n.clock.ghost_name ≡ s.clock.ghost_name
  pub sides : KeepsSides of_reach of_client s.sides n.sides
