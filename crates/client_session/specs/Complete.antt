-- A request to which nothing happens but that a member is chosen and its reply comes whole.
use Rattle.std.specs.Prelude.{ℕ, ◌≡◌, ◌+◌, ◌⊎◌, true, List, [], ◌++◌, Some, slice_get}
use Rattle.jk_io.specs.Told.{appended}
use Rattle.jk_io.specs.declared.reaching.Talk.{Talk}
use Rattle.http_front.specs.Request.{IsHeadOf}
use Rattle.http_front.specs.declared.head.Head.{Head}
use Rattle.http_front.specs.declared.body.BodyIn.{BodyIn}
use Rattle.ajp_reply.specs.declared.message.Message.{Message}
use Rattle.ajp_talk.specs.Replies.{bytes_for}
use Rattle.site_config.specs.declared.balancer.Lb.{Lb}
use Rattle.site_config.specs.declared.config.Named.TheVariants as named
use Rattle.exchange.specs.Complete.{HasWhole, plan_of_note}
use Rattle.exchange.specs.Rounds.{Scene}
use Rattle.client_session.specs.Answers.{errand_at}
use Rattle.client_session.specs.Ends.{end_of}
use Rattle.client_session.specs.Requests.{IsNewBody, Visit, continue_for, is_last, mounted_at}
use Rattle.client_session.specs.Standings.{ClientStanding, unread_at, with_body}
use Rattle.client_session.specs.declared.ending.SessionEnd.{SessionEnd}
use Rattle.client_session.specs.declared.ending.SessionStop.TheVariants as stop
use Rattle.client_session.specs.declared.ending.Why.TheVariants as why

-- the scene in which the body's bytes are to come
abbrev pub with_bytes : ClientStanding → BodyIn → List ℕ → Scene
with_bytes s body bytes = record {
  desk = s.desk.state;
  clock = s.desk.clock;
  around = record {
    talks = s.reach.talks;
    faults = s.reach.faults;
    client = s.client;
    body = record { body = body; unread = Some bytes };
  };
}

-- The next request of the client's bytes, after `number` others, is mounted at a balancer. Its whole body is there, below the
-- limit. The first talk that the reach noted after `s` is t, and its link brings this whole reply, whose status isn't
-- listed. Up to `n` no fault rises, and no ticket is a stray.
pub record IsUndisturbed (v : Visit) (number : ℕ) (s n : ClientStanding) (head : Head) (t : Talk) (all : List Message) : Type 0 where
  pub used : List ℕ
  pub rest : List ℕ
  pub told : unread_at s ≡ Some (used ++ rest)
  pub is_head : IsHeadOf used head
  pub lb : ℕ
  pub balancer : Lb
  pub mounted : mounted_at v head ≡ Some (named.Balancer lb)
  pub stands : slice_get v.cfg.lbs lb ≡ Some balancer
  pub body : BodyIn
  pub fresh : IsNewBody head.plan body
  pub whole : HasWhole (errand_at v head (is_last number head) lb balancer) (with_bytes s body rest) (with_body n body) t all

-- 100 Continue where it is due, and exactly what the messages make of a reply
abbrev pub reply_due : (v : Visit) (number : ℕ) (s n : ClientStanding) (head : Head) (t : Talk) (all : List Message)
    → IsUndisturbed v number s n head t all → List ℕ
reply_due v number s n head t all u =
    continue_for head
    ++ bytes_for (plan_of_note (errand_at v head (is_last number head) u.lb u.balancer) u.whole.data' u.whole.config u.whole.endpoint t) all

-- The client has exactly that, after one talk.
pub record GetsWhole (v : Visit) (number : ℕ) (s n : ClientStanding) (head : Head) (t : Talk) (all : List Message)
    (u : IsUndisturbed v number s n head t all) : Type 0 where
  pub one : u.whole.later ≡ []
  pub written : n.client.sent ≡ appended s.client.sent (reply_due v number s n head t all u)

-- Such a request is answered with exactly its reply: where the session went on after it,
abbrev pub ServesWhole : Visit → (number : ℕ) → (s n : ClientStanding) → Type 0
ServesWhole v number s n =
    (head : Head) (t : Talk) (all : List Message) → (u : IsUndisturbed v number s n head t all) → GetsWhole v number s n head t all u

-- and where it ended there, which it then does only after a last request, or for want of memory.
abbrev pub EndsWhole : Visit → SessionEnd → (number : ℕ) → (s n : ClientStanding) → Type 0
EndsWhole v end number s n =
    (head : Head) (t : Talk) (all : List Message) → (u : IsUndisturbed v number s n head t all)
    → (end.stop ≡ stop.NoMemory)
    ⊎ ((end ≡ end_of (stop.Closed why.Last) (number + 1)) × (is_last number head ≡ true) × GetsWhole v number s n head t all u)
