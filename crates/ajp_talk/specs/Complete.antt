-- A talk to which nothing happens but that its reply comes whole.
use Rattle.std.specs.Prelude.{◌≡◌, ℕ, ◌+◌, ◌<◌, ◌⊎◌, true, List, ◌++◌, length, Some, Result, Ok, Err}
use Rattle.jk_io.specs.Moments.{Moment}
use Rattle.jk_io.specs.Told.{appended, IsEmpty, Rose}
use Rattle.jk_io.specs.declared.failures.NoMemory.{NoMemory}
use Rattle.ajp_reply.specs.declared.message.Message.{Message}
use Rattle.http_front.specs.Body.{Data}
use Rattle.http_front.specs.State.{taken_of, most_of}
use Rattle.ajp_talk.specs.Moments.{TalkMoment, data_at}
use Rattle.ajp_talk.specs.Replies.{IsReply, IsUnlisted, bytes_for}
use Rattle.ajp_talk.specs.Owed.{pong_of}
use Rattle.ajp_talk.specs.declared.plan.TalkPlan.{TalkPlan}
use Rattle.ajp_talk.specs.declared.ending.TalkEnd.{TalkEnd}
use Rattle.ajp_talk.specs.declared.ending.TalkEnd.TheVariants as ends

-- The link had these bytes to come; or just these came on it, on which nothing had come before.
abbrev pub Brings : (s n : Moment) → List ℕ → Type 0
Brings s n bytes = (s.incoming ≡ Some bytes) ⊎ (IsEmpty s.received × (n.received ≡ Some bytes))

-- The link brings CPong first, where the talk pings, and then this reply, whose status isn't listed, below the
-- limit; the client's bytes have the body whole and below its own; and no fault rises.
pub record BringsWhole (plan : TalkPlan) (s n : TalkMoment) (all : List Message) : Type 0 where
  pub reply : List ℕ
  pub more : List ℕ
  pub comes : Brings s.line n.line ((pong_of plan ++ reply) ++ more)
  pub is : IsReply plan all reply
  pub unlisted : IsUnlisted plan all
  pub below : length (pong_of plan ++ reply) < plan.most
  pub data' : Data
  pub told : data_at s.body ≡ Some data'
  pub whole : data'.whole ≡ true
  pub limit : taken_of s.body.body + length data'.bytes < most_of s.body.body
  pub line : Rose s.line.faults n.line.faults → ⊥
  pub client : Rose s.client.faults n.client.faults → ⊥

-- the client has the whole reply, unless memory was wanted
abbrev pub IsCompleted : TalkPlan → TalkMoment → TalkMoment → List Message → Result TalkEnd NoMemory → Type 0
IsCompleted plan s n all (Ok (ends.Done told reuse bytes)) = n.client.sent ≡ appended s.client.sent (bytes_for plan all)
IsCompleted plan s n all (Ok (ends.Failed stage cause told bytes)) = ⊥
IsCompleted plan s n all (Ok (ends.ClientGone truncated keep bytes)) = ⊥
IsCompleted plan s n all (Ok (ends.BadBody status told passed bytes)) = ⊥
IsCompleted plan s n all (Err want) = Unit {0}

abbrev pub Completes : TalkPlan → TalkMoment → TalkMoment → Result TalkEnd NoMemory → Type 0
Completes plan s n result = (all : List Message) → BringsWhole plan s n all → IsCompleted plan s n all result
