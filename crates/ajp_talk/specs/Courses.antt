-- How a talk stands between two messages, and how it has begun.
use Rattle.std.specs.Prelude.{◌≡◌, ℕ, ◌+◌, ◌*◌, ◌≤◌, ◌<◌, false, List, ◌++◌, length, Option, Some, None, IfSome, is_some, Result}
use Rattle.jk_io.specs.Told.{appended}
use Rattle.jk_io.specs.declared.failures.NoMemory.{NoMemory}
use Rattle.ajp_reply.specs.declared.message.Message.{Message}
use Rattle.ajp_reply.specs.declared.message.ReplyParts.{ReplyParts}
use Rattle.ajp_reply.specs.Stream.{head_of}
use Rattle.http_front.specs.Body.{dropped}
use Rattle.http_front.specs.State.{taken_of, failed_of}
use Rattle.http_out.specs.declared.framing.RequestKind.{RequestKind}
use Rattle.http_out.specs.Writer.{Writer, new_writer, writer_after}
use Rattle.jk_io.specs.Moments.{Moment}
use Rattle.ajp_talk.specs.Moments.{BodyAt, TalkMoment, data_at, Traffic, IsSteady, TakesOfBody, IsFrontOf}
use Rattle.ajp_talk.specs.Replies.{head_out, kind_of, chunks_of, so_far_of_talk, told_by}
use Rattle.ajp_talk.specs.Owed.{asked, pong_of, opening, owed}
use Rattle.ajp_talk.specs.Talk.{Accepts, IsTalk}
use Rattle.ajp_talk.specs.declared.plan.TalkPlan.{TalkPlan}
use Rattle.ajp_talk.specs.declared.course.Course.{Course}
use Rattle.ajp_talk.specs.declared.ending.TalkEnd.{TalkEnd}

-- the writer after a head, if one came, and chunks
abbrev pub writer_for : RequestKind → Option ReplyParts → List (List ℕ) → Writer
writer_for kind None chunks = new_writer kind
writer_for kind (Some parts) chunks = writer_after kind (head_out parts) chunks

-- The messages were accepted, the client has what they make so far, and the counts are those of the bytes.
pub record Stands (plan : TalkPlan) (s m : TalkMoment) (c : Course) (past : List Message) (came put : List ℕ) : Type 0 where
  pub accepts : Accepts plan past came
  pub traffic : Traffic s.line m.line (pong_of plan ++ came) put
  pub written : m.client.sent ≡ appended s.client.sent (so_far_of_talk plan past)
  pub writer : c.writer ≡ writer_for (kind_of plan) (head_of past) (chunks_of past)
  pub headers : c.headers ≡ is_some (head_of past)
  pub told : IfSome (head_of past) (λ parts. c.told ≡ told_by (kind_of plan) parts (chunks_of past))
  pub sent : c.sent ≡ length put
  pub received : c.received ≡ length (pong_of plan ++ came)
  pub below : c.received < plan.most
  pub few : length put ≤ 200000 + 65540 * c.received
  pub taken : List ℕ
  pub takes : TakesOfBody s.body m.body taken
  pub left : data_at m.body ≡ dropped (asked plan.piece past) (data_at s.body)
  pub asked_for : length taken ≤ asked plan.piece past
  pub little : taken_of m.body.body ≤ 65530 + 65540 * c.received

-- and all that is owed was sent
pub record At (plan : TalkPlan) (s m : TalkMoment) (c : Course) : Type 0 where
  pub past : List Message
  pub came : List ℕ
  pub put : List ℕ
  pub stands : Stands plan s m c past came put
  pub owed : IfSome (data_at s.body) (λ d. put ≡ owed plan d past)
  pub opened : IsFrontOf (opening plan) put
  pub steady : IsSteady s.line m.line

-- the course where nothing of a reply came
abbrev pub fresh : TalkPlan → ℕ → ℕ → Course
fresh plan sent received = record { writer = new_writer (kind_of plan); headers = false; told = record { status = 0; body = 0 }; sent = sent; received = received }

-- The talk has begun, or it ended before.
abbrev pub HasBegun : TalkPlan → TalkMoment → TalkMoment → Course → Option (Result TalkEnd NoMemory) → Type 0
HasBegun plan s n c None = At plan s n c
HasBegun plan s n c (Some end) = IsTalk plan s n end

-- and so it is, whatever the client and the body are, of which nothing was taken but the first piece
abbrev pub BeginsCourse : TalkPlan → Moment → Moment → Course → Option (Result TalkEnd NoMemory) → Type 0
BeginsCourse plan l l' c answer = (w : Moment) (b : BodyAt) → taken_of b.body ≡ length plan.first → failed_of b.body ≡ None
    → HasBegun plan (record { line = l; client = w; body = b }) (record { line = l'; client = w; body = b }) c answer
