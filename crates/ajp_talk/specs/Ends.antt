-- How a talk's answer is made from how far it had come; and what a plan keeps.
use Rattle.std.specs.Prelude.{ℕ, ◌^◌, ◌<◌, ◌≤◌, Bool, true, false, ◌&&◌, not, nat_le, nat_lt, length, Option, Some, None, Result, Ok, Err, if◌then◌else◌}
use Rattle.http_front.specs.Walks.{counted}
use Rattle.http_out.specs.Own.{status_of}
use Rattle.http_out.specs.declared.own_answers.Own.{Own}
use Rattle.ajp_talk.specs.Owed.{opening, IsSealed}
use Rattle.ajp_talk.specs.declared.plan.TalkPlan.{TalkPlan}
use Rattle.ajp_talk.specs.declared.course.Course.{Course}
use Rattle.ajp_reply.specs.declared.stage.Stage.{Stage}
use Rattle.ajp_talk.specs.declared.ending.Told.{Told}
use Rattle.ajp_talk.specs.declared.ending.Cause.{Cause}
use Rattle.ajp_talk.specs.declared.ending.Cause.TheVariants as cause_is
use Rattle.ajp_talk.specs.declared.ending.TalkEnd.{TalkEnd}
use Rattle.ajp_talk.specs.declared.ending.TalkEnd.TheVariants as ends
use Rattle.ajp_talk.specs.declared.turn.Turn.{Turn}
use Rattle.ajp_talk.specs.declared.turn.Turn.TheVariants as turn_is
use Rattle.ajp_talk.specs.declared.turn.Unheard.{Unheard}
use Rattle.ajp_talk.specs.declared.turn.Unheard.TheVariants as unheard_is
use Rattle.jk_io.specs.declared.failures.NoMemory.{NoMemory}

-- A piece has 1 to 65,530 bytes, the limit is 1 to 2^40, a packet goes out first, and the first piece is within a piece.
pub record IsPlan (plan : TalkPlan) : Type 0 where
  pub some_piece : 0 < plan.piece
  pub piece : plan.piece ≤ 65530
  pub some_bytes : 0 < plan.most
  pub most : plan.most ≤ 2 ^ 40
  pub forward : IsSealed plan.forward
  pub first : length plan.first ≤ plan.piece

abbrev pub stage_end : TalkPlan → Course → ℕ → Stage
stage_end plan c taken = record {
  got = nat_le (length (opening plan)) c.sent;
  headers = c.headers;
  passed = c.writer.passed;
  beyond = nat_lt (length plan.first) taken;
}

abbrev pub told_end : Course → Option Told
told_end c = if c.writer.passed then Some c.told else None

abbrev pub bytes_end : Course → ℕ
bytes_end c = counted c.sent c.received

abbrev pub failed_end : TalkPlan → Course → ℕ → Cause → TalkEnd
failed_end plan c taken cause = ends.Failed (stage_end plan c taken) cause (told_end c) (bytes_end c)

abbrev pub done_end : Course → Bool → TalkEnd
done_end c reuse = ends.Done c.told reuse (bytes_end c)

abbrev pub gone_end : Course → Bool → Bool → TalkEnd
gone_end c truncated keep = ends.ClientGone truncated keep (bytes_end c)

abbrev pub bad_end : Course → Own → TalkEnd
bad_end c own = ends.BadBody (status_of own) (told_end c) c.writer.passed (bytes_end c)

-- The end that a turn makes. None ends where the talk goes on, and what comes of a lost client is said apart.
abbrev pub ended_by : NoMemory → TalkPlan → Course → ℕ → Turn → Result TalkEnd NoMemory
ended_by want plan c taken turn_is.On = Err want
ended_by want plan c taken (turn_is.Done reuse) = Ok (done_end c reuse)
ended_by want plan c taken (turn_is.Failed cause) = Ok (failed_end plan c taken cause)
ended_by want plan c taken turn_is.Lost = Err want
ended_by want plan c taken (turn_is.LostAtEnd reuse) = Ok (gone_end c false (reuse && not plan.close_on_client))
ended_by want plan c taken turn_is.Unread = Ok (gone_end c false false)
ended_by want plan c taken turn_is.Cut = Ok (gone_end c true false)
ended_by want plan c taken (turn_is.Bad own) = Ok (bad_end c own)
ended_by want plan c taken turn_is.NoMemory = Err want

-- a talk that failed before a CPong came
abbrev pub early_end : ℕ → ℕ → Cause → TalkEnd
early_end sent received cause = ends.Failed (record { got = false; headers = false; passed = false; beyond = false }) cause None (counted sent received)

abbrev pub unanswered_end : NoMemory → ℕ → ℕ → Unheard → Result TalkEnd NoMemory
unanswered_end want sent received unheard_is.Line = Ok (early_end sent received cause_is.Line)
unanswered_end want sent received unheard_is.Ended = Ok (early_end sent received cause_is.Ended)
unanswered_end want sent received unheard_is.Wrong = Ok (early_end sent received cause_is.BadReply)
unanswered_end want sent received unheard_is.TooLong = Ok (early_end sent received cause_is.TooLong)
unanswered_end want sent received unheard_is.NoMemory = Err want
