-- The end of a talk: whether another may follow on the member, and how its lease goes back.
use Rattle.std.specs.Prelude.{ℕ, ◌+◌, ◌==◌, ◌&&◌, not, min, Bool, true, false, List, [], ◌∷◌, if◌then◌else◌}
use Rattle.std.specs.List.{list_any}
use Rattle.ajp_talk.specs.declared.ending.Cause.{Cause}
use Rattle.ajp_talk.specs.declared.ending.Cause.TheVariants as cause_is
use Rattle.ajp_talk.specs.declared.ending.TalkEnd.{TalkEnd}
use Rattle.ajp_talk.specs.declared.ending.TalkEnd.TheVariants as ends
use Rattle.http_front.specs.declared.head.Head.{Head}
use Rattle.lb_model.specs.declared.journal.Kind.{Kind}
use Rattle.lb_model.specs.declared.journal.Kind.TheVariants as kind
use Rattle.lb_model.specs.declared.journal.Outcome.{Outcome}
use Rattle.site_config.specs.declared.endpoint.Endpoint.{Endpoint}
use Rattle.exchange.specs.Requests.{allows}
use Rattle.exchange.specs.declared.ending.Ran.{Ran}
use Rattle.exchange.specs.declared.ending.Ran.TheVariants as ran_is

abbrev pub is_status : Cause → Bool
is_status cause_is.NoLink = false
is_status cause_is.Line = false
is_status cause_is.Ended = false
is_status cause_is.BadReply = false
is_status cause_is.Disagree = false
is_status cause_is.TooLong = false
is_status (cause_is.Status status) = true

-- another talk on the member may follow: this one failed, by no status, and the options allow another
abbrev pub tries_again : Endpoint → Head → TalkEnd → Bool
tries_again endpoint head (ends.Done told reuse bytes) = false
tries_again endpoint head (ends.Failed stage cause told bytes) = not (is_status cause) && allows endpoint head stage
tries_again endpoint head (ends.ClientGone truncated keep bytes) = false
tries_again endpoint head (ends.BadBody status told passed bytes) = false

-- what a talk sent and received
abbrev pub bytes_of : TalkEnd → ℕ
bytes_of (ends.Done told reuse bytes) = bytes
bytes_of (ends.Failed stage cause told bytes) = bytes
bytes_of (ends.ClientGone truncated keep bytes) = bytes
bytes_of (ends.BadBody status told passed bytes) = bytes

-- what the talks sent and received together
abbrev pub moved : List TalkEnd → ℕ
moved [] = 0
moved (end ∷ past) = moved past + bytes_of end

-- what of it a lease tells: at most 2^44
abbrev pub told_bytes : List TalkEnd → ℕ
told_bytes past = min (moved past) 17592186044416

-- a status that counts as a failure and yet is no error of the member
abbrev pub is_negated : List (ℕ × Bool) → ℕ → Bool
is_negated listed status = list_any (λ (entry : ℕ × Bool). (entry.0 == status) && entry.1) listed

abbrev pub kind_of_cause : List (ℕ × Bool) → Cause → Kind
kind_of_cause listed cause_is.NoLink = kind.Failed
kind_of_cause listed cause_is.Line = kind.Failed
kind_of_cause listed cause_is.Ended = kind.Failed
kind_of_cause listed cause_is.BadReply = kind.Failed
kind_of_cause listed cause_is.Disagree = kind.Failed
kind_of_cause listed cause_is.TooLong = kind.Failed
kind_of_cause listed (cause_is.Status status) = if is_negated listed status then kind.Gone else kind.Failed

-- Done after a complete reply, Failed after a talk that failed but for a negated status, else Gone
abbrev pub kind_after : List (ℕ × Bool) → TalkEnd → Kind
kind_after listed (ends.Done told reuse bytes) = kind.Done
kind_after listed (ends.Failed stage cause told bytes) = kind_of_cause listed cause
kind_after listed (ends.ClientGone truncated keep bytes) = kind.Gone
kind_after listed (ends.BadBody status told passed bytes) = kind.Gone

-- how the lease of a round is handed back
abbrev pub outcome_for : Endpoint → Ran → Outcome
outcome_for endpoint ran_is.TooLarge = record { kind = kind.Gone; bytes = 0 }
outcome_for endpoint (ran_is.Wanted bytes) = record { kind = kind.Gone; bytes = bytes }
outcome_for endpoint (ran_is.Ended end bytes) = record { kind = kind_after endpoint.fail_on end; bytes = bytes }

-- the own answer after a talk that failed: 503 for a status that counts as a failure, 502 for any other cause
abbrev pub status_for : Cause → ℕ
status_for cause = if is_status cause then 503 else 502
