-- The messages of a reply, the newest first: its head, its chunks, and whether their sum agrees.
use Rattle.std.specs.Prelude.{◌≡◌, ℕ, ◌+◌, ◌==◌, Bool, true, false, ◌&&◌, nat_le, nat_lt, List, [], ◌∷◌, length, Option, Some, None, IfSome, if◌then◌else◌}
use Rattle.std.specs.List.{list_all, list_any}
use Rattle.std.specs.Option.{option_map}
use Rattle.ajp_reply.specs.declared.message.Message.{Message}
use Rattle.ajp_reply.specs.declared.message.Message.TheVariants.{Headers, Chunk, End, Ask, Pong}
use Rattle.ajp_reply.specs.declared.message.ReplyParts.{ReplyParts}
use Rattle.ajp_reply.specs.Stream.{Spelled, IsForm, head_of}
use Rattle.http_out.specs.declared.reply_head.ReplyHead.{ReplyHead}
use Rattle.http_out.specs.declared.framing.RequestKind.{RequestKind}
use Rattle.http_out.specs.declared.framing.Framing.{Framing}
use Rattle.http_out.specs.declared.framing.Framing.TheVariants as By
use Rattle.http_out.specs.declared.content_length.ContentLength.{ContentLength}
use Rattle.http_out.specs.declared.content_length.ContentLength.TheVariants as Said
use Rattle.http_out.specs.Head.{is_text, is_field, content_length}
use Rattle.http_out.specs.Framing.{framing_of, has_no_body}
use Rattle.http_out.specs.ReplyBytes.{so_far, reply_bytes, has_begun}
use Rattle.ajp_talk.specs.declared.plan.TalkPlan.{TalkPlan}
use Rattle.ajp_talk.specs.declared.ending.Told.{Told}

-- the container's head as one that may go to a client
abbrev pub head_out : ReplyParts → ReplyHead
head_out parts = record { status = parts.status; message = parts.message; headers = parts.headers }

abbrev pub is_readable : ContentLength → Bool
is_readable Said.Absent = true
is_readable (Said.Announced n) = true
is_readable Said.Unreadable = false

-- a final status, a message and values that can't break the head's lines, names that are tokens, one length at most
unfoldable pub is_good : ReplyParts → Bool
is_good parts = nat_le 200 parts.status && (nat_le parts.status 999 && (is_text parts.message
    && (list_all is_field parts.headers && is_readable (content_length (head_out parts)))))

-- a reply with this status counts as a failure of the member
abbrev pub is_listed : List (ℕ × Bool) → ℕ → Bool
is_listed listed status = list_any (λ (entry : ℕ × Bool). entry.0 == status) listed

abbrev pub kind_of : TalkPlan → RequestKind
kind_of plan = record { old = plan.old; head_only = plan.head_only; last = plan.last; date = plan.date }

-- the bytes of the chunks, the newest first
abbrev pub chunks_of : List Message → List (List ℕ)
chunks_of [] = []
chunks_of (Headers parts ∷ past) = chunks_of past
chunks_of (Chunk bytes ∷ past) = bytes ∷ chunks_of past
chunks_of (End reuse ∷ past) = chunks_of past
chunks_of (Ask most ∷ past) = chunks_of past
chunks_of (Pong ∷ past) = chunks_of past

-- how many bytes the chunks have together
abbrev pub sum_of : List (List ℕ) → ℕ
sum_of [] = 0
sum_of (chunk ∷ past) = sum_of past + length chunk

-- the framing of a reply with this head
abbrev pub framing_in : TalkPlan → ReplyParts → Framing
framing_in plan parts = framing_of (kind_of plan) (head_out parts)

-- more than the length that was announced
abbrev pub exceeds : Framing → ℕ → Bool
exceeds By.NoBody sum = false
exceeds (By.Length due) sum = nat_lt due sum
exceeds By.Closing sum = false
exceeds By.Chunks sum = false

-- just the length that was announced, where one was
abbrev pub agrees : Framing → ℕ → Bool
agrees By.NoBody sum = true
agrees (By.Length due) sum = due == sum
agrees By.Closing sum = true
agrees By.Chunks sum = true

-- no more than the announced length came so far
abbrev pub IsWithinLength : TalkPlan → List Message → Type 0
IsWithinLength plan past = IfSome (head_of past) (λ parts. exceeds (framing_in plan parts) (sum_of (chunks_of past)) ≡ false)

-- the announced length came
abbrev pub Agrees : TalkPlan → List Message → Type 0
Agrees plan past = IfSome (head_of past) (λ parts. agrees (framing_in plan parts) (sum_of (chunks_of past)) ≡ true)

-- the status doesn't count as a failure
abbrev pub IsUnlisted : TalkPlan → List Message → Type 0
IsUnlisted plan past = IfSome (head_of past) (λ parts. is_listed plan.fail_on parts.status ≡ false)

-- the bytes are these messages, which have the form of a reply, and whose sum agrees
pub record IsReply (plan : TalkPlan) (past : List Message) (bytes : List ℕ) : Type 0 where
  pub spelled : Spelled plan.packet past bytes
  pub form : IsForm is_good past
  pub sum : Agrees plan past

-- what the client has of the reply so far
abbrev pub so_far_of_talk : TalkPlan → List Message → List ℕ
so_far_of_talk plan past = so_far (kind_of plan) (option_map head_out (head_of past)) (chunks_of past)

abbrev pub whole_of : RequestKind → Option ReplyHead → List (List ℕ) → List ℕ
whole_of kind None chunks = []
whole_of kind (Some head) chunks = reply_bytes kind head chunks

-- what the client has of the whole reply
abbrev pub reply_of_talk : TalkPlan → List Message → List ℕ
reply_of_talk plan past = whole_of (kind_of plan) (option_map head_out (head_of past)) (chunks_of past)

-- what the client has of these messages: of a reply that has ended all of it
abbrev pub bytes_for : TalkPlan → List Message → List ℕ
bytes_for plan [] = []
bytes_for plan (Headers parts ∷ past) = so_far_of_talk plan (Headers parts ∷ past)
bytes_for plan (Chunk bytes ∷ past) = so_far_of_talk plan (Chunk bytes ∷ past)
bytes_for plan (End reuse ∷ past) = reply_of_talk plan past
bytes_for plan (Ask most ∷ past) = so_far_of_talk plan past
bytes_for plan (Pong ∷ past) = so_far_of_talk plan past

-- the status, and how many bytes of chunks were passed: none where the reply has no body
abbrev pub told_by : RequestKind → ReplyParts → List (List ℕ) → Told
told_by kind parts chunks = record { status = parts.status; body = if has_no_body kind parts.status then 0 else sum_of chunks }

-- a byte of the reply was written
abbrev pub has_passed : RequestKind → Option ReplyParts → List (List ℕ) → Bool
has_passed kind None chunks = false
has_passed kind (Some parts) chunks = has_begun (framing_of kind (head_out parts)) chunks

abbrev pub passed_of : TalkPlan → List Message → Bool
passed_of plan past = has_passed (kind_of plan) (head_of past) (chunks_of past)

-- what is told of a reply of which a byte was written
abbrev pub told_with : RequestKind → Option ReplyParts → List (List ℕ) → Option Told
told_with kind None chunks = None
told_with kind (Some parts) chunks = if has_begun (framing_of kind (head_out parts)) chunks then Some (told_by kind parts chunks) else None

abbrev pub told_of_talk : TalkPlan → List Message → Option Told
told_of_talk plan past = told_with (kind_of plan) (head_of past) (chunks_of past)
