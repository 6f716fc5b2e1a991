-- A writer of replies, step by step: a head, chunks and an end, which together make the reply's bytes.
use Rattle.std.specs.Prelude.{if◌then◌else◌, ◌≡◌, ℕ, Bool, true, false, ◌&&◌, ◌||◌, not, List, [], ◌∷◌, ◌++◌, length, nat_lt, Option, Some, None, unwrap_or, Result, Ok, Err}
use Rattle.jk_io.specs.Told.{appended, PutsFront}
use Rattle.http_out.specs.declared.framing.RequestKind.{RequestKind}
use Rattle.http_out.specs.declared.framing.Framing.{Framing}
use Rattle.http_out.specs.declared.framing.Framing.TheVariants as By
use Rattle.http_out.specs.declared.reply_head.ReplyHead.{ReplyHead}
use Rattle.http_out.specs.declared.reply_head.OutError.{OutError}
use Rattle.http_out.specs.declared.reply_head.OutError.TheVariants as Out
use Rattle.http_out.specs.Head.{IsReplyHead}
use Rattle.http_out.specs.Framing.{framing_of, framed, is_passed, closing_bytes, spent, is_beyond, is_complete}
use Rattle.http_out.specs.ReplyBytes.{head_bytes, has_begun, so_far_of, reply_bytes}

-- A writer: the kind of request; once a head was given how the body is framed, with what is due of an announced length;
-- the head's bytes as long as they are held; whether a byte was written, a write failed, the reply was ended.
pub record Writer : Type 0 where
  pub kind : RequestKind
  pub framing : Option Framing
  pub held : List ℕ
  pub passed : Bool
  pub failed : Bool
  pub ended : Bool

abbrev pub new_writer : RequestKind → Writer
new_writer kind = record { kind = kind; framing = None; held = []; passed = false; failed = false; ended = false }

-- a head was given, and the reply was not ended
pub record IsOpenReply (w : Writer) : Type 0 where
  pub framing : Framing
  pub given : w.framing ≡ Some framing
  pub goes_on : w.ended ≡ false

abbrev pub framing_now : Writer → Framing
framing_now w = unwrap_or w.framing By.NoBody

-- the writer after a head
abbrev pub after_head : Writer → ReplyHead → Writer
after_head w h = record w { framing = Some (framing_of w.kind h); held = head_bytes w.kind h }

-- what a chunk writes, and the writer after it
abbrev pub writes_chunk : Writer → List ℕ → Bool
writes_chunk w chunk = not w.failed && is_passed (framing_now w) chunk

abbrev pub chunk_bytes : Writer → List ℕ → List ℕ
chunk_bytes w chunk = if writes_chunk w chunk then w.held ++ framed (framing_now w) chunk else []

abbrev pub counted : Writer → List ℕ → Writer
counted w chunk = record w { framing = Some (spent (framing_now w) (length chunk)) }

abbrev pub after_bytes : Writer → List ℕ → Writer
after_bytes w bytes = record w { held = []; passed = w.passed || nat_lt 0 (length bytes) }

abbrev pub after_chunk : Writer → List ℕ → Writer
after_chunk w chunk = if writes_chunk w chunk then after_bytes (counted w chunk) (chunk_bytes w chunk) else counted w chunk

-- what the end writes, and the writer after it
abbrev pub end_bytes : Writer → List ℕ
end_bytes w = if w.failed then [] else w.held ++ closing_bytes (framing_now w)

abbrev pub closed : Writer → Writer
closed w = record w { ended = true }

abbrev pub after_end : Writer → Writer
after_end w = if w.failed then closed w else after_bytes (closed w) (end_bytes w)

-- a write that was refused: a front of the bytes was written, nothing is held, and from then on nothing more is written
pub record BreaksOff (w now : Writer) (sent sent_now : Option (List ℕ)) (bytes : List ℕ) : Type 0 where
  pub puts : PutsFront sent sent_now bytes
  pub state : now ≡ record w { held = []; failed = true; passed = w.passed || nat_lt 0 (length puts.front) }

-- A step with these bytes, by its answer: where it leaves the writer, and what was written. After a write was
-- refused no step is.
abbrev pub IsStep : (refused : Bool) (bytes : List ℕ) (w counting next now : Writer) (sent sent_now : Option (List ℕ))
    → Result Unit OutError → Type 0
IsStep refused bytes w counting next now sent sent_now (Ok _) =
    (refused ≡ false) × (now ≡ next) × (sent_now ≡ appended sent bytes)
IsStep refused bytes w counting next now sent sent_now (Err Out.Disagree) =
    (refused ≡ true) × (now ≡ w) × (sent_now ≡ sent)
IsStep refused bytes w counting next now sent sent_now (Err Out.Fault) =
    (refused ≡ false) × (w.failed ≡ false) × BreaksOff counting now sent sent_now bytes
IsStep refused bytes w counting next now sent sent_now (Err Out.NoMemory) =
    (refused ≡ false) × (w.failed ≡ false) × BreaksOff counting now sent sent_now bytes
IsStep refused bytes w counting next now sent sent_now (Err Out.BadReply) = ⊥

abbrev pub IsChunkStep : Writer → List ℕ → Writer → Option (List ℕ) → Option (List ℕ) → Result Unit OutError → Type 0
IsChunkStep w chunk now sent sent_now result =
    IsStep (is_beyond (framing_now w) (length chunk)) (chunk_bytes w chunk) w (counted w chunk) (after_chunk w chunk) now sent sent_now result

abbrev pub IsEndStep : Writer → Writer → Option (List ℕ) → Option (List ℕ) → Result Unit OutError → Type 0
IsEndStep w now sent sent_now result =
    IsStep (not (is_complete (framing_now w))) (end_bytes w) w (closed w) (after_end w) now sent sent_now result

-- a head is taken exactly where it may go to a client
abbrev pub IsJudgedReplyHead : ReplyHead → Writer → Writer → Result Unit OutError → Type 0
IsJudgedReplyHead h w now (Ok _) = IsReplyHead h × (now ≡ after_head w h)
IsJudgedReplyHead h w now (Err Out.BadReply) = (¬ (IsReplyHead h)) × (now ≡ w)
IsJudgedReplyHead h w now (Err Out.NoMemory) = now ≡ w
IsJudgedReplyHead h w now (Err Out.Disagree) = ⊥
IsJudgedReplyHead h w now (Err Out.Fault) = ⊥

-- how the body is framed after these chunks, the newest first
abbrev pub framing_after : Framing → List (List ℕ) → Framing
framing_after f [] = f
framing_after f (chunk ∷ past) = spent (framing_after f past) (length chunk)

-- the writer after a head and these chunks, where no write failed
abbrev pub writer_after : RequestKind → ReplyHead → List (List ℕ) → Writer
writer_after kind h past = record {
  kind = kind;
  framing = Some (framing_after (framing_of kind h) past);
  held = (if has_begun (framing_of kind h) past then [] else head_bytes kind h);
  passed = has_begun (framing_of kind h) past;
  failed = false;
  ended = false;
}

-- a chunk writes just what it adds to the reply so far, and leaves the writer of the longer list
abbrev pub GrowsByChunk : Type 0
GrowsByChunk = (kind : RequestKind) (h : ReplyHead) (chunk : List ℕ) (past : List (List ℕ))
    → (so_far_of kind h (chunk ∷ past) ≡ so_far_of kind h past ++ chunk_bytes (writer_after kind h past) chunk)
    × (after_chunk (writer_after kind h past) chunk ≡ writer_after kind h (chunk ∷ past))

-- the end writes just what a whole reply has beyond the reply so far
abbrev pub EndsWhole : Type 0
EndsWhole = (kind : RequestKind) (h : ReplyHead) (past : List (List ℕ))
    → reply_bytes kind h past ≡ so_far_of kind h past ++ end_bytes (writer_after kind h past)

-- what was written is a prefix of each reply that goes on from there
abbrev pub StaysPrefix : Type 0
StaysPrefix = (kind : RequestKind) (h : ReplyHead) (later past : List (List ℕ))
    → (rest : List ℕ) × (reply_bytes kind h (later ++ past) ≡ so_far_of kind h past ++ rest)
