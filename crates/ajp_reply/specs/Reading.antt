-- Reading a payload from left to right, up to the first place that can't be read.
use Rattle.std.specs.Prelude.{◌≡◌, ◌⊎◌, ℕ, zero, suc, ◌==◌, true, List, [], ◌∷◌, length, take, drop, Result, Ok, nat_lt, if◌then◌else◌}
use Rattle.ajp_wire.specs.declared.refusal.Refusal.{Refusal}
use Rattle.ajp_wire.specs.declared.refusal.RefusalKind.TheVariants.{Short, BadCode, BadMark, Extra}
use Rattle.ajp_wire.specs.Reading.{◌>>=◌, refused, int_at, text_at, headers_at}
use Rattle.ajp_reply.specs.declared.message.Message.{Message}
use Rattle.ajp_reply.specs.declared.message.Message.TheVariants.{Headers, Chunk, End, Ask, Pong}
use Rattle.ajp_reply.specs.Spelling.{reply_names, BeginsHead}

-- nothing stands after a message
abbrev pub ended : Message → List ℕ → Result Message Refusal
ended message [] = Ok message
ended message (byte ∷ rest) = refused Extra (byte ∷ rest)

-- a chunk's data, and what stands after them: nothing, or the zero byte
abbrev pub chunk_end : List ℕ → List ℕ → Result Message Refusal
chunk_end bytes [] = Ok (Chunk bytes)
chunk_end bytes (zero ∷ rest) = ended (Chunk bytes) rest
chunk_end bytes (suc byte ∷ rest) = refused BadMark (suc byte ∷ rest)

unfoldable pub chunk_at : List ℕ → Result Message Refusal
chunk_at bytes = do
  size ← int_at bytes
  if nat_lt (length size.1) size.0 then refused Short [] else chunk_end (take size.0 size.1) (drop size.0 size.1)

unfoldable pub head_at : List ℕ → Result Message Refusal
head_at bytes = do
  status ← int_at bytes
  text ← text_at true status.1
  listed ← headers_at reply_names true text.1
  ended (Headers (record { status = status.0; message = text.0; headers = listed.0 })) listed.1

abbrev pub end_at : List ℕ → Result Message Refusal
end_at [] = refused Short []
end_at (byte ∷ rest) = ended (End (byte == 1)) rest

unfoldable pub ask_at : List ℕ → Result Message Refusal
ask_at bytes = do
  most ← int_at bytes
  ended (Ask most.0) most.1

-- a payload whole, by its first byte
abbrev pub message_at : List ℕ → Result Message Refusal
message_at [] = refused Short []
message_at (code ∷ rest) =
    if code == 4 then head_at rest
    else (if code == 3 then chunk_at rest
    else (if code == 5 then end_at rest
    else (if code == 6 then ask_at rest
    else (if code == 9 then ended Pong rest
    else refused BadCode (code ∷ rest)))))

-- reading takes memory: for the texts of a head, or for the data of a chunk
abbrev pub ReadsWithMemory : List ℕ → Type 0
ReadsWithMemory payload = BeginsHead payload ⊎ ((bytes : List ℕ) × (message_at payload ≡ Ok (Chunk bytes)))
