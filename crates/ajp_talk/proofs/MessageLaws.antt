-- How many bytes messages have, and which bytes begin no CPong.
use Rattle.std.proofs.Common.{◌≡◌, ℕ, ◌+◌, ◌≤◌, ◌<◌, Bool, true, false, List, [], ◌∷◌, length, refl, ap, ◌∙◌, arith, length-append, inl, inr, is_some}
use Rattle.ajp_wire.specs.Packet.{packet, IsPart}
use Rattle.ajp_reply.specs.declared.message.Message.{Message}
use Rattle.ajp_reply.specs.declared.message.Message.TheVariants.{Headers, Chunk, End, Ask, Pong}
use Rattle.ajp_reply.specs.declared.message.ReplyParts.{ReplyParts}
use Rattle.ajp_reply.specs.Stream.{IsPacketOf, Spelled, IsFront, IsForm, BeginsNoMessage, head_of}
use Rattle.ajp_reply.proofs.StreamLaws.{packets-only}
use Rattle.ajp_talk.specs.Replies.{is_good, chunks_of, sum_of}
use Rattle.ajp_talk.specs.Talk.{IsNext, BeginsNoPong}

pub packet-length : (payload : List ℕ) → length (packet true payload) ≡ length payload + 4
packet-length payload = omega arith

-- the bytes of a message are those of its packet
pub message-length : (most : ℕ) (message : Message) (bytes : List ℕ) (p : IsPacketOf most message bytes) → length bytes ≡ length p.payload + 4
message-length most message bytes p = ap length p.packet.whole ∙ packet-length p.payload

pub some-bytes : (most : ℕ) (message : Message) (bytes : List ℕ) → IsPacketOf most message bytes → (0 < length bytes) × (length bytes < 65540)
some-bytes most message bytes p =
    let long = message-length most message bytes p in
    let narrow = p.packet.fits.narrow in
    (omega (arith, long), omega (arith, long, narrow))

-- a chunk is shorter than its message
pub chunk-within : (most : ℕ) (chunk bytes : List ℕ) → IsPacketOf most (Chunk chunk) bytes → length chunk ≤ length bytes
chunk-within most chunk bytes p =
    let long = message-length most (Chunk chunk) bytes p in
    elim p.spelled.whole [
      | inl e ↦ omega (arith, long, ap length e, length-append chunk (0 ∷ []))
      | inr e ↦ omega (arith, long, ap length e)
    ]

-- the chunks have no more bytes than came
pub sum-within : (most : ℕ) (past : List Message) (bytes : List ℕ) → Spelled most past bytes → sum_of (chunks_of past) ≤ length bytes
sum-within most [] bytes s = omega arith
sum-within most (Headers parts ∷ past) bytes (before, last, s, p, whole) =
    let rest = sum-within most past before s in omega (arith, ap length whole ∙ length-append before last)
sum-within most (Chunk chunk ∷ past) bytes (before, last, s, p, whole) =
    let rest = sum-within most past before s in
    let one = chunk-within most chunk last p in
    omega (arith, ap length whole ∙ length-append before last)
sum-within most (End reuse ∷ past) bytes (before, last, s, p, whole) =
    let rest = sum-within most past before s in omega (arith, ap length whole ∙ length-append before last)
sum-within most (Ask n ∷ past) bytes (before, last, s, p, whole) =
    let rest = sum-within most past before s in omega (arith, ap length whole ∙ length-append before last)
sum-within most (Pong ∷ past) bytes (before, last, s, p, whole) =
    let rest = sum-within most past before s in omega (arith, ap length whole ∙ length-append before last)

-- no byte is a part of a packet
pub part-nil : (most : ℕ) → IsPart true most []
part-nil most = record { payload = []; more = packet true []; goes_on = refl; lacking = omega arith; narrow = omega arith; within = λ four. absurd (omega arith) }

-- CPong is one packet
pub pong-is : (most : ℕ) (bytes : List ℕ) → IsPacketOf most Pong bytes → bytes ≡ packet true (9 ∷ [])
pong-is most bytes p = p.packet.whole ∙ ap (packet true) p.spelled

pub no_pong-none : (most : ℕ) (bytes : List ℕ) → BeginsNoMessage most bytes → BeginsNoPong most bytes
no_pong-none most bytes none = λ more first behind p e. none more first behind Pong p e

pub no_pong-other : (most : ℕ) (message : Message) (bytes : List ℕ) → IsPacketOf most message bytes → (message ≡ Pong → ⊥) → BeginsNoPong most bytes
no_pong-other most message bytes q other = λ more first behind p e. other (packets-only most message Pong bytes first more behind q p e).message

-- a message is one packet
pub next-message : (most : ℕ) (message : Message) (bytes : List ℕ) → IsPacketOf most message bytes → IsNext most bytes
next-message most message bytes p = inl (p.payload, p.packet)

-- ---- which messages may not stand in a reply

both_ways : (b : Bool) → b ≡ true → b ≡ false → ⊥
both_ways b t f = absurd cc

pub no_second-head : (past : List Message) (parts : ReplyParts) → is_some (head_of past) ≡ true → IsFront is_good (Headers parts ∷ past) → ⊥
no_second-head past parts some front = both_ways (is_some (head_of past)) some front.0

pub no_bad-head : (past : List Message) (parts : ReplyParts) → is_good parts ≡ false → IsFront is_good (Headers parts ∷ past) → ⊥
no_bad-head past parts bad front = both_ways (is_good parts) front.1 bad

pub no_chunk-first : (past : List Message) (chunk : List ℕ) → is_some (head_of past) ≡ false → IsFront is_good (Chunk chunk ∷ past) → ⊥
no_chunk-first past chunk none front = both_ways (is_some (head_of past)) front.0 none

pub no_end-first : (past : List Message) (reuse : Bool) → is_some (head_of past) ≡ false → IsForm is_good (End reuse ∷ past) → ⊥
no_end-first past reuse none form = both_ways (is_some (head_of past)) form.0 none
