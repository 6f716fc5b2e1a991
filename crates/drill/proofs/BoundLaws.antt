-- How many bytes a talk's messages have, and those that answer them.
use Rattle.std.proofs.Common.{◌≡◌, ℕ, ◌+◌, ◌*◌, ◌≤◌, ◌==◌, min, Bool, true, false, List, [], ◌∷◌, length, take, ap, ◌∙◌, arith, length-append, length-take}
use Rattle.std.specs.Prelude.{if◌then◌else◌}
use Rattle.ajp_wire.specs.Packet.{packet, body_packet}
use Rattle.ajp_reply.specs.Stream.{Spelled}
use Rattle.ajp_reply.specs.declared.message.Message.{Message}
use Rattle.ajp_reply.specs.declared.message.Message.TheVariants.{Headers, Chunk, End, Ask, Pong}
use Rattle.ajp_talk.specs.Owed.{answer, answers, asked, behind_first, first_packet, want}
use Rattle.http_front.specs.Body.{Data, reaches}

-- messages are no more than their bytes
pub few-messages : (most : ℕ) (past : List Message) (bytes : List ℕ) → Spelled most past bytes → length past ≤ length bytes
few-messages most [] bytes s = omega arith
few-messages most (m ∷ past) bytes (before, last, s, p, whole) =
    let earlier = few-messages most past before s in
    let one : length last ≡ length (packet true p.payload) = ap length p.packet.whole in
    let all : length bytes ≡ length before + length last = ap length whole ∙ length-append before last in
    omega (arith, earlier, one, all)

body_packet-short : (piece : List ℕ) → length (body_packet piece) ≤ length piece + 6
body_packet-short [] = omega arith
body_packet-short (b ∷ piece) = omega arith

want-within : (most n : ℕ) → want most n ≤ most
want-within most n = of (n == 0)
  where
    of : (b : Bool) → (if b then most else min n most) ≤ most
    of true = omega arith
    of false = omega arith

answer-short : (n : ℕ) (d : Data) → length (answer n d) ≤ n + 6
answer-short n d = of (reaches n d)
  where
    of : (b : Bool) → length (if b then body_packet (take n d.bytes) else []) ≤ n + 6
    of true =
        let short = body_packet-short (take n d.bytes) in
        let taken = length-take n d.bytes in
        omega (arith, short, taken)
    of false = omega arith

-- the answers are no more than a packet for each message
pub answers-short : (most : ℕ) (d : Data) (past : List Message) → most ≤ 65530 → length (answers most d past) ≤ 65536 * length past
answers-short most d [] small = omega arith
answers-short most d (Headers parts ∷ past) small = let earlier = answers-short most d past small in omega (arith, earlier)
answers-short most d (Chunk bytes ∷ past) small = let earlier = answers-short most d past small in omega (arith, earlier)
answers-short most d (End reuse ∷ past) small = let earlier = answers-short most d past small in omega (arith, earlier)
answers-short most d (Ask n ∷ past) small =
    let earlier = answers-short most d past small in
    let here = answer-short (want most n) (behind_first (asked most past) d) in
    let wanted = want-within most n in
    let both = length-append (answers most d past) (answer (want most n) (behind_first (asked most past) d)) in
    omega (arith, earlier, here, wanted, both, small)
answers-short most d (Pong ∷ past) small = let earlier = answers-short most d past small in omega (arith, earlier)

pub first-short : (first : List ℕ) → length (first_packet first) ≤ length first + 6
first-short [] = omega arith
first-short (b ∷ first) = body_packet-short (b ∷ first)
