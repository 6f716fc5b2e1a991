-- The bytes that a talk may send on its link, by what came and by the data after the first piece.
use Rattle.std.specs.Prelude.{◌≡◌, ℕ, ◌+◌, ◌<◌, ◌==◌, min, true, false, List, [], ◌∷◌, ◌++◌, length, take, drop, if◌then◌else◌}
use Rattle.ajp_wire.specs.Packet.{packet, body_packet}
use Rattle.ajp_reply.specs.declared.message.Message.{Message}
use Rattle.ajp_reply.specs.declared.message.Message.TheVariants.{Headers, Chunk, End, Ask, Pong}
use Rattle.http_front.specs.Body.{Data, reaches}
use Rattle.ajp_talk.specs.declared.plan.TalkPlan.{TalkPlan}

-- an ask of 0 wants the most that a piece may have
abbrev pub want : ℕ → ℕ → ℕ
want most n = if n == 0 then most else min n most

-- how much data the asks among these messages want together
abbrev pub asked : ℕ → List Message → ℕ
asked most [] = 0
asked most (Headers parts ∷ past) = asked most past
asked most (Chunk bytes ∷ past) = asked most past
asked most (End reuse ∷ past) = asked most past
asked most (Ask n ∷ past) = asked most past + want most n
asked most (Pong ∷ past) = asked most past

-- the data after the first n bytes
abbrev pub behind_first : ℕ → Data → Data
behind_first n d = record { bytes = drop n d.bytes; whole = d.whole; bad = d.bad }

-- The packet for an ask of n: the next n bytes, or all that are left of a whole body. Where the body breaks off before
-- that, there is none.
abbrev pub answer : ℕ → Data → List ℕ
answer n d = if reaches n d then body_packet (take n d.bytes) else []

-- the packets for the asks among these messages, in order
abbrev pub answers : ℕ → Data → List Message → List ℕ
answers most d [] = []
answers most d (Headers parts ∷ past) = answers most d past
answers most d (Chunk bytes ∷ past) = answers most d past
answers most d (End reuse ∷ past) = answers most d past
answers most d (Ask n ∷ past) = answers most d past ++ answer (want most n) (behind_first (asked most past) d)
answers most d (Pong ∷ past) = answers most d past

-- CPing, and the CPong that must answer it
abbrev pub ping_of : TalkPlan → List ℕ
ping_of plan = if plan.ping then packet false (10 ∷ []) else []

abbrev pub pong_of : TalkPlan → List ℕ
pong_of plan = if plan.ping then packet true (9 ∷ []) else []

-- the packet of the first piece, where there is one
abbrev pub first_packet : List ℕ → List ℕ
first_packet [] = []
first_packet (byte ∷ bytes) = body_packet (byte ∷ bytes)

-- the Forward Request and the first piece
abbrev pub request_of : TalkPlan → List ℕ
request_of plan = plan.forward ++ first_packet plan.first

-- what goes out before anything of a reply
abbrev pub opening : TalkPlan → List ℕ
opening plan = ping_of plan ++ request_of plan

-- all that may be sent where these messages came after the CPong
abbrev pub owed : TalkPlan → Data → List Message → List ℕ
owed plan d past = opening plan ++ answers plan.piece d past

-- a packet to the container
pub record IsSealed (bytes : List ℕ) : Type 0 where
  pub payload : List ℕ
  pub whole : bytes ≡ packet false payload
  pub narrow : length payload < 65536
