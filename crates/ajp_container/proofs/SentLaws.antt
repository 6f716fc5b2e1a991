-- The bytes that the container sends spell its messages, and it asks for a body to its end.
use Rattle.std.proofs.Common.{◌≡◌, ℕ, zero, suc, ◌-◌, ◌^◌, ◌<◌, ◌≤◌, Bool, true, false, IsTrue, List, [], ◌∷◌, ◌++◌, length, map, reverse, Option, Some, None, refl, sym, ap, subst, arith, inl, inr, ◌⊎◌}
use Rattle.std.specs.Prelude.{replicate, not, ◌&&◌, if◌then◌else◌}
use Rattle.std.specs.List.{AllByRecursion}
use Rattle.std.proofs.lemmas.Bool.{leb-true}
use Rattle.std.proofs.lemmas.Grind.{reverse_onto}
use Rattle.ajp_wire.specs.Names.{headers_as_read}
use Rattle.ajp_wire.specs.Packet.{packet}
use Rattle.ajp_request.specs.declared.forward.Forward.{Forward}
use Rattle.ajp_reply.specs.declared.message.Message.{Message}
use Rattle.ajp_reply.specs.declared.message.Message.TheVariants.{Headers, Chunk, End, Pong}
use Rattle.ajp_reply.specs.Spelling.{Spells, reply_names, payload_of, as_read}
use Rattle.ajp_reply.specs.Stream.{IsPacketOf, Spelled}
use Rattle.ajp_reply.proofs.ReplyLaws.{written-spelled}
use Rattle.ajp_reply.proofs.StreamLaws.{spelled-behind}
use Rattle.ajp_container.specs.declared.app_config.AppConfig.{AppConfig}
use Rattle.ajp_container.specs.declared.application.Application.{Application}
use Rattle.ajp_container.specs.declared.application.Application.TheVariants.{Forbidden, Who, Echo, Size, Status, Session, DropAtOnce, DropBehindHead, DropBehindChunk, Unknown}
use Rattle.ajp_container.specs.declared.page.AppPage.{AppPage}
use Rattle.ajp_container.specs.Request.{application_of, content_length, asks_body}
use Rattle.ajp_container.specs.Pages.{who, echo, sized, empty, session, unknown}
use Rattle.ajp_container.specs.Answer.{cut, length_line, cookie_line, head_of, message_of, messages_of, answer_by, answer_of, IsSendable, bytes_of}
use Rattle.ajp_container.specs.Turns.{Awaited, Taken, ContainerTurn, Idle, Ping, Request, data_of, has_ended, is_enough, asks_on, AskedFor, ask, next, owed}
use Rattle.ajp_container.specs.Reply.{IsShortTurn, HasAll}
use Rattle.ajp_container.proofs.FitLaws.{answer-sendable}

-- ---- messages that are read again as they are

abbrev ReadsAlike : Message → Type 0
ReadsAlike message = as_read message ≡ message

lines-alike : (counted : Bool) (body : List ℕ) (cookie : Option (List ℕ))
    → headers_as_read reply_names (length_line counted body ++ cookie_line cookie) ≡ length_line counted body ++ cookie_line cookie
lines-alike true body None = refl
lines-alike true body (Some cookie) = refl
lines-alike false body None = refl
lines-alike false body (Some cookie) = refl

head-alike : (page : AppPage) → ReadsAlike (Headers (head_of page))
head-alike page =
    ap (λ (headers : List (List ℕ × List ℕ)). Headers (record { status = page.status; message = message_of page.status; headers = headers }))
    (lines-alike page.counted page.body page.cookie)

chunks-alike : (pieces : List (List ℕ)) (later : List Message) → AllByRecursion ReadsAlike later → AllByRecursion ReadsAlike (map Chunk pieces ++ later)
chunks-alike [] later alike = alike
chunks-alike (piece ∷ pieces) later alike = (refl, chunks-alike pieces later alike)

page-alike : (app : AppConfig) (page : AppPage) → AllByRecursion ReadsAlike (messages_of app.packet page)
page-alike app page = (head-alike page, chunks-alike (cut (app.packet - 8) page.body) (End true ∷ []) (refl, tt))

answer_by-alike : (app : AppConfig) (forward : Forward) (body : List ℕ) (application : Application) → AllByRecursion ReadsAlike (answer_by app forward body application)
answer_by-alike app forward body Forbidden = page-alike app (empty 403)
answer_by-alike app forward body Who = page-alike app (who app)
answer_by-alike app forward body Echo = page-alike app (echo forward body)
answer_by-alike app forward body (Size n) = page-alike app (sized n)
answer_by-alike app forward body (Status n) = page-alike app (empty n)
answer_by-alike app forward body Session = page-alike app (session app forward)
answer_by-alike app forward body DropAtOnce = tt
answer_by-alike app forward body DropBehindHead = (refl, tt)
answer_by-alike app forward body DropBehindChunk = (refl, (refl, tt))
answer_by-alike app forward body Unknown = page-alike app unknown

-- ---- their bytes

sent-one : (most : ℕ) (message : Message) → IsSendable most message → ReadsAlike message → IsPacketOf most message (packet true (payload_of message))
sent-one most message sendable alike = record {
  payload = payload_of message;
  packet = record { whole = refl; fits = sendable.fits.packet };
  spelled =
      subst (λ (m : Message). Spells m (payload_of message)) alike
      (written-spelled message sendable.small sendable.fits.fields);
}

sent-spelled : (most : ℕ) (messages : List Message) → AllByRecursion (IsSendable most) messages → AllByRecursion ReadsAlike messages
    → Spelled most (reverse messages) (bytes_of messages)
sent-spelled most [] sendable alike = refl
sent-spelled most (message ∷ messages) sendable alike =
    subst (λ (past : List Message). Spelled most past (bytes_of (message ∷ messages))) (sym (reverse_onto messages message []))
    (spelled-behind most (message ∷ []) (reverse messages) (packet true (payload_of message)) (bytes_of messages)
    ([], packet true (payload_of message), refl, sent-one most message sendable.0 alike.0, refl)
    (sent-spelled most messages sendable.1 alike.1))

-- ---- what is owed

All-append : (P : Message → Type 0) (a b : List Message) → AllByRecursion P a → AllByRecursion P b → AllByRecursion P (a ++ b)
All-append P [] b p q = q
All-append P (m ∷ a) b p q = (p.0, All-append P a b p.1 q)

All-replicate : (P : Message → Type 0) (n : ℕ) (m : Message) → P m → AllByRecursion P (replicate n m)
All-replicate P zero m p = tt
All-replicate P (suc n) m p = (p, All-replicate P n m p)

ask-sendable : (app : AppConfig) → IsSendable app.packet (ask app)
ask-sendable app =
    let least = app.packet_at_least in
    let most = app.packet_at_most in
    record { small = omega arith; fits = record { fields = tt; packet = record { within = omega arith; narrow = omega arith } } }

pong-sendable : (app : AppConfig) → IsSendable app.packet Pong
pong-sendable app =
    let least = app.packet_at_least in
    record { small = tt; fits = record { fields = tt; packet = record { within = omega arith; narrow = omega arith } } }

next-all : (P : Message → Type 0) (b : Bool) (one : Message) (messages : List Message) → P one → AllByRecursion P messages
    → AllByRecursion P (if b then one ∷ [] else messages)
next-all P true one messages p q = (p, tt)
next-all P false one messages p q = q

owed-all : (P : Message → Type 0) (app : AppConfig) (turn : ContainerTurn) → P (ask app) → P Pong
    → ((forward : Forward) (body : List ℕ) → length body < 2 ^ 64 → AllByRecursion P (answer_of app forward body)) → IsShortTurn turn
    → AllByRecursion P (owed app turn)
owed-all P app Idle a p q short = tt
owed-all P app Ping a p q short = (p, tt)
owed-all P app (Request forward Awaited) a p q short = tt
owed-all P app (Request forward (Taken first past)) a p q short =
    All-append P (replicate (length past) (ask app)) (next app forward first past) (All-replicate P (length past) (ask app) a)
    (next-all P (asks_on app forward first past) (ask app) (answer_of app forward (data_of first past)) a (q forward (data_of first past) short))

pub owed-spelled : (app : AppConfig) (turn : ContainerTurn) → IsShortTurn turn → Spelled app.packet (reverse (owed app turn)) (bytes_of (owed app turn))
owed-spelled app turn short =
    sent-spelled app.packet (owed app turn)
    (owed-all (IsSendable app.packet) app turn (ask-sendable app) (pong-sendable app) (answer-sendable app) short)
    (owed-all ReadsAlike app turn refl refl (λ forward body small. answer_by-alike app forward body (application_of app forward)) short)

-- ---- asks

-- a body that isn't asked on has ended, or is long enough
all-three : (p q r : Bool) → p ≡ true → (p && (not q && not r)) ≡ false → (q ≡ true) ⊎ (r ≡ true)
all-three p true r e f = inl refl
all-three p false true e f = inr refl
all-three p false false e f = let both : true ≡ false = rw e at f in absurd (cc)

ended-by : (past : List (List ℕ)) → has_ended past ≡ true → (before : List (List ℕ)) × (past ≡ [] ∷ before)
ended-by [] e = absurd (cc)
ended-by ([] ∷ past) e = (past, refl)
ended-by ((b ∷ piece) ∷ past) e = absurd (cc)

enough-by : (named : Option ℕ) (len : ℕ) → is_enough named len ≡ true → (n : ℕ) × (named ≡ Some n) × (n ≤ len)
enough-by None len e = absurd (cc)
enough-by (Some n) len e = (n, refl, leb-true n len e)

pub body-has_all : (app : AppConfig) (forward : Forward) (first : List ℕ) (past : List (List ℕ)) → IsTrue (asks_body app forward)
    → asks_on app forward first past ≡ false → HasAll (content_length forward) first past
body-has_all app forward first past echo over =
    elim (all-three (asks_body app forward) (has_ended past) (is_enough (content_length forward) (length (data_of first past))) echo over)
    as (λ _. HasAll (content_length forward) first past) [
      | inl ended ↦ inl (ended-by past ended)
      | inr enough ↦ inr (enough-by (content_length forward) (length (data_of first past)) enough)
    ]

pub none-asked : (app : AppConfig) (forward : Forward) (first : List ℕ) (past : List (List ℕ)) → asks_body app forward ≡ false
    → AskedFor app forward first past → past ≡ []
none-asked app forward first [] other asked = refl
none-asked app forward first (piece ∷ past) other asked = let both : false ≡ true = rw other at asked.0 in absurd (cc)
