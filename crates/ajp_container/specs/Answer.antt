-- The answer to a request, as the messages that the container sends.
use Rattle.std.specs.Prelude.{ℕ, zero, suc, ◌-◌, ◌==◌, Bool, true, false, List, [], ◌∷◌, ◌++◌, length, take, drop, map, codes, decimal, Option, Some, None, if◌then◌else◌}
use Rattle.ajp_wire.specs.Packet.{packet}
use Rattle.ajp_request.specs.declared.forward.Forward.{Forward}
use Rattle.ajp_reply.specs.declared.message.Message.{Message}
use Rattle.ajp_reply.specs.declared.message.Message.TheVariants.{Headers, Chunk, End}
use Rattle.ajp_reply.specs.declared.message.ReplyParts.{ReplyParts}
use Rattle.ajp_reply.specs.Spelling.{payload_of, Fits, IsMessage}
use Rattle.ajp_container.specs.declared.app_config.AppConfig.{AppConfig}
use Rattle.ajp_container.specs.declared.application.Application.{Application}
use Rattle.ajp_container.specs.declared.application.Application.TheVariants.{Forbidden, Who, Echo, Size, Status, Session, DropAtOnce, DropBehindHead, DropBehindChunk, Unknown}
use Rattle.ajp_container.specs.declared.page.AppPage.{AppPage}
use Rattle.ajp_container.specs.Request.{application_of}
use Rattle.ajp_container.specs.Pages.{who, echo, sized, empty, session, unknown}

-- the body in pieces of `size` bytes, the last with what is left; there are at most `most` of them
abbrev pub pieces : ℕ → ℕ → List ℕ → List (List ℕ)
pieces zero size body = []
pieces (suc most) size [] = []
pieces (suc most) size (byte ∷ body) = take size (byte ∷ body) ∷ pieces most size (drop size (byte ∷ body))

-- A body is cut after each `size` bytes. An empty body has no piece.
abbrev pub cut : ℕ → List ℕ → List (List ℕ)
cut size body = pieces (length body) size body

abbrev pub message_of : ℕ → List ℕ
message_of status = if status == 200 then codes "OK" else codes "Status"

abbrev pub length_line : Bool → List ℕ → List (List ℕ × List ℕ)
length_line false body = []
length_line true body = (codes "Content-Length", decimal (length body)) ∷ []

abbrev pub cookie_line : Option (List ℕ) → List (List ℕ × List ℕ)
cookie_line None = []
cookie_line (Some cookie) = (codes "Set-Cookie", cookie) ∷ []

-- The head of a page: Content-Length comes before Set-Cookie.
abbrev pub head_of : AppPage → ReplyParts
head_of page = record {
  status = page.status;
  message = message_of page.status;
  headers = length_line page.counted page.body ++ cookie_line page.cookie;
}

-- A whole page: its head, its body in chunks that fill a packet, and End Response, after which the link may serve again.
abbrev pub messages_of : ℕ → AppPage → List Message
messages_of packet page = Headers (head_of page) ∷ map Chunk (cut (packet - 8) page.body) ++ End true ∷ []

-- the head of a body of 10 bytes that never comes whole
abbrev pub broken_head : ReplyParts
broken_head = record { status = 200; message = codes "OK"; headers = (codes "Content-Length", decimal 10) ∷ [] }

-- The messages of an application. `/drop` sends the first messages of a reply, or none.
abbrev pub answer_by : AppConfig → Forward → List ℕ → Application → List Message
answer_by app forward body Forbidden = messages_of app.packet (empty 403)
answer_by app forward body Who = messages_of app.packet (who app)
answer_by app forward body Echo = messages_of app.packet (echo forward body)
answer_by app forward body (Size n) = messages_of app.packet (sized n)
answer_by app forward body (Status n) = messages_of app.packet (empty n)
answer_by app forward body Session = messages_of app.packet (session app forward)
answer_by app forward body DropAtOnce = []
answer_by app forward body DropBehindHead = Headers broken_head ∷ []
answer_by app forward body DropBehindChunk = Headers broken_head ∷ Chunk (codes "xxx") ∷ []
answer_by app forward body Unknown = messages_of app.packet unknown

-- The container's answer to a request with these data of its body.
abbrev pub answer_of : AppConfig → Forward → List ℕ → List Message
answer_of app forward body = answer_by app forward body (application_of app forward)

-- A message of the program that goes into a packet of at most `most` bytes.
pub record IsSendable (most : ℕ) (message : Message) : Type 0 where
  pub small : IsMessage message
  pub fits : Fits most message

-- The bytes of messages, packet by packet.
abbrev pub bytes_of : List Message → List ℕ
bytes_of [] = []
bytes_of (message ∷ messages) = packet true (payload_of message) ++ bytes_of messages
