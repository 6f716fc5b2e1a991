-- Answers are replies that fit their packets.
use Rattle.std.proofs.Common.{◌≡◌, ℕ, ◌-◌, ◌<◌, Bool, true, false, IsTrue, List, ◌++◌, Option, Some, None, refl, sym, ap, arith}
use Rattle.std.specs.Prelude.{codes, not}
use Rattle.std.specs.List.{concat}
use Rattle.ajp_request.specs.declared.forward.Forward.{Forward}
use Rattle.ajp_reply.specs.declared.message.Message.{Message}
use Rattle.ajp_container.specs.declared.app_config.AppConfig.{AppConfig}
use Rattle.ajp_container.specs.declared.page.AppPage.{AppPage}
use Rattle.ajp_container.specs.declared.application.Application.{Application}
use Rattle.ajp_container.specs.declared.application.Application.TheVariants.{Forbidden, Who, Echo, Size, Status, Session, DropAtOnce, DropBehindHead, DropBehindChunk, Unknown}
use Rattle.ajp_container.specs.Applications.{drops}
use Rattle.ajp_container.specs.Request.{value_named}
use Rattle.ajp_container.specs.Pages.{who, echo, sized, empty, session, unknown}
use Rattle.ajp_container.specs.Answer.{cut, length_line, cookie_line, head_of, messages_of, answer_by}
use Rattle.ajp_container.specs.Reply.{AreReply, NeverEnds, length_told}
use Rattle.ajp_container.proofs.CutLaws.{cut-is}

length-found : (counted : Bool) (body text : List ℕ) (cookie : Option (List ℕ)) → text ≡ body
    → value_named (codes "Content-Length") (length_line counted body ++ cookie_line cookie) ≡ length_told counted text
length-found true body text cookie same = ap (λ (t : List ℕ). length_told true t) (sym same)
length-found false body text None same = refl
length-found false body text (Some cookie) same = refl

pub page-is_reply : (packet : ℕ) (page : AppPage) → 8 < packet → AreReply (packet - 8) page.status page.counted page.body (messages_of packet page)
page-is_reply packet page some =
    let size : 0 < packet - 8 = omega arith in
    let is = cut-is (packet - 8) page.body size in
    record {
      head = head_of page;
      chunks = cut (packet - 8) page.body;
      whole = refl;
      cut = is;
      status_is = refl;
      length_is = length-found page.counted page.body (concat (cut (packet - 8) page.body)) page.cookie is.joined;
    }

-- a reply of some page
abbrev pub IsAReply : AppConfig → List Message → Type 0
IsAReply app messages = (status : ℕ) × (counted : Bool) × (text : List ℕ) × AreReply (app.packet - 8) status counted text messages

page-is_a_reply : (app : AppConfig) (page : AppPage) → IsAReply app (messages_of app.packet page)
page-is_a_reply app page = let least = app.packet_at_least in (page.status, page.counted, page.body, page-is_reply app.packet page (omega arith))

pub answer-whole : (app : AppConfig) (forward : Forward) (body : List ℕ) (application : Application) → IsTrue (not (drops application))
    → IsAReply app (answer_by app forward body application)
answer-whole app forward body Forbidden stays = page-is_a_reply app (empty 403)
answer-whole app forward body Who stays = page-is_a_reply app (who app)
answer-whole app forward body Echo stays = page-is_a_reply app (echo forward body)
answer-whole app forward body (Size n) stays = page-is_a_reply app (sized n)
answer-whole app forward body (Status n) stays = page-is_a_reply app (empty n)
answer-whole app forward body Session stays = page-is_a_reply app (session app forward)
answer-whole app forward body DropAtOnce stays = absurd (cc)
answer-whole app forward body DropBehindHead stays = absurd (cc)
answer-whole app forward body DropBehindChunk stays = absurd (cc)
answer-whole app forward body Unknown stays = page-is_a_reply app unknown

pub answer-dropped : (app : AppConfig) (forward : Forward) (body : List ℕ) (application : Application) → IsTrue (drops application)
    → NeverEnds (answer_by app forward body application)
answer-dropped app forward body Forbidden gone = absurd (cc)
answer-dropped app forward body Who gone = absurd (cc)
answer-dropped app forward body Echo gone = absurd (cc)
answer-dropped app forward body (Size n) gone = absurd (cc)
answer-dropped app forward body (Status n) gone = absurd (cc)
answer-dropped app forward body Session gone = absurd (cc)
answer-dropped app forward body DropAtOnce gone = tt
answer-dropped app forward body DropBehindHead gone = (λ reuse e. cc, tt)
answer-dropped app forward body DropBehindChunk gone = (λ reuse e. cc, (λ reuse e. cc, tt))
answer-dropped app forward body Unknown gone = absurd (cc)
