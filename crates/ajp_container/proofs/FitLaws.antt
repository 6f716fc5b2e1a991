-- Each message of an answer fits the container's packet.
use Rattle.std.proofs.Common.{◌≡◌, ℕ, ◌+◌, ◌-◌, ◌^◌, ◌<◌, ◌≤◌, Bool, true, false, IsTrue, List, [], ◌∷◌, ◌++◌, length, map, Option, Some, None, refl, arith, inl, inr, length-append}
use Rattle.std.specs.Prelude.{codes, decimal, replicate, nat_le, ◌&&◌, ◌==◌, if◌then◌else◌}
use Rattle.std.specs.List.{AllByRecursion}
use Rattle.std.specs.Str.{bytes_eq}
use Rattle.std.proofs.lemmas.Bool.{cases_Bool, leb-true}
use Rattle.std.proofs.lemmas.List.{length-replicate}
use Rattle.std.proofs.lemmas.Fmt.{length-decimal-le}
use Rattle.ajp_wire.specs.Spelling.{int, string}
use Rattle.ajp_wire.specs.Names.{headers_bytes, header_bytes, FitsHeaders}
use Rattle.ajp_request.specs.declared.forward.Forward.{Forward}
use Rattle.ajp_reply.specs.declared.message.Message.{Message}
use Rattle.ajp_reply.specs.declared.message.Message.TheVariants.{Headers, Chunk, End}
use Rattle.ajp_reply.specs.Spelling.{reply_names}
use Rattle.ajp_container.specs.declared.app_config.AppConfig.{AppConfig}
use Rattle.ajp_container.specs.declared.page.AppPage.{AppPage}
use Rattle.ajp_container.specs.declared.application.Application.{Application}
use Rattle.ajp_container.specs.declared.application.Application.TheVariants.{Forbidden, Who, Echo, Size, Status, Session, DropAtOnce, DropBehindHead, DropBehindChunk, Unknown}
use Rattle.ajp_container.specs.Applications.{application_at, numbered, number_behind, size_or, status_or}
use Rattle.ajp_container.specs.Request.{application_of, lets_in, secret_in, has_session}
use Rattle.ajp_container.specs.Pages.{who, echo, sized, empty, session, unknown}
use Rattle.ajp_container.specs.Answer.{cut, message_of, length_line, cookie_line, head_of, messages_of, broken_head, answer_by, answer_of, IsSendable}
use Rattle.ajp_container.proofs.CutLaws.{cut-short}

length-string : (text : List ℕ) → length (string text) ≡ length text + 3
length-string text = omega (arith, length-append text (0 ∷ []))

length-headers_bytes : (a b : List (List ℕ × List ℕ))
    → length (headers_bytes reply_names (a ++ b)) ≡ length (headers_bytes reply_names a) + length (headers_bytes reply_names b)
length-headers_bytes [] b = omega arith
length-headers_bytes (header ∷ a) b =
    omega (
      arith,
      length-headers_bytes a b,
      length-append (header_bytes reply_names header) (headers_bytes reply_names a),
      length-append (header_bytes reply_names header) (headers_bytes reply_names (a ++ b)),
    )

FitsHeaders-append : (a b : List (List ℕ × List ℕ)) → FitsHeaders a → FitsHeaders b → FitsHeaders (a ++ b)
FitsHeaders-append [] b p q = q
FitsHeaders-append (header ∷ a) b p q = (p.0, FitsHeaders-append a b p.1 q)

length-decimal : (n : ℕ) → n < 2 ^ 64 → length (decimal n) ≤ 20
length-decimal n small = length-decimal-le 20 n (omega arith) (omega arith) small

-- a few headers, of few bytes
record AreShort (most : ℕ) (headers : List (List ℕ × List ℕ)) : Type 0 where
  bytes : length (headers_bytes reply_names headers) ≤ most
  each : FitsHeaders headers
  few : length headers ≤ 1

length_line-short : (counted : Bool) (body : List ℕ) → length body < 2 ^ 64 → AreShort 25 (length_line counted body)
length_line-short false body small = record { bytes = omega arith; each = tt; few = omega arith }
length_line-short true body small =
    let digits = length-decimal (length body) small in
    record {
      bytes = omega (arith, length-append (string (decimal (length body))) [], length-string (decimal (length body)));
      each = (record { name = omega arith; value = omega arith }, tt);
      few = omega arith;
    }

-- a cookie that is there has at most 1,045 bytes
abbrev IsShortCookie : Option (List ℕ) → Type 0
IsShortCookie None = Unit {0}
IsShortCookie (Some cookie) = length cookie ≤ 1045

cookie_line-short : (cookie : Option (List ℕ)) → IsShortCookie cookie → AreShort 1050 (cookie_line cookie)
cookie_line-short None short = record { bytes = omega arith; each = tt; few = omega arith }
cookie_line-short (Some cookie) short = record {
  bytes = omega (arith, length-append (string cookie) [], length-string cookie);
  each = (record { name = omega arith; value = omega arith }, tt);
  few = omega arith;
}

message-short : (status : ℕ) → length (message_of status) ≤ 6
message-short status = elim (cases_Bool (nat_eq_200 status)) as (λ _. length (message_of status) ≤ 6) [
  | inl same ↦ rw same (omega arith)
  | inr other ↦ rw other (omega arith)
]
  where
    nat_eq_200 : ℕ → Bool
    nat_eq_200 n = n == 200

-- a head with a few short headers goes into a packet
head-sendable : (most status : ℕ) (message : List ℕ) (headers : List (List ℕ × List ℕ)) → 8192 ≤ most → status < 65536
    → length message ≤ 6 → length headers ≤ 2 → FitsHeaders headers → length (headers_bytes reply_names headers) ≤ 1075
    → IsSendable most (Headers (record { status = status; message = message; headers = headers }))
head-sendable most status message headers least small short few each bytes =
    let all = length-append (string message) (int (length headers) ++ headers_bytes reply_names headers) in
    let text = length-string message in
    record {
      small = (small, omega arith);
      fits = record {
        fields = (omega arith, each);
        packet = record { within = omega (arith, all, text); narrow = omega (arith, all, text) };
      };
    }

page-head_sendable : (most : ℕ) (page : AppPage) → 8192 ≤ most → page.status < 65536 → IsShortCookie page.cookie → length page.body < 2 ^ 64
    → IsSendable most (Headers (head_of page))
page-head_sendable most page least small cookie body =
    let lengths = length_line-short page.counted page.body body in
    let cookies = cookie_line-short page.cookie cookie in
    let fewer_lengths = lengths.few in
    let fewer_cookies = cookies.few in
    let length_bytes = lengths.bytes in
    let cookie_bytes = cookies.bytes in
    head-sendable most page.status (message_of page.status) (length_line page.counted page.body ++ cookie_line page.cookie) least small
    (message-short page.status)
    (omega (arith, length-append (length_line page.counted page.body) (cookie_line page.cookie)))
    (FitsHeaders-append (length_line page.counted page.body) (cookie_line page.cookie) lengths.each cookies.each)
    (omega (arith, length-headers_bytes (length_line page.counted page.body) (cookie_line page.cookie)))

chunk-sendable : (most : ℕ) (piece : List ℕ) → 8192 ≤ most → most ≤ 65536 → length piece ≤ most - 8 → IsSendable most (Chunk piece)
chunk-sendable most piece least greatest short =
    let all = length-append piece (0 ∷ []) in
    record {
      small = tt;
      fits = record { fields = omega arith; packet = record { within = omega (arith, all); narrow = omega (arith, all) } };
    }

end-sendable : (most : ℕ) (reuse : Bool) → 8192 ≤ most → IsSendable most (End reuse)
end-sendable most reuse least = record {
  small = tt;
  fits = record { fields = tt; packet = record { within = omega arith; narrow = omega arith } };
}

chunks-sendable : (most : ℕ) (pieces : List (List ℕ)) (later : List Message) → 8192 ≤ most → most ≤ 65536
    → AllByRecursion (λ (piece : List ℕ). length piece ≤ most - 8) pieces → AllByRecursion (IsSendable most) later
    → AllByRecursion (IsSendable most) (map Chunk pieces ++ later)
chunks-sendable most [] later least greatest short rest = rest
chunks-sendable most (piece ∷ pieces) later least greatest short rest =
    (chunk-sendable most piece least greatest short.0, chunks-sendable most pieces later least greatest short.1 rest)

-- what a page has to be so that its messages fit
record IsModest (page : AppPage) : Type 0 where
  status : page.status < 65536
  cookie : IsShortCookie page.cookie
  body : length page.body < 2 ^ 64

page-sendable : (app : AppConfig) (page : AppPage) → IsModest page → AllByRecursion (IsSendable app.packet) (messages_of app.packet page)
page-sendable app page modest = (
  page-head_sendable app.packet page app.packet_at_least modest.status modest.cookie modest.body,
  chunks-sendable app.packet (cut (app.packet - 8) page.body) (End true ∷ []) app.packet_at_least app.packet_at_most
      (cut-short (app.packet - 8) page.body) (end-sendable app.packet true app.packet_at_least, tt),
)

broken-sendable : (app : AppConfig) → IsSendable app.packet (Headers broken_head)
broken-sendable app =
    let digits = length-decimal 10 (omega arith) in
    head-sendable app.packet 200 (codes "OK") ((codes "Content-Length", decimal 10) ∷ []) app.packet_at_least (omega arith) (omega arith) (omega arith)
    (record { name = omega arith; value = omega arith }, tt)
    (omega (arith, length-append (string (decimal 10)) [], length-string (decimal 10)))

-- the numbers of a path are in their ranges
abbrev IsRanged : Application → Type 0
IsRanged Forbidden = Unit {0}
IsRanged Who = Unit {0}
IsRanged Echo = Unit {0}
IsRanged (Size n) = n ≤ 1048576
IsRanged (Status n) = n ≤ 599
IsRanged Session = Unit {0}
IsRanged DropAtOnce = Unit {0}
IsRanged DropBehindHead = Unit {0}
IsRanged DropBehindChunk = Unit {0}
IsRanged Unknown = Unit {0}

if-ranged : (test : Bool) (one other : Application) → (IsTrue test → IsRanged one) → IsRanged other → IsRanged (if test then one else other)
if-ranged true one other p q = p refl
if-ranged false one other p q = q

size_or-ranged : (o : Option ℕ) (other : Application) → IsRanged other → IsRanged (size_or o other)
size_or-ranged None other q = q
size_or-ranged (Some n) other q = if-ranged (nat_le n 1048576) (Size n) other (λ e. leb-true n 1048576 e) q

status_or-ranged : (o : Option ℕ) (other : Application) → IsRanged other → IsRanged (status_or o other)
status_or-ranged None other q = q
status_or-ranged (Some n) other q = if-ranged (nat_le 200 n && nat_le n 599) (Status n) other (λ e. leb-true n 599 (second (nat_le 200 n) (nat_le n 599) e)) q
  where
    second : (a b : Bool) → IsTrue (a && b) → b ≡ true
    second true b e = e
    second false b e = absurd (cc)

application_at-ranged : (path : List ℕ) → IsRanged (application_at path)
application_at-ranged path =
    if-ranged (bytes_eq path (codes "/who")) Who _ (λ _. tt)
    (if-ranged (bytes_eq path (codes "/echo")) Echo _ (λ _. tt)
    (if-ranged (bytes_eq path (codes "/session")) Session _ (λ _. tt)
    (if-ranged (bytes_eq path (codes "/drop/0")) DropAtOnce _ (λ _. tt)
    (if-ranged (bytes_eq path (codes "/drop/1")) DropBehindHead _ (λ _. tt)
    (if-ranged (bytes_eq path (codes "/drop/2")) DropBehindChunk (numbered path) (λ _. tt)
    (size_or-ranged (number_behind (codes "/size/") path) _
    (status_or-ranged (number_behind (codes "/status/") path) Unknown tt)))))))

application_of-ranged : (app : AppConfig) (forward : Forward) → IsRanged (application_of app forward)
application_of-ranged app forward =
    if-ranged (lets_in app.secret (secret_in forward.attributes)) (application_at forward.uri) Forbidden (λ _. application_at-ranged forward.uri) tt

session-modest : (app : AppConfig) (forward : Forward) → IsModest (session app forward)
session-modest app forward = elim (cases_Bool (has_session forward)) as (λ _. IsModest (session app forward)) [
  | inl old ↦ rw old (record { status = omega arith; cookie = tt; body = omega arith })
  | inr new ↦
      let short = app.short_route in
      rw new (record { status = omega arith; cookie = omega (arith, length-append app.route (codes "; Path=/")); body = omega arith })
]

sized-small : (n letter : ℕ) → n ≤ 1048576 → length (replicate n letter) < 2 ^ 64
sized-small n letter small = rw (length-replicate n letter) (omega arith)

answer_by-sendable : (app : AppConfig) (forward : Forward) (body : List ℕ) (application : Application) → IsRanged application → length body < 2 ^ 64
    → AllByRecursion (IsSendable app.packet) (answer_by app forward body application)
answer_by-sendable app forward body Forbidden ranged small = page-sendable app (empty 403) (record { status = omega arith; cookie = tt; body = omega arith })
answer_by-sendable app forward body Who ranged small =
    let short = app.short_route in
    page-sendable app (who app) (record { status = omega arith; cookie = tt; body = omega (arith, length-append app.route (10 ∷ [])) })
answer_by-sendable app forward body Echo ranged small = page-sendable app (echo forward body) (record { status = omega arith; cookie = tt; body = small })
answer_by-sendable app forward body (Size n) ranged small =
    page-sendable app (sized n) (record { status = omega arith; cookie = tt; body = sized-small n 120 ranged })
answer_by-sendable app forward body (Status n) ranged small = page-sendable app (empty n) (record { status = omega arith; cookie = tt; body = omega arith })
answer_by-sendable app forward body Session ranged small = page-sendable app (session app forward) (session-modest app forward)
answer_by-sendable app forward body DropAtOnce ranged small = tt
answer_by-sendable app forward body DropBehindHead ranged small = (broken-sendable app, tt)
answer_by-sendable app forward body DropBehindChunk ranged small =
    let least = app.packet_at_least in
    (broken-sendable app, (chunk-sendable app.packet (codes "xxx") app.packet_at_least app.packet_at_most (omega arith), tt))
answer_by-sendable app forward body Unknown ranged small = page-sendable app unknown (record { status = omega arith; cookie = tt; body = omega arith })

pub answer-sendable : (app : AppConfig) (forward : Forward) (body : List ℕ) → length body < 2 ^ 64
    → AllByRecursion (IsSendable app.packet) (answer_of app forward body)
answer-sendable app forward body small =
    answer_by-sendable app forward body (application_of app forward) (application_of-ranged app forward) small
