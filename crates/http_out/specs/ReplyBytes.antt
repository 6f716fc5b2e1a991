-- The bytes of a reply, for a whole list of what the container sent: a head, and chunks, the newest first.
use Rattle.std.specs.Prelude.{if◌then◌else◌, ℕ, Bool, false, ◌&&◌, ◌||◌, not, ◌==◌, List, [], ◌∷◌, ◌++◌, filter, Option, Some, None, codes}
use Rattle.std.specs.List.{flat_map, list_any}
use Rattle.std.specs.Fmt.{decimal}
use Rattle.http_front.specs.Fields.{HeaderLine, is_named}
use Rattle.http_out.specs.Dates.{date_field}
use Rattle.http_out.specs.declared.reply_head.ReplyHead.{ReplyHead}
use Rattle.http_out.specs.declared.framing.RequestKind.{RequestKind}
use Rattle.http_out.specs.declared.framing.Framing.{Framing}
use Rattle.http_out.specs.declared.framing.Framing.TheVariants as By
use Rattle.http_out.specs.Framing.{framing_of, framed, is_passed, closing_bytes}

-- lines that speak of the container's link alone are not the client's, and a 204 has no length
abbrev pub passes : ℕ → HeaderLine → Bool
passes status line = not (is_named (codes "connection") line) && (not (is_named (codes "keep-alive") line)
    && (not (is_named (codes "transfer-encoding") line) && not (status == 204 && is_named (codes "content-length") line)))

abbrev pub line_bytes : HeaderLine → List ℕ
line_bytes line = ((line.0 ++ codes ": ") ++ line.1) ++ codes "\r\n"

-- the container's lines that pass, in order
abbrev pub lines_bytes : ℕ → List HeaderLine → List ℕ
lines_bytes status lines = flat_map line_bytes (filter (passes status) lines)

-- a line tells the moment at which the reply was made
abbrev pub has_date : List HeaderLine → Bool
has_date lines = list_any (is_named (codes "date")) lines

-- the moment, where the container's lines tell none (RFC 9110, section 6.6.1)
abbrev pub date_line : RequestKind → ReplyHead → List ℕ
date_line kind h = if has_date h.headers then [] else date_field kind.date

-- the lines that the connector adds
abbrev pub framing_line : Framing → List ℕ
framing_line By.Chunks = codes "Transfer-Encoding: chunked\r\n"
framing_line By.NoBody = []
framing_line (By.Length due) = []
framing_line By.Closing = []

abbrev pub last_line : RequestKind → List ℕ
last_line kind = if kind.last then codes "Connection: close\r\n" else []

abbrev pub status_line : ReplyHead → List ℕ
status_line h = (((codes "HTTP/1.1 " ++ decimal h.status) ++ codes " ") ++ h.message) ++ codes "\r\n"

-- the status line, the lines, an empty line
unfoldable pub head_bytes : RequestKind → ReplyHead → List ℕ
head_bytes kind h =
    ((((status_line h ++ lines_bytes h.status h.headers) ++ date_line kind h) ++ framing_line (framing_of kind h)) ++ last_line kind)
    ++ codes "\r\n"

-- the body's bytes so far
abbrev pub body_bytes : Framing → List (List ℕ) → List ℕ
body_bytes f [] = []
body_bytes f (chunk ∷ past) = body_bytes f past ++ framed f chunk

-- one of the chunks was passed
abbrev pub has_begun : Framing → List (List ℕ) → Bool
has_begun f [] = false
has_begun f (chunk ∷ past) = is_passed f chunk || has_begun f past

-- what the client has of a reply under way: nothing before the first chunk that passes, then the head and the body
abbrev pub so_far_of : RequestKind → ReplyHead → List (List ℕ) → List ℕ
so_far_of kind h past = if has_begun (framing_of kind h) past then head_bytes kind h ++ body_bytes (framing_of kind h) past else []

abbrev pub so_far : RequestKind → Option ReplyHead → List (List ℕ) → List ℕ
so_far kind None past = []
so_far kind (Some h) past = so_far_of kind h past

-- what the client has of a whole reply
abbrev pub reply_bytes : RequestKind → ReplyHead → List (List ℕ) → List ℕ
reply_bytes kind h past = (head_bytes kind h ++ body_bytes (framing_of kind h) past) ++ closing_bytes (framing_of kind h)
