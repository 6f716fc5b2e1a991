-- Why a status worker's request gets no page, and the answer that says so: that of its status, with words in a second line.
use Rattle.std.specs.Prelude.{ℕ, List, ◌++◌, length, Option, codes, if◌then◌else◌}
use Rattle.std.specs.Fmt.{decimal}
use Rattle.httpdate.specs.declared.date.HttpDate.{HttpDate}
use Rattle.http_out.specs.Dates.{date_field}
use Rattle.http_out.specs.Own.{status_of, status_text}
use Rattle.http_out.specs.declared.own_answers.Own.{Own}
use Rattle.http_out.specs.declared.own_answers.OwnKind.{OwnKind}
use Rattle.status_worker.specs.declared.refusal.PageRefusal.{PageRefusal}

-- the own answer that tells its status
abbrev pub own_by : PageRefusal → Own
own_by PageRefusal.Closed = Own.Forbidden
own_by PageRefusal.ReadOnly = Own.Forbidden
own_by PageRefusal.BadQuery = Own.BadRequest
own_by PageRefusal.UnknownName = Own.NotFound
own_by PageRefusal.BadValue = Own.BadRequest
own_by PageRefusal.TooWide = Own.BadRequest
own_by PageRefusal.Full = Own.InternalServerError

abbrev pub code_of : PageRefusal → ℕ
code_of refusal = status_of (own_by refusal)

abbrev pub words_of : PageRefusal → List ℕ
words_of PageRefusal.Closed = codes "this status worker is closed, since users or addresses are named for it"
words_of PageRefusal.ReadOnly = codes "this status worker is read only"
words_of PageRefusal.BadQuery = codes "the query means no command"
words_of PageRefusal.UnknownName = codes "no balancer or member has this name"
words_of PageRefusal.BadValue = codes "the value is out of its range"
words_of PageRefusal.TooWide = codes "the values together are too wide for a journal"
words_of PageRefusal.Full = codes "the journal is full"

-- the status once more, and the words, a line each
abbrev pub refusal_body : PageRefusal → List ℕ
refusal_body refusal = ((status_text (own_by refusal) ++ codes "\n") ++ words_of refusal) ++ codes "\n"

-- the status line, and the lines that tell type and length
abbrev pub refusal_lines : PageRefusal → List ℕ
refusal_lines refusal = (((codes "HTTP/1.1 " ++ status_text (own_by refusal)) ++ codes "\r\nContent-Type: text/plain\r\nContent-Length: ")
    ++ decimal (length (refusal_body refusal))) ++ codes "\r\n"

-- with the moment, where it is told one
abbrev pub refusal_head : PageRefusal → Option HttpDate → List ℕ
refusal_head refusal date = (refusal_lines refusal ++ date_field date) ++ codes "Connection: close\r\n\r\n"

-- an answer to HEAD has the same head and no body
abbrev pub refusal_bytes : PageRefusal → OwnKind → List ℕ
refusal_bytes refusal kind =
    if kind.head_only then refusal_head refusal kind.date else refusal_head refusal kind.date ++ refusal_body refusal
