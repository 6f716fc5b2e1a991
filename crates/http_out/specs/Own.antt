-- The answers that the connector makes itself: a status line, three lines or four, and the status once more as the body.
use Rattle.std.specs.Prelude.{ℕ, ◌==◌, List, ◌++◌, length, Option, Some, None, codes, unwrap_or, if◌then◌else◌}
use Rattle.std.specs.Fmt.{decimal}
use Rattle.httpdate.specs.declared.date.HttpDate.{HttpDate}
use Rattle.http_out.specs.Dates.{date_field}
use Rattle.http_out.specs.declared.own_answers.OwnKind.{OwnKind}
use Rattle.http_out.specs.declared.own_answers.Own.{Own}

abbrev pub status_of : Own → ℕ
status_of Own.BadRequest = 400
status_of Own.Forbidden = 403
status_of Own.NotFound = 404
status_of Own.ContentTooLarge = 413
status_of Own.FieldsTooLarge = 431
status_of Own.InternalServerError = 500
status_of Own.NotImplemented = 501
status_of Own.BadGateway = 502
status_of Own.ServiceUnavailable = 503

-- the reason phrase (RFC 9110, section 15; RFC 6585 for 431)
abbrev pub reason_of : Own → List ℕ
reason_of Own.BadRequest = codes "Bad Request"
reason_of Own.Forbidden = codes "Forbidden"
reason_of Own.NotFound = codes "Not Found"
reason_of Own.ContentTooLarge = codes "Content Too Large"
reason_of Own.FieldsTooLarge = codes "Request Header Fields Too Large"
reason_of Own.InternalServerError = codes "Internal Server Error"
reason_of Own.NotImplemented = codes "Not Implemented"
reason_of Own.BadGateway = codes "Bad Gateway"
reason_of Own.ServiceUnavailable = codes "Service Unavailable"

abbrev pub status_text : Own → List ℕ
status_text own = (decimal (status_of own) ++ codes " ") ++ reason_of own

abbrev pub own_body : Own → List ℕ
own_body own = status_text own ++ codes "\n"

-- the status line, and the lines that tell type and length
abbrev pub own_lines : Own → List ℕ
own_lines own = (((codes "HTTP/1.1 " ++ status_text own) ++ codes "\r\nContent-Type: text/plain\r\nContent-Length: ")
    ++ decimal (length (own_body own))) ++ codes "\r\n"

-- with the moment, where it is told one
abbrev pub own_head : Own → Option HttpDate → List ℕ
own_head own date = (own_lines own ++ date_field date) ++ codes "Connection: close\r\n\r\n"

-- an answer to HEAD has the same head and no body
abbrev pub own_bytes : Own → OwnKind → List ℕ
own_bytes own kind = if kind.head_only then own_head own kind.date else own_head own kind.date ++ own_body own

-- the answer with that status
abbrev pub own_of : ℕ → Option Own
own_of status =
    if status == 400 then Some Own.BadRequest else
    (if status == 403 then Some Own.Forbidden else
    (if status == 404 then Some Own.NotFound else
    (if status == 413 then Some Own.ContentTooLarge else
    (if status == 431 then Some Own.FieldsTooLarge else
    (if status == 500 then Some Own.InternalServerError else
    (if status == 501 then Some Own.NotImplemented else
    (if status == 502 then Some Own.BadGateway else
    (if status == 503 then Some Own.ServiceUnavailable else None))))))))

-- the answer with that status, and 500 where none has it
abbrev pub own_with : ℕ → Own
own_with status = unwrap_or (own_of status) Own.InternalServerError
