-- How a page is written: the value of `mime` in its query.
use Rattle.std.specs.Prelude.{ℕ, Bool, List, [], Option, Some, None, codes, if◌then◌else◌, unwrap_or}
use Rattle.std.specs.List.{find}
use Rattle.std.specs.Str.{bytes_eq}
use Rattle.status_worker.specs.declared.field.Field.{Field}
use Rattle.status_worker.specs.declared.mime.Mime.{Mime}
use Rattle.status_worker.specs.declared.mime.Mime.TheVariants as mime
use Rattle.status_worker.specs.Fields.{fields_of}

-- `txt` and every other value are the plain page
abbrev pub mime_named : List ℕ → Mime
mime_named text =
    if bytes_eq text (codes "html") then mime.Html
    else (if bytes_eq text (codes "prom") then mime.Prom
    else mime.Txt)

abbrev pub is_mime : Field → Bool
is_mime field = bytes_eq field.name (codes "mime")

abbrev pub mime_by : Option Field → Mime
mime_by None = mime.Txt
mime_by (Some field) = mime_named field.value

-- what the first field of that name says
abbrev pub mime_in : List Field → Mime
mime_in fields = mime_by (find is_mime fields)

abbrev pub mime_among : Option (List Field) → Mime
mime_among None = mime.Txt
mime_among (Some fields) = mime_in fields

-- what a query says; one that can't be read says nothing
abbrev pub mime_of : Option (List ℕ) → Mime
mime_of query = mime_among (fields_of (unwrap_or query []))

-- the value of Content-Type
abbrev pub content_type : Mime → List ℕ
content_type mime.Txt = codes "text/plain"
content_type mime.Html = codes "text/html; charset=utf-8"
content_type mime.Prom = codes "text/plain; version=0.0.4; charset=utf-8"
