-- The codes of a Forward Request: methods, the names of headers, attributes.
use Rattle.std.specs.Prelude.{◌≡◌, ℕ, ◌+◌, ◌==◌, ◌&&◌, Bool, List, [], ◌∷◌, codes, Option, Some, None, if◌then◌else◌}
use Rattle.std.specs.List.{list_any}
use Rattle.std.specs.Str.{bytes_eq}

-- The methods that have a code: the first has 1, and the others follow in order.
abbrev pub methods : List (List ℕ)
methods =
    codes "OPTIONS" ∷ codes "GET" ∷ codes "HEAD" ∷ codes "POST" ∷ codes "PUT" ∷ codes "DELETE" ∷ codes "TRACE"
    ∷ codes "PROPFIND" ∷ codes "PROPPATCH" ∷ codes "MKCOL" ∷ codes "COPY" ∷ codes "MOVE" ∷ codes "LOCK" ∷ codes "UNLOCK"
    ∷ codes "ACL" ∷ codes "REPORT" ∷ codes "VERSION-CONTROL" ∷ codes "CHECKIN" ∷ codes "CHECKOUT" ∷ codes "UNCHECKOUT"
    ∷ codes "SEARCH" ∷ codes "MKWORKSPACE" ∷ codes "UPDATE" ∷ codes "LABEL" ∷ codes "MERGE" ∷ codes "BASELINE-CONTROL"
    ∷ codes "MKACTIVITY" ∷ []

-- The code of a method, which is written as it stands, where the table's codes begin with `code`.
abbrev pub method_from : ℕ → List (List ℕ) → List ℕ → Option ℕ
method_from code [] name = None
method_from code (known ∷ table) name = if bytes_eq known name then Some code else method_from (code + 1) table name

abbrev pub method_code : List ℕ → Option ℕ
method_code name = method_from 1 methods name

-- The names of a request's headers that have a code: the first has A001.
abbrev pub header_names : List (List ℕ)
header_names =
    codes "accept" ∷ codes "accept-charset" ∷ codes "accept-encoding" ∷ codes "accept-language" ∷ codes "authorization"
    ∷ codes "connection" ∷ codes "content-type" ∷ codes "content-length" ∷ codes "cookie" ∷ codes "cookie2" ∷ codes "host"
    ∷ codes "pragma" ∷ codes "referer" ∷ codes "user-agent" ∷ []

-- The attributes that hold one string: context, servlet_path, remote_user, auth_type, query_string, route, ssl_cert,
-- ssl_cipher, ssl_session, secret, stored_method.
abbrev pub plain_codes : List ℕ
plain_codes = 1 ∷ 2 ∷ 3 ∷ 4 ∷ 5 ∷ 6 ∷ 7 ∷ 8 ∷ 9 ∷ 12 ∷ 13 ∷ []

abbrev pub is_plain : ℕ → Bool
is_plain code = list_any (λ known. known == code) plain_codes
