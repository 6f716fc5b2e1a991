-- The page of each application: `/who`, `/echo`, `/size/N`, `/status/N`, `/session`, and any other path.
use Rattle.std.specs.Prelude.{ℕ, true, is_some, List, [], ◌∷◌, ◌++◌, codes, replicate, Some, None, if◌then◌else◌}
use Rattle.ajp_request.specs.declared.forward.Forward.{Forward}
use Rattle.ajp_container.specs.declared.app_config.AppConfig.{AppConfig}
use Rattle.ajp_container.specs.declared.page.AppPage.{AppPage}
use Rattle.ajp_container.specs.Request.{content_length, has_session}

-- A page with a Content-Length, and no cookie.
abbrev pub with_length : ℕ → List ℕ → AppPage
with_length status body = record { status = status; counted = true; cookie = None; body = body }

abbrev pub line : List ℕ → List ℕ
line text = text ++ 10 ∷ []

-- `/who`: the route and LF.
abbrev pub who : AppConfig → AppPage
who app = with_length 200 (line app.route)

-- `/echo`: the request's body; without Content-Length where the request has none.
abbrev pub echo : Forward → List ℕ → AppPage
echo forward body = record { status = 200; counted = is_some (content_length forward); cookie = None; body = body }

-- `/size/N`: N times `x`.
abbrev pub sized : ℕ → AppPage
sized n = with_length 200 (replicate n 120)

-- `/status/N`, and 403 for a wrong secret: no body.
abbrev pub empty : ℕ → AppPage
empty status = with_length status []

-- the cookie of a session that begins here
abbrev pub session_cookie : AppConfig → List ℕ
session_cookie app = codes "JSESSIONID=1." ++ (app.route ++ codes "; Path=/")

-- `/session`: `old` where the client has a session, else `new` and a cookie.
abbrev pub session : AppConfig → Forward → AppPage
session app forward =
    if has_session forward then with_length 200 (line (codes "old"))
    else record { status = 200; counted = true; cookie = Some (session_cookie app); body = line (codes "new") }

-- any other path
abbrev pub unknown : AppPage
unknown = with_length 404 (line (codes "no application"))
