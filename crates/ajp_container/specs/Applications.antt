-- The applications of the container, by the raw path of a request.
use Rattle.std.specs.Prelude.{ℕ, Bool, true, false, ◌&&◌, nat_le, nat_eq, List, length, drop, codes, Option, Some, None, if◌then◌else◌}
use Rattle.std.specs.List.{starts_with}
use Rattle.std.specs.Str.{bytes_eq}
use Rattle.jk_io.specs.Decimals.{decimal_of}
use Rattle.ajp_container.specs.declared.application.Application.{Application}
use Rattle.ajp_container.specs.declared.application.Application.TheVariants.{Forbidden, Who, Echo, Size, Status, Session, DropAtOnce, DropBehindHead, DropBehindChunk, Unknown}

-- the number that the path has after a front
abbrev pub number_behind : List ℕ → List ℕ → Option ℕ
number_behind front path = if starts_with nat_eq path front then decimal_of (drop (length front) path) else None

-- `/size/N`, N up to 1,048,576
abbrev pub size_or : Option ℕ → Application → Application
size_or None other = other
size_or (Some n) other = if nat_le n 1048576 then Size n else other

-- `/status/N`, N from 200 to 599
abbrev pub status_or : Option ℕ → Application → Application
status_or None other = other
status_or (Some n) other = if nat_le 200 n && nat_le n 599 then Status n else other

abbrev pub numbered : List ℕ → Application
numbered path = size_or (number_behind (codes "/size/") path) (status_or (number_behind (codes "/status/") path) Unknown)

-- The application of a path.
abbrev pub application_at : List ℕ → Application
application_at path =
    if bytes_eq path (codes "/who") then Who
    else (if bytes_eq path (codes "/echo") then Echo
    else (if bytes_eq path (codes "/session") then Session
    else (if bytes_eq path (codes "/drop/0") then DropAtOnce
    else (if bytes_eq path (codes "/drop/1") then DropBehindHead
    else (if bytes_eq path (codes "/drop/2") then DropBehindChunk
    else numbered path)))))

-- The answer is the request's own body.
abbrev pub is_echo : Application → Bool
is_echo Forbidden = false
is_echo Who = false
is_echo Echo = true
is_echo (Size n) = false
is_echo (Status n) = false
is_echo Session = false
is_echo DropAtOnce = false
is_echo DropBehindHead = false
is_echo DropBehindChunk = false
is_echo Unknown = false

-- The link is closed within the answer.
abbrev pub drops : Application → Bool
drops Forbidden = false
drops Who = false
drops Echo = false
drops (Size n) = false
drops (Status n) = false
drops Session = false
drops DropAtOnce = true
drops DropBehindHead = true
drops DropBehindChunk = true
drops Unknown = false
