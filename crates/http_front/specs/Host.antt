-- The server's name and port that a request asks for (RFC 9112, section 3.2).
use Rattle.std.specs.Prelude.{ℕ, Bool, not, ◌&&◌, ◌==◌, nat_le, List, [], ◌∷◌, codes, Option, Some, None, Result, Ok, Err, if◌then◌else◌}
use Rattle.std.specs.List.{list_any}
use Rattle.jk_io.specs.Decimals.{decimal_of}
use Rattle.http_front.specs.Ascii.{colon, close_bracket}
use Rattle.http_front.specs.declared.answers.Form.{Form}
use Rattle.http_front.specs.declared.answers.Form.TheVariants.{BadHost}

-- the server's name where the head has none
abbrev pub localhost : List ℕ
localhost = codes "localhost"

-- b is put before the first of the pair
abbrev pub onto_name : ℕ → List ℕ × List ℕ → List ℕ × List ℕ
onto_name b parts = (b ∷ parts.0, parts.1)

-- what stands before and after a colon at the front, where it is the last one and no `]` follows
abbrev pub split_here : ℕ → List ℕ → Option (List ℕ × List ℕ)
split_here b bytes = if b == colon && not (list_any (λ c. c == close_bracket) bytes) then Some ([], bytes) else None

-- as split_port where a later colon splits, else at the byte before
abbrev pub split_or : ℕ → List ℕ → Option (List ℕ × List ℕ) → Option (List ℕ × List ℕ)
split_or b bytes None = split_here b bytes
split_or b bytes (Some parts) = Some (onto_name b parts)

-- the name and the port, around the last colon where no `]` stands after it
abbrev pub split_port : List ℕ → Option (List ℕ × List ℕ)
split_port [] = None
split_port (b ∷ bytes) = split_or b bytes (split_port bytes)

-- a port is a number up to 65,535
abbrev pub numbered : List ℕ → Option ℕ → Result (List ℕ × ℕ) Form
numbered name None = Err BadHost
numbered name (Some port) = if nat_le port 65535 then Ok (name, port) else Err BadHost

-- an empty port counts as none
abbrev pub ported : List ℕ → List ℕ → Result (List ℕ × ℕ) Form
ported name [] = Ok (name, 80)
ported name (b ∷ bytes) = numbered name (decimal_of (b ∷ bytes))

-- the name and the port that a Host value has
abbrev pub parted : List ℕ → Option (List ℕ × List ℕ) → Result (List ℕ × ℕ) Form
parted value None = Ok (value, 80)
parted value (Some parts) = ported parts.0 parts.1

-- those of a value, which may be empty
abbrev pub server_of : List ℕ → Result (List ℕ × ℕ) Form
server_of [] = Ok (localhost, 80)
server_of (b ∷ bytes) = parted (b ∷ bytes) (split_port (b ∷ bytes))

-- a 1.1 request has one Host line, a 1.0 request at most one
abbrev pub host_of : Bool → List (List ℕ) → Result (List ℕ × ℕ) Form
host_of old [] = if old then Ok (localhost, 80) else Err BadHost
host_of old (value ∷ []) = server_of value
host_of old (value ∷ other ∷ values) = Err BadHost
