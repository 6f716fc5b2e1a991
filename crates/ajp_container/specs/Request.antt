-- The parts of a request that a container looks at: secret, length, session, and the application of its path.
use Rattle.std.specs.Prelude.{ℕ, Bool, true, false, ◌&&◌, ◌||◌, ◌==◌, nat_eq, nat_le, nat_lt, List, [], ◌∷◌, length, codes, Option, Some, None, unwrap_or, option_and_then, if◌then◌else◌}
use Rattle.std.specs.List.{starts_with, list_any}
use Rattle.std.specs.Str.{bytes_eq, str_eq_ignore_ascii_case}
use Rattle.jk_io.specs.Decimals.{decimal_of}
use Rattle.ajp_request.specs.declared.attribute.Attribute.{Attribute}
use Rattle.ajp_request.specs.declared.attribute.Attribute.TheVariants.{Plain, Named, KeySize}
use Rattle.ajp_request.specs.declared.forward.Forward.{Forward}
use Rattle.ajp_container.specs.declared.app_config.AppConfig.{AppConfig}
use Rattle.ajp_container.specs.declared.application.Application.{Application}
use Rattle.ajp_container.specs.declared.application.Application.TheVariants.{Forbidden}
use Rattle.ajp_container.specs.Applications.{application_at, is_echo}

-- the secret that an attribute holds: its code is 0C
abbrev pub secret_of : Attribute → Option (List ℕ)
secret_of (Plain code text) = if code == 12 then Some text else None
secret_of (Named name value) = None
secret_of (KeySize size) = None

abbrev pub first_of : Option (List ℕ) → Option (List ℕ) → Option (List ℕ)
first_of None later = later
first_of (Some text) later = Some text

-- The secret of a request is that of its first attribute that holds one.
abbrev pub secret_in : List Attribute → Option (List ℕ)
secret_in [] = None
secret_in (attribute ∷ attributes) = first_of (secret_of attribute) (secret_in attributes)

-- A container without a secret lets all in, and one with a secret those that bring it.
abbrev pub lets_in : Option (List ℕ) → Option (List ℕ) → Bool
lets_in None given = true
lets_in (Some secret) None = false
lets_in (Some secret) (Some given) = bytes_eq given secret

-- The application of a request.
abbrev pub application_of : AppConfig → Forward → Application
application_of app forward = if lets_in app.secret (secret_in forward.attributes) then application_at forward.uri else Forbidden

-- the value of the first header of a name, in either case
abbrev pub value_named : List ℕ → List (List ℕ × List ℕ) → Option (List ℕ)
value_named name [] = None
value_named name (header ∷ headers) = if str_eq_ignore_ascii_case header.0 name then Some header.1 else value_named name headers

-- a length is 1 to 19 digits, and any other text is none
abbrev pub length_in : List ℕ → Option ℕ
length_in value = if nat_le (length value) 19 then decimal_of value else None

-- The length that a request names for its body.
abbrev pub content_length : Forward → Option ℕ
content_length forward = option_and_then length_in (value_named (codes "content-length") forward.headers)

-- A first body packet follows a request with a length above 0, whatever it is for.
abbrev pub has_first : Forward → Bool
has_first forward = nat_lt 0 (unwrap_or (content_length forward) 0)

-- The container asks for the whole body.
abbrev pub asks_body : AppConfig → Forward → Bool
asks_body app forward = is_echo (application_of app forward)

-- the text stands somewhere in the bytes
abbrev pub has_text : List ℕ → List ℕ → Bool
has_text text [] = false
has_text text (byte ∷ bytes) = starts_with nat_eq (byte ∷ bytes) text || has_text text bytes

abbrev pub names_session : List ℕ × List ℕ → Bool
names_session header = str_eq_ignore_ascii_case header.0 (codes "cookie") && has_text (codes "JSESSIONID=") header.1

-- The client has a session: a Cookie line has the text `JSESSIONID=`.
abbrev pub has_session : Forward → Bool
has_session forward = list_any names_session forward.headers
