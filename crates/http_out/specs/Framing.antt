-- How a client learns where the body of a reply ends (RFC 9112, section 6).
use Rattle.std.specs.Prelude.{if◌then◌else◌, ℕ, suc, zero, ◌-◌, ◌/◌, ◌%◌, Bool, true, false, ◌||◌, ◌==◌, List, [], ◌∷◌, ◌++◌, length, codes, nat_lt}
use Rattle.std.specs.Fmt.{digit_glyph}
use Rattle.http_out.specs.declared.reply_head.ReplyHead.{ReplyHead}
use Rattle.http_out.specs.declared.framing.RequestKind.{RequestKind}
use Rattle.http_out.specs.declared.framing.Framing.{Framing}
use Rattle.http_out.specs.declared.framing.Framing.TheVariants as By
use Rattle.http_out.specs.declared.content_length.ContentLength.{ContentLength}
use Rattle.http_out.specs.declared.content_length.ContentLength.TheVariants as Said
use Rattle.http_out.specs.Head.{content_length}

-- a reply to HEAD, and one with status 204 or 304, has no body, whatever its fields say
abbrev pub has_no_body : RequestKind → ℕ → Bool
has_no_body kind status = kind.head_only || (status == 204 || status == 304)

-- a body without a length goes in chunks, and to a client of 1.0 up to the end of the connection
abbrev pub framing_said : Bool → ContentLength → Framing
framing_said old (Said.Announced n) = By.Length n
framing_said old Said.Absent = (if old then By.Closing else By.Chunks)
framing_said old Said.Unreadable = (if old then By.Closing else By.Chunks)

abbrev pub framing_by : RequestKind → ℕ → ContentLength → Framing
framing_by kind status said = if has_no_body kind status then By.NoBody else framing_said kind.old said

abbrev pub framing_of : RequestKind → ReplyHead → Framing
framing_of kind h = framing_by kind h.status (content_length h)

-- the last k hexadecimal digits of n, without zeros in front
abbrev pub hex_digits : ℕ → ℕ → List ℕ
hex_digits zero n = []
hex_digits (suc k) n = (if n / 16 == 0 then [] else hex_digits k (n / 16)) ++ digit_glyph false (n % 16) ∷ []

-- a size below 2 ^ 64 in hexadecimal, lower case
unfoldable pub hex : ℕ → List ℕ
hex n = hex_digits 16 n

-- a chunk of a chunked body (RFC 9112, section 7.1)
abbrev pub chunk_line : List ℕ → List ℕ
chunk_line bytes = ((hex (length bytes) ++ codes "\r\n") ++ bytes) ++ codes "\r\n"

-- what of the body's bytes a client gets for one chunk of the container's
abbrev pub framed : Framing → List ℕ → List ℕ
framed By.NoBody bytes = []
framed (By.Length due) bytes = bytes
framed By.Closing bytes = bytes
framed By.Chunks [] = []
framed By.Chunks (b ∷ bytes) = chunk_line (b ∷ bytes)

-- a chunk of which a client gets something
abbrev pub is_passed : Framing → List ℕ → Bool
is_passed f chunk = nat_lt 0 (length (framed f chunk))

-- what follows the last chunk
abbrev pub closing_bytes : Framing → List ℕ
closing_bytes By.NoBody = []
closing_bytes (By.Length due) = []
closing_bytes By.Closing = []
closing_bytes By.Chunks = codes "0\r\n\r\n"

-- a chunk takes its length from the length that was announced
abbrev pub spent : Framing → ℕ → Framing
spent By.NoBody n = By.NoBody
spent (By.Length due) n = By.Length (due - n)
spent By.Closing n = By.Closing
spent By.Chunks n = By.Chunks

-- a chunk of n bytes goes beyond the length that was announced
abbrev pub is_beyond : Framing → ℕ → Bool
is_beyond By.NoBody n = false
is_beyond (By.Length due) n = nat_lt due n
is_beyond By.Closing n = false
is_beyond By.Chunks n = false

-- nothing of an announced length is left to come
abbrev pub is_complete : Framing → Bool
is_complete By.NoBody = true
is_complete (By.Length due) = due == 0
is_complete By.Closing = true
is_complete By.Chunks = true
