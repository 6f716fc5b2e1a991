-- Reading a Forward Request from left to right, with the first place that can't be read.
use Rattle.std.specs.Prelude.{◌≡◌, ℕ, zero, suc, ◌==◌, Bool, true, false, List, [], ◌∷◌, length, Option, Some, None, Ok, Err, option_map, Result, if◌then◌else◌}
use Rattle.ajp_wire.specs.declared.refusal.RefusalKind.TheVariants.{Short, BadCode, BadBoolean, Extra}
use Rattle.ajp_wire.specs.declared.refusal.Refusal.{Refusal}
use Rattle.ajp_wire.specs.Reading.{Reading, ◌>>=◌, refused, byte_at, int_at, text_at, named_from, headers_at}
use Rattle.ajp_request.specs.declared.attribute.Attribute.{Attribute}
use Rattle.ajp_request.specs.declared.attribute.Attribute.TheVariants.{Plain, Named, KeySize}
use Rattle.ajp_request.specs.declared.forward.Forward.{Forward}
use Rattle.ajp_request.specs.declared.decoding.RequestLine.{RequestLine}
use Rattle.ajp_request.specs.declared.decoding.Ends.{Ends}
use Rattle.ajp_request.specs.Tables.{methods, header_names, is_plain}
use Rattle.ajp_request.specs.Spelling.{stored_method}

abbrev pub boolean_at : List ℕ → Reading Bool
boolean_at [] = refused Short []
boolean_at (zero ∷ rest) = Ok (false, rest)
boolean_at (suc zero ∷ rest) = Ok (true, rest)
boolean_at (suc (suc b) ∷ rest) = refused BadBoolean (suc (suc b) ∷ rest)

-- a method that the table has
abbrev pub known_method : Option (List ℕ) → List ℕ → List ℕ → Reading (Option (List ℕ))
known_method (Some name) bytes rest = Ok (Some name, rest)
known_method None bytes rest = refused BadCode bytes

-- the method of a byte, and none for FF, whose method an attribute stores
unfoldable pub method_at : List ℕ → Reading (Option (List ℕ))
method_at bytes = do
  byte ← byte_at bytes
  if byte.0 == 255 then Ok (None, byte.1) else known_method (named_from 1 methods byte.0) bytes byte.1

-- the byte 02, the method, the protocol and the path
unfoldable pub line_at : List ℕ → Reading RequestLine
line_at bytes = do
  first ← byte_at bytes
  method ← (if first.0 == 2 then method_at first.1 else refused BadCode bytes)
  protocol ← text_at false method.1
  uri ← text_at false protocol.1
  Ok (record { method = method.0; protocol = protocol.0; uri = uri.0 }, uri.1)

-- the two ends of the connection
unfoldable pub ends_at : List ℕ → Reading Ends
ends_at bytes = do
  remote_addr ← text_at false bytes
  remote_host ← text_at true remote_addr.1
  server ← text_at false remote_host.1
  port ← int_at server.1
  ssl ← boolean_at port.1
  Ok (record { remote_addr = remote_addr.0; remote_host = remote_host.0; server = server.0; port = port.0; ssl = ssl.0 }, ssl.1)

unfoldable pub named_at : List ℕ → Reading Attribute
named_at bytes = do
  name ← text_at false bytes
  value ← text_at true name.1
  Ok (Named name.0 value.0, value.1)

abbrev pub size_at : List ℕ → Reading Attribute
size_at bytes = do
  size ← int_at bytes
  Ok (KeySize size.0, size.1)

abbrev pub plain_at : ℕ → List ℕ → Reading Attribute
plain_at code bytes = do
  text ← text_at false bytes
  Ok (Plain code text.0, text.1)

-- an attribute whose code was read; `bytes` begin with the code, and `rest` is after it
unfoldable pub attribute_at : ℕ → List ℕ → List ℕ → Reading Attribute
attribute_at code bytes rest =
    if code == 10 then named_at rest
    else (if code == 11 then size_at rest
    else (if is_plain code then plain_at code rest
    else refused BadCode bytes))

-- the attributes up to FF, of which there are fewer than bytes
unfoldable pub attributes_at : ℕ → List ℕ → Reading (List Attribute)
attributes_at zero bytes = refused Short []
attributes_at (suc most) bytes = do
  code ← byte_at bytes
  if code.0 == 255 then Ok ([], code.1)
      else (attribute_at code.0 bytes code.1 >>= λ first. attributes_at most first.1 >>= λ others. Ok (first.0 ∷ others.0, others.1))

-- the first method that an attribute stores, and the attributes without it
abbrev pub without : Option (List ℕ) → Attribute → List Attribute → Option (List ℕ × List Attribute) → Option (List ℕ × List Attribute)
without (Some method) attribute attributes found = Some (method, attributes)
without None attribute attributes found = option_map (λ x. (x.0, attribute ∷ x.1)) found

abbrev pub stored_in : List Attribute → Option (List ℕ × List Attribute)
stored_in [] = None
stored_in (attribute ∷ attributes) = without (stored_method attribute) attribute attributes (stored_in attributes)

-- The method, and the attributes without the one that stored it. Where none stores it, the place is the FF before `rest`.
abbrev pub stored_or : Option (List ℕ × List Attribute) → List ℕ → Reading (List ℕ × List Attribute)
stored_or (Some found) rest = Ok (found, rest)
stored_or None rest = refused BadCode (255 ∷ rest)

abbrev pub method_of : Option (List ℕ) → List Attribute → List ℕ → Reading (List ℕ × List Attribute)
method_of (Some method) attributes rest = Ok ((method, attributes), rest)
method_of None attributes rest = stored_or (stored_in attributes) rest

-- the attributes, and the method
unfoldable pub tail_at : Option (List ℕ) → List ℕ → Reading (List ℕ × List Attribute)
tail_at method bytes = do
  attributes ← attributes_at (length bytes) bytes
  method_of method attributes.0 attributes.1

-- no byte is left
abbrev pub ended : List ℕ → Result (Unit {0}) Refusal
ended [] = Ok tt
ended (b ∷ rest) = refused Extra (b ∷ rest)

-- the value that has these parts
abbrev pub made_of : RequestLine → Ends → List (List ℕ × List ℕ) → List ℕ × List Attribute → Forward
made_of line ends headers tail = record {
  method = tail.0;
  protocol = line.protocol;
  uri = line.uri;
  remote_addr = ends.remote_addr;
  remote_host = ends.remote_host;
  server = ends.server;
  port = ends.port;
  ssl = ends.ssl;
  headers = headers;
  attributes = tail.1;
}

-- The attributes and the end, after the parts that were read.
abbrev pub behind_headers : RequestLine → Ends → List (List ℕ × List ℕ) → List ℕ → Result Forward Refusal
behind_headers line ends headers bytes = do
  tail ← tail_at line.method bytes
  end ← ended tail.1
  Ok (made_of line ends headers tail.0)

-- The headers and what follows them.
abbrev pub behind_ends : RequestLine → Ends → List ℕ → Result Forward Refusal
behind_ends line ends bytes = do
  headers ← headers_at header_names false bytes
  behind_headers line ends headers.0 headers.1

-- The reading of a whole payload.
unfoldable pub forward_of : List ℕ → Result Forward Refusal
forward_of payload = do
  line ← line_at payload
  ends ← ends_at line.1
  behind_ends line.0 ends.0 ends.1
