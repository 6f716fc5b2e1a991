-- The one spelling in which a Forward Request is written: codes for all names that have one, and no string left out.
use Rattle.std.specs.Prelude.{◌≡◌, ℕ, ◌<◌, ◌≤◌, Bool, IsTrue, List, [], ◌∷◌, ◌++◌, length, take, drop, Option, Some, None, is_some}
use Rattle.std.specs.List.{AllByRecursion, flat_map, position_or_len}
use Rattle.ajp_wire.specs.Spelling.{int, string}
use Rattle.ajp_wire.specs.Names.{headers_bytes, headers_as_read, FitsHeaders}
use Rattle.ajp_wire.specs.Packet.{FitsPacket}
use Rattle.ajp_request.specs.declared.attribute.Attribute.{Attribute}
use Rattle.ajp_request.specs.declared.attribute.Attribute.TheVariants.{Plain, Named, KeySize}
use Rattle.ajp_request.specs.declared.forward.Forward.{Forward}
use Rattle.ajp_request.specs.Tables.{method_code, header_names, is_plain}
use Rattle.ajp_request.specs.Spelling.{boolean, stored_method}

abbrev pub attribute_bytes : Attribute → List ℕ
attribute_bytes (Plain code text) = code ∷ string text
attribute_bytes (Named name value) = 10 ∷ (string name ++ string value)
attribute_bytes (KeySize size) = 11 ∷ int size

abbrev pub attributes_bytes : List Attribute → List ℕ
attributes_bytes attributes = flat_map attribute_bytes attributes

-- how many attributes stand before the first that stores a method
abbrev pub before_stored : List Attribute → ℕ
before_stored attributes = position_or_len (λ attribute. is_some (stored_method attribute)) attributes

-- The attributes with the method's own before any other that stores one.
abbrev pub with_method : List ℕ → List Attribute → List Attribute
with_method method attributes =
    take (before_stored attributes) attributes ++ Plain 13 method ∷ drop (before_stored attributes) attributes

-- The method's byte, and FF where it has no code.
abbrev pub byte_of : Option ℕ → ℕ
byte_of (Some code) = code
byte_of None = 255

-- A method without a code is written among the attributes.
abbrev pub written_attributes : Option ℕ → List ℕ → List Attribute → List Attribute
written_attributes (Some code) method attributes = attributes
written_attributes None method attributes = with_method method attributes

abbrev pub line_bytes : Forward → List ℕ
line_bytes forward = 2 ∷ byte_of (method_code forward.method) ∷ (string forward.protocol ++ string forward.uri)

abbrev pub ends_bytes : Forward → List ℕ
ends_bytes forward =
    string forward.remote_addr ++ (string forward.remote_host ++ (string forward.server
    ++ (int forward.port ++ boolean forward.ssl)))

abbrev pub tail_bytes : Forward → List ℕ
tail_bytes forward =
    attributes_bytes (written_attributes (method_code forward.method) forward.method forward.attributes) ++ 255 ∷ []

-- The payload: names as codes wherever they have one, and no string left out.
unfoldable pub payload_of : Forward → List ℕ
payload_of forward =
    line_bytes forward ++ (ends_bytes forward
    ++ (int (length forward.headers) ++ (headers_bytes header_names forward.headers ++ tail_bytes forward)))

-- how many bytes the method takes among the attributes
abbrev pub method_size : Option ℕ → List ℕ → ℕ
method_size (Some code) method = 0
method_size None method = length (attribute_bytes (Plain 13 method))

-- The value as it is read again: each coded name in its table's spelling.
abbrev pub as_read : Forward → Forward
as_read forward = record forward { headers = headers_as_read header_names forward.headers }

-- An attribute of the program: its code is that of an attribute with one string, its size that of an integer.
abbrev pub IsAttribute : Attribute → Type 0
IsAttribute (Plain code text) = IsTrue (is_plain code)
IsAttribute (Named name value) = Unit {0}
IsAttribute (KeySize size) = size < 65536

-- A request of the program.
pub record IsForward (forward : Forward) : Type 0 where
  pub port : forward.port < 65536
  pub few_headers : length forward.headers ≤ 100
  pub attributes : AllByRecursion IsAttribute forward.attributes

abbrev pub FitsAttribute : Attribute → Type 0
FitsAttribute (Plain code text) = length text < 65535
FitsAttribute (Named name value) = (length name < 65535) × (length value < 65535)
FitsAttribute (KeySize size) = Unit {0}

-- A method that has a code is not written as a string.
abbrev pub FitsMethod : Option ℕ → List ℕ → Type 0
FitsMethod (Some code) method = Unit {0}
FitsMethod None method = length method < 65535

-- Each field fits its length.
pub record FieldsFit (forward : Forward) : Type 0 where
  pub protocol : length forward.protocol < 65535
  pub uri : length forward.uri < 65535
  pub remote_addr : length forward.remote_addr < 65535
  pub remote_host : length forward.remote_host < 65535
  pub server : length forward.server < 65535
  pub headers : FitsHeaders forward.headers
  pub attributes : AllByRecursion FitsAttribute forward.attributes
  pub method : FitsMethod (method_code forward.method) forward.method

-- The texts before the headers fit their lengths.
pub record TextsFit (forward : Forward) : Type 0 where
  pub protocol : length forward.protocol < 65535
  pub uri : length forward.uri < 65535
  pub remote_addr : length forward.remote_addr < 65535
  pub remote_host : length forward.remote_host < 65535
  pub server : length forward.server < 65535

-- A request that can be written into a packet of at most this many bytes.
pub record FitsForward (most : ℕ) (forward : Forward) : Type 0 where
  pub fields : FieldsFit forward
  pub packet : FitsPacket most (payload_of forward)
