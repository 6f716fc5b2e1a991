-- Which byte lists spell a Forward Request.
use Rattle.std.specs.Prelude.{◌≡◌, ℕ, ◌<◌, ◌≤◌, ◌⊎◌, ◌==◌, Bool, true, false, IsTrue, List, [], ◌∷◌, ◌++◌, length, Option, Some, None, if◌then◌else◌}
use Rattle.std.specs.List.{AllByRecursion}
use Rattle.ajp_wire.specs.Spelling.{int, SpellsText, SpellsHeaders}
use Rattle.ajp_wire.specs.Reading.{named_from}
use Rattle.ajp_request.specs.declared.attribute.Attribute.{Attribute}
use Rattle.ajp_request.specs.declared.attribute.Attribute.TheVariants.{Plain, Named, KeySize}
use Rattle.ajp_request.specs.declared.forward.Forward.{Forward}
use Rattle.ajp_request.specs.Tables.{methods, header_names, is_plain}

-- A boolean is a byte.
abbrev pub boolean : Bool → List ℕ
boolean false = 0 ∷ []
boolean true = 1 ∷ []

-- An attribute is its code and what it holds: a string, or a name and a value that may be absent, or an integer.
abbrev pub SpellsAttribute : Attribute → List ℕ → Type 0
SpellsAttribute (Plain code text) bytes =
    (held : List ℕ) × IsTrue (is_plain code) × SpellsText false text held × (bytes ≡ code ∷ held)
SpellsAttribute (Named name value) bytes =
    (first : List ℕ) × (second : List ℕ) × SpellsText false name first × SpellsText true value second × (bytes ≡ 10 ∷ (first ++ second))
SpellsAttribute (KeySize size) bytes = (size < 65536) × (bytes ≡ 11 ∷ int size)

-- Attributes, one after another.
abbrev pub SpellsAttributes : List Attribute → List ℕ → Type 0
SpellsAttributes [] bytes = bytes ≡ []
SpellsAttributes (attribute ∷ attributes) bytes =
    (first : List ℕ) × (rest : List ℕ) × SpellsAttribute attribute first × SpellsAttributes attributes rest × (bytes ≡ first ++ rest)

-- The method that an attribute stores.
abbrev pub stored_method : Attribute → Option (List ℕ)
stored_method (Plain code text) = if code == 13 then Some text else None
stored_method (Named name value) = None
stored_method (KeySize size) = None

-- The first attribute that stores a method holds this one, and the others are these.
pub record Stores (written : List Attribute) (method : List ℕ) (attributes : List Attribute) : Type 0 where
  pub before : List Attribute
  pub after : List Attribute
  pub first : AllByRecursion (λ attribute. stored_method attribute ≡ None) before
  pub there : written ≡ before ++ Plain 13 method ∷ after
  pub others : attributes ≡ before ++ after

-- The method is that of its byte, and all that is written is an attribute; or the byte is FF, and an attribute stores it.
abbrev pub IsMethod : ℕ → List Attribute → List ℕ → List Attribute → Type 0
IsMethod byte written method attributes =
    ((named_from 1 methods byte ≡ Some method) × (written ≡ attributes)) ⊎ ((byte ≡ 255) × Stores written method attributes)

-- The payload is a Forward Request of this value, and nothing else.
pub record SpellsForward (forward : Forward) (payload : List ℕ) : Type 0 where
  pub method_byte : ℕ
  pub written : List Attribute
  pub method : IsMethod method_byte written forward.method forward.attributes
  pub protocol : List ℕ
  pub uri : List ℕ
  pub remote_addr : List ℕ
  pub remote_host : List ℕ
  pub server : List ℕ
  pub headers : List ℕ
  pub attributes : List ℕ
  pub spells_protocol : SpellsText false forward.protocol protocol
  pub spells_uri : SpellsText false forward.uri uri
  pub spells_remote_addr : SpellsText false forward.remote_addr remote_addr
  pub spells_remote_host : SpellsText true forward.remote_host remote_host
  pub spells_server : SpellsText false forward.server server
  pub fits_port : forward.port < 65536
  pub few_headers : length forward.headers ≤ 100
  pub spells_headers : SpellsHeaders header_names false forward.headers headers
  pub spells_attributes : SpellsAttributes written attributes
  pub whole : payload ≡ 2 ∷ method_byte ∷ (protocol ++ (uri ++ (remote_addr ++ (remote_host ++ (server
      ++ (int forward.port ++ (boolean forward.ssl ++ (int (length forward.headers) ++ (headers
      ++ (attributes ++ 255 ∷ []))))))))))

-- The payload is a Forward Request.
abbrev pub IsSpelled : List ℕ → Type 0
IsSpelled payload = (forward : Forward) × SpellsForward forward payload
