-- The Forward Request that a request becomes for a member.
use Rattle.std.specs.Prelude.{◌≡◌, ℕ, ◌<◌, ◌≤◌, Bool, false, List, [], ◌∷◌, ◌++◌, length, map, codes, Option, Some, None, if◌then◌else◌}
use Rattle.jk_io.specs.Decimals.{trimmed}
use Rattle.lb_model.specs.declared.member.MemberConfig.{MemberConfig}
use Rattle.ajp_wire.specs.Packet.{packet}
use Rattle.ajp_wire.specs.Spelling.{string}
use Rattle.ajp_request.specs.Tables.{method_code}
use Rattle.ajp_request.specs.Writing.{FieldsFit, payload_of}
use Rattle.ajp_request.specs.declared.attribute.Attribute.{Attribute}
use Rattle.ajp_request.specs.declared.attribute.Attribute.TheVariants.{Plain}
use Rattle.ajp_request.specs.declared.forward.Forward.{Forward}
use Rattle.http_front.specs.Fields.{HeaderLine}
use Rattle.http_front.specs.declared.head.Head.{Head}
use Rattle.site_config.specs.declared.endpoint.Endpoint.{Endpoint}

-- the protocol, as the client wrote it
abbrev pub protocol_of : Bool → List ℕ
protocol_of old = if old then codes "HTTP/1.0" else codes "HTTP/1.1"

-- a header goes on under its name, with its value without outer spaces and tabs
abbrev pub line_for : HeaderLine → List ℕ × List ℕ
line_for line = (line.0, trimmed line.1)

-- the route of a member is told where a balancer chose it
abbrev pub route_for : (direct : Bool) → MemberConfig → Option (List ℕ)
route_for direct member = if direct then None else Some member.route

-- an attribute of this code, where there is something to tell
abbrev pub attribute_for : ℕ → Option (List ℕ) → List Attribute
attribute_for code None = []
attribute_for code (Some text) = Plain code text ∷ []

-- 05 the query, 06 the route, 0C the secret, in this order
abbrev pub attributes_for : (query route secret : Option (List ℕ)) → List Attribute
attributes_for query route secret = attribute_for 5 query ++ (attribute_for 6 route ++ attribute_for 12 secret)

-- the Forward Request of a request from a peer, with these headers and attributes
abbrev pub forward_with : Head → (peer : List ℕ) → List HeaderLine → List Attribute → Forward
forward_with head peer headers attributes = record {
  method = head.method;
  protocol = protocol_of head.old;
  uri = head.path;
  remote_addr = peer;
  remote_host = peer;
  server = head.server;
  port = head.port;
  ssl = false;
  headers = headers;
  attributes = attributes;
}

-- what lines go on as: pairs that were made of them, or where there are none, the lines as they are
abbrev pub GoOn : List HeaderLine → Option (List HeaderLine) → Type 0
GoOn lines None = map line_for lines ≡ lines
GoOn lines (Some pairs) = pairs ≡ map line_for lines

-- The Forward Request of a request from a peer, for a member that is reached by an endpoint. In a balancer that stands
-- for one worker no route is told.
abbrev pub forward_for : Head → (peer : List ℕ) → (direct : Bool) → MemberConfig → Endpoint → Forward
forward_for head peer direct member endpoint =
    forward_with head peer (map line_for head.headers) (attributes_for head.query (route_for direct member) endpoint.secret)

-- A client's request, where it came from, and the member that it goes to.
pub record Delivery : Type 0 where
  pub head : Head
  pub peer : List ℕ
  pub direct : Bool
  pub member : MemberConfig
  pub endpoint : Endpoint

abbrev pub forward_in : Delivery → Forward
forward_in d = forward_for d.head d.peer d.direct d.member d.endpoint

-- A delivery that the standard's spelling holds: a port, at most 100 headers, and fields that fit their lengths.
pub record IsSpellable (d : Delivery) : Type 0 where
  pub port : d.head.port < 65536
  pub few : length d.head.headers ≤ 100
  pub fits : FieldsFit (forward_in d)

-- its packet
abbrev pub packet_for : Head → (peer : List ℕ) → (direct : Bool) → MemberConfig → Endpoint → List ℕ
packet_for head peer direct member endpoint = packet false (payload_of (forward_for head peer direct member endpoint))

-- an attribute as it is written: its code and its string
abbrev pub attribute_part : ℕ → Option (List ℕ) → List ℕ
attribute_part code None = []
attribute_part code (Some text) = code ∷ string text

-- a method without a code is told by an attribute
abbrev pub method_told : Option ℕ → List ℕ → Option (List ℕ)
method_told (Some code) method = None
method_told None method = Some method

-- the attributes as they are written: 05 the query, 06 the route, 0C the secret, 0D the method
abbrev pub attribute_parts : Head → (direct : Bool) → MemberConfig → Endpoint → List ℕ
attribute_parts head direct member endpoint =
    attribute_part 5 head.query ++ (attribute_part 6 (route_for direct member)
    ++ (attribute_part 12 endpoint.secret ++ attribute_part 13 (method_told (method_code head.method) head.method)))
