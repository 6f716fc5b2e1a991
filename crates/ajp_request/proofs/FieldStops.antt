-- Each field of a Forward Request but its attributes: how it is read, and where its reading stops.
use Rattle.std.proofs.Common.{◌≡◌, ℕ, zero, suc, ◌+◌, ◌*◌, ◌/◌, ◌%◌, ◌<◌, ◌≤◌, Bool, true, false, cond, eqb, List, [], ◌∷◌, ◌++◌, length, Option, Some, None, Result, Ok, Err, refl, sym, ap, subst, ◌∙◌, arith, append_assoc, ◌⊎◌, inl, inr}
use Rattle.std.proofs.lemmas.Bool.{eqb-true}
use Rattle.std.proofs.lemmas.List.{append-nil}
use Rattle.ajp_wire.specs.declared.refusal.Refusal.{Refusal}
use Rattle.ajp_wire.specs.declared.refusal.RefusalKind.TheVariants.{BadCode, BadBoolean}
use Rattle.ajp_wire.specs.Spelling.{int, SpellsText, SpellsHeaders}
use Rattle.ajp_wire.specs.Reading.{Reading, ◌>>=◌, refused, byte_at, int_at, text_at, named_from, headers_at}
use Rattle.ajp_wire.proofs.ReadingLaws.{IsBytes, chosen, int_again, int_takes, text_takes, text_again}
use Rattle.ajp_wire.proofs.HeaderLaws.{headers_take, headers_again}
use Rattle.ajp_wire.proofs.FirstPlaces.{Fails, Stops, starts, behind_it, int_cases, same_refusal, fails-bind}
use Rattle.ajp_wire.proofs.StopLaws.{text_stops, GoodHeaders, headers_stops}
use Rattle.ajp_request.specs.declared.decoding.RequestLine.{RequestLine}
use Rattle.ajp_request.specs.declared.decoding.Ends.{Ends}
use Rattle.ajp_request.specs.Tables.{methods, header_names}
use Rattle.ajp_request.specs.Spelling.{boolean}
use Rattle.ajp_request.specs.Reading.{boolean_at, known_method, method_at, line_at, ends_at}
use Rattle.ajp_request.proofs.ForwardLaws.{boolean_takes, boolean_again, TellsMethod, method_takes, method_again, guarded}
use Rattle.ajp_request.proofs.StopTools.{Word, Then, then_stops, stops_as, stops_like, spoils, lacks}

-- ---- strings, integers, booleans, headers

abbrev pub empty : List ℕ
empty = 0 ∷ 0 ∷ 0 ∷ []

pub empty_text : (may_be_absent : Bool) → SpellsText may_be_absent [] empty
empty_text may_be_absent = inl (omega arith, refl)

pub text_word : (may_be_absent : Bool) → Word (text_at may_be_absent) (SpellsText may_be_absent)
text_word may_be_absent = record {
  takes = λ bytes x rest fits e. let f = text_takes may_be_absent bytes x rest fits e in (f.front, f.spelled, f.parts);
  again = λ x front rest s. text_again may_be_absent x front rest s;
  stops = λ bytes r fits e. text_stops may_be_absent bytes r fits e;
}

abbrev pub SpellsInt : ℕ → List ℕ → Type 0
SpellsInt n bytes = (n < 65536) × (bytes ≡ int n)

int_stops : (bytes : List ℕ) (r : Refusal) → IsBytes bytes → int_at bytes ≡ Err r → Stops (λ b. (n : ℕ) × SpellsInt n b) int_at bytes r
int_stops bytes r fits e =
    elim (int_cases bytes fits) [
      | inl (s, read, kind, left, few) ↦
          let same : s ≡ r = same_refusal {A = ℕ × List ℕ} s r (sym read ∙ e) in
          starts (λ b. (n : ℕ) × SpellsInt n b) int_at bytes r (0 ∷ 0 ∷ []) (ap (λ (x : Refusal). x.kind) (sym same) ∙ kind) (ap (λ (x : Refusal). x.left) (sym same) ∙ left) few (0, (omega arith, refl))
      | inr (n, after, read, whole, narrow) ↦
          let both : Ok (n, after) ≡ Err r = sym read ∙ e in
          absurd cc
    ]

pub int_word : Word int_at SpellsInt
int_word = record {
  takes = λ bytes x rest fits e. let t = int_takes bytes rest x fits e in (int x, (t.1, refl), t.0);
  again = λ x front rest s. ap (λ (b : List ℕ). int_at (b ++ rest)) s.1 ∙ int_again x rest;
  stops = int_stops;
}

abbrev pub SpellsBoolean : Bool → List ℕ → Type 0
SpellsBoolean b bytes = bytes ≡ boolean b

boolean_stops : (bytes : List ℕ) (r : Refusal) → IsBytes bytes → boolean_at bytes ≡ Err r → Stops (λ b. (x : Bool) × SpellsBoolean x b) boolean_at bytes r
boolean_stops [] r fits e = lacks {A = Bool × List ℕ} (λ b. (x : Bool) × SpellsBoolean x b) boolean_at r (0 ∷ []) e (false, refl)
boolean_stops (zero ∷ rest) r fits e = absurd cc
boolean_stops (suc zero ∷ rest) r fits e = absurd cc
boolean_stops (suc (suc n) ∷ rest) r fits e = spoils {A = Bool × List ℕ} (λ b. (x : Bool) × SpellsBoolean x b) boolean_at (suc (suc n)) rest r BadBoolean (0 ∷ []) e refl (false, refl) (λ y. tt)

pub boolean_word : Word boolean_at SpellsBoolean
boolean_word = record {
  takes = λ bytes x rest fits e. (boolean x, refl, boolean_takes bytes x rest e);
  again = λ x front rest s. ap (λ (b : List ℕ). boolean_at (b ++ rest)) s ∙ boolean_again x rest;
  stops = boolean_stops;
}

abbrev pub SpellsHeads : List (List ℕ × List ℕ) → List ℕ → Type 0
SpellsHeads headers bytes = (listed : List ℕ) × (length headers ≤ 100) × SpellsHeaders header_names false headers listed × (bytes ≡ int (length headers) ++ listed)

heads_of : (b : List ℕ) → GoodHeaders header_names false b → (headers : List (List ℕ × List ℕ)) × SpellsHeads headers b
heads_of b (headers, listed, few, spelled, parts) = (headers, (listed, few, spelled, parts))

pub heads_word : Word (headers_at header_names false) SpellsHeads
heads_word = record {
  takes = λ bytes x rest fits e. let h = headers_take header_names false bytes x rest fits e in
      (int (length x) ++ h.listed, (h.listed, h.few, h.spelled, refl), h.parts ∙ sym (append_assoc (int (length x)) h.listed rest));
  again = λ x front rest (listed, few, spelled, parts).
      ap (λ (b : List ℕ). headers_at header_names false (b ++ rest)) parts ∙ ap (headers_at header_names false) (append_assoc (int (length x)) listed rest)
      ∙ headers_again header_names false x listed rest (omega arith) few spelled;
  stops = λ bytes r fits e. stops_as (GoodHeaders header_names false) (λ b. (headers : List (List ℕ × List ℕ)) × SpellsHeads headers b) (headers_at header_names false) bytes r heads_of
      (headers_stops header_names false bytes r (omega arith) fits e);
}

-- ---- the method

-- the byte 02 and the method's byte
abbrev opening_at : List ℕ → Reading (Option (List ℕ))
opening_at bytes = byte_at bytes >>= λ first. cond (eqb first.0 2) (method_at first.1) (refused BadCode bytes)

abbrev SpellsOpening : Option (List ℕ) → List ℕ → Type 0
SpellsOpening told bytes = (byte : ℕ) × TellsMethod byte told × (bytes ≡ 2 ∷ byte ∷ [])

abbrev AnyOpening : List ℕ → Type 0
AnyOpening bytes = (told : Option (List ℕ)) × SpellsOpening told bytes

abbrev AnyMethod : List ℕ → Type 0
AnyMethod bytes = (told : Option (List ℕ)) × (byte : ℕ) × TellsMethod byte told × (bytes ≡ byte ∷ [])

unknown_method_stops : (found : Option (List ℕ)) (byte : ℕ) (rest : List ℕ) (r : Refusal) → named_from 1 methods byte ≡ found → eqb byte 255 ≡ false → known_method found (byte ∷ rest) rest ≡ Err r → Stops AnyMethod method_at (byte ∷ rest) r
unfolding method_at
unknown_method_stops (Some name) byte rest r is other e = absurd cc
unknown_method_stops None byte rest r is other e =
    spoils {A = Option (List ℕ) × List ℕ} AnyMethod method_at byte rest r BadCode (255 ∷ []) e refl (None, 255, refl, refl) (λ y. rw (other, is) tt)

method_stops : (bytes : List ℕ) (r : Refusal) → method_at bytes ≡ Err r → Stops AnyMethod method_at bytes r
unfolding method_at
method_stops [] r e = lacks {A = Option (List ℕ) × List ℕ} AnyMethod method_at r (255 ∷ []) e (None, 255, refl, refl)
method_stops (byte ∷ rest) r e =
    elim (chosen (eqb byte 255) (Ok (None, rest)) (known_method (named_from 1 methods byte) (byte ∷ rest) rest) (Err r) e) [
      | inl w ↦ absurd cc
      | inr w ↦ unknown_method_stops (named_from 1 methods byte) byte rest r refl w.0 w.1
    ]

opening_stops : (bytes : List ℕ) (r : Refusal) → IsBytes bytes → opening_at bytes ≡ Err r → Stops AnyOpening opening_at bytes r
opening_stops [] r fits e = lacks {A = Option (List ℕ) × List ℕ} AnyOpening opening_at r (2 ∷ 255 ∷ []) e (None, (255, refl, refl))
opening_stops (first ∷ rest) r fits e =
    elim (chosen (eqb first 2) (method_at rest) (refused BadCode (first ∷ rest)) (Err r) e) [
      | inl w ↦
          behind_it AnyMethod AnyOpening method_at opening_at (2 ∷ []) (first ∷ rest) rest r (ap (λ (k : ℕ). k ∷ rest) (eqb-true _ _ w.0)) (method_stops rest r w.1)
          (λ b good. ([], (good.0, (good.1, good.2, ap (λ (z : List ℕ). 2 ∷ z) (append-nil b ∙ good.3)))))
          (λ y h. h)
      | inr w ↦ spoils {A = Option (List ℕ) × List ℕ} AnyOpening opening_at first rest r BadCode (2 ∷ 255 ∷ []) w.1 refl (None, (255, refl, refl)) (λ y. rw w.0 tt)
    ]

opening_takes : (bytes : List ℕ) (told : Option (List ℕ)) (rest : List ℕ) → opening_at bytes ≡ Ok (told, rest) → (front : List ℕ) × SpellsOpening told front × (bytes ≡ front ++ rest)
opening_takes [] told rest e = absurd cc
opening_takes (first ∷ bytes) told rest e =
    let g = guarded first (first ∷ bytes) bytes told rest e in
    let m = method_takes bytes told rest g.1 in
    (2 ∷ m.0 ∷ [], (m.0, m.2, refl), ap (λ (k : ℕ). k ∷ bytes) g.0 ∙ ap (λ (z : List ℕ). 2 ∷ z) m.1)

opening_word : Word opening_at SpellsOpening
opening_word = record {
  takes = λ bytes x rest fits e. opening_takes bytes x rest e;
  again = λ x front rest (byte, tells, parts). ap (λ (b : List ℕ). opening_at (b ++ rest)) parts ∙ method_again byte x rest tells;
  stops = opening_stops;
}

-- ---- the request line

abbrev line_made : Option (List ℕ) → List ℕ → List ℕ → List ℕ → Reading RequestLine
line_made method protocol uri rest = Ok (record { method = method; protocol = protocol; uri = uri }, rest)

abbrev after_protocol : Option (List ℕ) → List ℕ → List ℕ → Reading RequestLine
after_protocol method protocol bytes = text_at false bytes >>= λ uri. line_made method protocol uri.0 uri.1

abbrev after_method : Option (List ℕ) → List ℕ → Reading RequestLine
after_method method bytes = text_at false bytes >>= λ protocol. after_protocol method protocol.0 protocol.1

pub record SpellsLine (line : RequestLine) (bytes : List ℕ) : Type 0 where
  pub byte : ℕ
  pub protocol : List ℕ
  pub uri : List ℕ
  pub tells : TellsMethod byte line.method
  pub spells_protocol : SpellsText false line.protocol protocol
  pub spells_uri : SpellsText false line.uri uri
  pub parts : bytes ≡ 2 ∷ byte ∷ (protocol ++ uri)

abbrev GoodUri : List ℕ → Type 0
GoodUri = Then (SpellsText false) (λ uri b. b ≡ [])

abbrev GoodProtocol : List ℕ → Type 0
GoodProtocol = Then (SpellsText false) (λ protocol b. GoodUri b)

uri_stops : (method : Option (List ℕ)) (protocol bytes : List ℕ) (r : Refusal) → IsBytes bytes → after_protocol method protocol bytes ≡ Err r → Stops GoodUri (after_protocol method protocol) bytes r
uri_stops method protocol bytes r fits e =
    then_stops (text_at false) (SpellsText false) (text_word false) (line_made method protocol) (λ uri b. b ≡ []) (λ uri. ([], refl)) (λ uri rest s ok f. absurd cc) bytes r fits e

any_uri : (m : List ℕ) × GoodUri m
any_uri = (empty, ([], empty, [], empty_text false, refl, refl))

protocol_stops : (method : Option (List ℕ)) (bytes : List ℕ) (r : Refusal) → IsBytes bytes → after_method method bytes ≡ Err r → Stops GoodProtocol (after_method method) bytes r
protocol_stops method bytes r fits e =
    then_stops (text_at false) (SpellsText false) (text_word false) (after_protocol method) (λ protocol b. GoodUri b) (λ protocol. any_uri) (λ protocol rest s ok f. uri_stops method protocol rest s ok f) bytes r fits e

any_protocol : (m : List ℕ) × GoodProtocol m
any_protocol = (empty ++ any_uri.0, ([], empty, any_uri.0, empty_text false, any_uri.1, refl))

line_is : (bytes : List ℕ) → line_at bytes ≡ (opening_at bytes >>= λ method. after_method method.0 method.1)
unfolding line_at
line_is [] = refl
line_is (first ∷ bytes) = refl

line_of : (b : List ℕ) → Then SpellsOpening (λ told m. GoodProtocol m) b → (line : RequestLine) × SpellsLine line b
line_of b (told, front, rest, (byte, tells, opening), (protocol, first, more, spells_protocol, (uri, second, none, spells_uri, nothing, last), next), parts) = (
  record { method = told; protocol = protocol; uri = uri },
  record {
    byte = byte;
    protocol = first;
    uri = second;
    tells = tells;
    spells_protocol = spells_protocol;
    spells_uri = spells_uri;
    parts = parts ∙ ap (λ (z : List ℕ). z ++ rest) opening ∙ ap (λ (z : List ℕ). 2 ∷ byte ∷ z) (next ∙ ap (λ (z : List ℕ). first ++ z) (last ∙ ap (λ (z : List ℕ). second ++ z) nothing ∙ append-nil second));
  },
)

pub line_stops : (bytes : List ℕ) (r : Refusal) → IsBytes bytes → line_at bytes ≡ Err r → Stops (λ b. (line : RequestLine) × SpellsLine line b) line_at bytes r
line_stops bytes r fits e =
    let whole : List ℕ → Reading RequestLine = λ b. opening_at b >>= λ method. after_method method.0 method.1 in
    stops_as (Then SpellsOpening (λ told m. GoodProtocol m)) (λ b. (line : RequestLine) × SpellsLine line b) line_at bytes r line_of
    (stops_like (Then SpellsOpening (λ told m. GoodProtocol m)) whole line_at bytes r line_is
    (then_stops opening_at SpellsOpening opening_word after_method (λ told m. GoodProtocol m) (λ told. any_protocol) (λ told rest s ok f. protocol_stops told rest s ok f) bytes r fits (sym (line_is bytes) ∙ e)))

-- ---- the two ends

abbrev ends_made : List ℕ → List ℕ → List ℕ → ℕ → Bool → List ℕ → Reading Ends
ends_made addr host server port ssl rest = Ok (record { remote_addr = addr; remote_host = host; server = server; port = port; ssl = ssl }, rest)

abbrev after_port : List ℕ → List ℕ → List ℕ → ℕ → List ℕ → Reading Ends
after_port addr host server port bytes = boolean_at bytes >>= λ ssl. ends_made addr host server port ssl.0 ssl.1

abbrev after_server : List ℕ → List ℕ → List ℕ → List ℕ → Reading Ends
after_server addr host server bytes = int_at bytes >>= λ port. after_port addr host server port.0 port.1

abbrev after_host : List ℕ → List ℕ → List ℕ → Reading Ends
after_host addr host bytes = text_at false bytes >>= λ server. after_server addr host server.0 server.1

abbrev after_addr : List ℕ → List ℕ → Reading Ends
after_addr addr bytes = text_at true bytes >>= λ host. after_host addr host.0 host.1

abbrev GoodSsl : List ℕ → Type 0
GoodSsl = Then SpellsBoolean (λ ssl b. b ≡ [])

abbrev GoodPort : List ℕ → Type 0
GoodPort = Then SpellsInt (λ port b. GoodSsl b)

abbrev GoodServer : List ℕ → Type 0
GoodServer = Then (SpellsText false) (λ server b. GoodPort b)

abbrev GoodHost : List ℕ → Type 0
GoodHost = Then (SpellsText true) (λ host b. GoodServer b)

abbrev GoodAddr : List ℕ → Type 0
GoodAddr = Then (SpellsText false) (λ addr b. GoodHost b)

any_ssl : (m : List ℕ) × GoodSsl m
any_ssl = (0 ∷ [], (false, 0 ∷ [], [], refl, refl, refl))

any_port : (m : List ℕ) × GoodPort m
any_port = (0 ∷ 0 ∷ any_ssl.0, (0, 0 ∷ 0 ∷ [], any_ssl.0, (omega arith, refl), any_ssl.1, refl))

any_server : (m : List ℕ) × GoodServer m
any_server = (empty ++ any_port.0, ([], empty, any_port.0, empty_text false, any_port.1, refl))

any_host : (m : List ℕ) × GoodHost m
any_host = (empty ++ any_server.0, ([], empty, any_server.0, empty_text true, any_server.1, refl))

ssl_stops : (addr host server : List ℕ) (port : ℕ) (bytes : List ℕ) (r : Refusal) → IsBytes bytes → after_port addr host server port bytes ≡ Err r → Stops GoodSsl (after_port addr host server port) bytes r
ssl_stops addr host server port bytes r fits e =
    then_stops boolean_at SpellsBoolean boolean_word (ends_made addr host server port) (λ ssl b. b ≡ []) (λ ssl. ([], refl)) (λ ssl rest s ok f. absurd cc) bytes r fits e

port_stops : (addr host server bytes : List ℕ) (r : Refusal) → IsBytes bytes → after_server addr host server bytes ≡ Err r → Stops GoodPort (after_server addr host server) bytes r
port_stops addr host server bytes r fits e =
    then_stops int_at SpellsInt int_word (after_port addr host server) (λ port b. GoodSsl b) (λ port. any_ssl) (λ port rest s ok f. ssl_stops addr host server port rest s ok f) bytes r fits e

server_stops : (addr host bytes : List ℕ) (r : Refusal) → IsBytes bytes → after_host addr host bytes ≡ Err r → Stops GoodServer (after_host addr host) bytes r
server_stops addr host bytes r fits e =
    then_stops (text_at false) (SpellsText false) (text_word false) (after_server addr host) (λ server b. GoodPort b) (λ server. any_port) (λ server rest s ok f. port_stops addr host server rest s ok f) bytes r fits e

host_stops : (addr bytes : List ℕ) (r : Refusal) → IsBytes bytes → after_addr addr bytes ≡ Err r → Stops GoodHost (after_addr addr) bytes r
host_stops addr bytes r fits e =
    then_stops (text_at true) (SpellsText true) (text_word true) (after_host addr) (λ host b. GoodServer b) (λ host. any_server) (λ host rest s ok f. server_stops addr host rest s ok f) bytes r fits e

pub record SpellsEnds (ends : Ends) (bytes : List ℕ) : Type 0 where
  pub remote_addr : List ℕ
  pub remote_host : List ℕ
  pub server : List ℕ
  pub spells_remote_addr : SpellsText false ends.remote_addr remote_addr
  pub spells_remote_host : SpellsText true ends.remote_host remote_host
  pub spells_server : SpellsText false ends.server server
  pub fits_port : ends.port < 65536
  pub parts : bytes ≡ remote_addr ++ (remote_host ++ (server ++ (int ends.port ++ boolean ends.ssl)))

ends_of : (b : List ℕ) → GoodAddr b → (ends : Ends) × SpellsEnds ends b
ends_of b (addr, a, r0, spells_addr, (host, h, r1, spells_host, (server, v, r2, spells_server, (port, p, r3, spells_port, (ssl, l, r4, spells_ssl, nothing, e4), e3), e2), e1), e0) = (
  record { remote_addr = addr; remote_host = host; server = server; port = port; ssl = ssl },
  record {
    remote_addr = a;
    remote_host = h;
    server = v;
    spells_remote_addr = spells_addr;
    spells_remote_host = spells_host;
    spells_server = spells_server;
    fits_port = spells_port.0;
    parts = e0 ∙ ap (λ (z : List ℕ). a ++ z) (e1 ∙ ap (λ (z : List ℕ). h ++ z) (e2 ∙ ap (λ (z : List ℕ). v ++ z) (e3 ∙ ap (λ (z : List ℕ). z ++ r3) spells_port.1
        ∙ ap (λ (z : List ℕ). int port ++ z) (e4 ∙ ap (λ (z : List ℕ). l ++ z) nothing ∙ append-nil l ∙ spells_ssl))));
  },
)

pub ends_stops : (bytes : List ℕ) (r : Refusal) → IsBytes bytes → ends_at bytes ≡ Err r → Stops (λ b. (ends : Ends) × SpellsEnds ends b) ends_at bytes r
unfolding ends_at
ends_stops bytes r fits e =
    stops_as GoodAddr (λ b. (ends : Ends) × SpellsEnds ends b) ends_at bytes r ends_of
    (then_stops (text_at false) (SpellsText false) (text_word false) after_addr (λ addr b. GoodHost b) (λ addr. any_host) (λ addr rest s ok f. host_stops addr rest s ok f) bytes r fits e)
