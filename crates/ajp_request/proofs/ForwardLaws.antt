-- Forward Requests: what is read is spelled so, and what is spelled so is read.
use Rattle.std.proofs.Common.{◌≡◌, ◌≢◌, ℕ, zero, suc, ◌+◌, ◌<◌, ◌≤◌, Bool, true, false, cond, eqb, IsTrue, List, [], ◌∷◌, ◌++◌, length, Option, Some, None, Ok, Err, refl, sym, ap, subst, ◌∙◌, append_assoc, arith, ◌⊎◌, inl, inr}
use Rattle.std.proofs.lemmas.Bool.{eqb-true, ne_eqb}
use Rattle.std.proofs.lemmas.List.{length-append}
use Rattle.ajp_wire.specs.declared.refusal.RefusalKind.TheVariants.{BadCode}
use Rattle.ajp_wire.specs.declared.refusal.NotRead.{NotRead}
use Rattle.ajp_wire.specs.declared.refusal.NotRead.TheVariants as why
use Rattle.ajp_wire.specs.declared.errors.DecodeError.{DecodeError}
use Rattle.ajp_wire.specs.declared.errors.DecodeError.TheVariants as errors
use Rattle.ajp_wire.specs.Spelling.{int, SpellsText, SpellsHeaders}
use Rattle.ajp_wire.specs.Reading.{◌>>=◌, Halts, told, refused, byte_at, int_at, text_at, named_from, headers_at}
use Rattle.ajp_wire.proofs.ReadingLaws.{IsBytes, IsBytes-rest, IsBytes-behind, Front, Front-rest, bind_ok, ok_is, chosen, int_value, int_takes, text_takes, text_again}
use Rattle.ajp_wire.proofs.HeaderLaws.{HasHeaders, headers_take, headers_again}
use Rattle.ajp_request.specs.declared.attribute.Attribute.{Attribute}
use Rattle.ajp_request.specs.declared.forward.Forward.{Forward}
use Rattle.ajp_request.specs.declared.decoding.RequestLine.{RequestLine}
use Rattle.ajp_request.specs.declared.decoding.Ends.{Ends}
use Rattle.ajp_request.specs.Tables.{methods, header_names}
use Rattle.ajp_request.specs.Spelling.{boolean, SpellsAttributes, Stores, IsMethod, SpellsForward}
use Rattle.ajp_request.specs.Reading.{boolean_at, known_method, method_at, line_at, ends_at, attributes_at, stored_in, stored_or, method_of, tail_at, ended, made_of, forward_of}
use Rattle.ajp_request.proofs.AttributeLaws.{HasAttributes, attributes_take, attributes_again}
use Rattle.ajp_request.proofs.StoredLaws.{stored_takes, stored_again}

-- ---- booleans

pub boolean_takes : (bytes : List ℕ) (b : Bool) (rest : List ℕ) → boolean_at bytes ≡ Ok (b, rest) → bytes ≡ boolean b ++ rest
boolean_takes [] b rest e = absurd cc
boolean_takes (zero ∷ bytes) b rest e = subst (λ (x : Bool × List ℕ). (0 ∷ bytes) ≡ boolean x.0 ++ x.1) (ok_is (false, bytes) (b, rest) e) refl
boolean_takes (suc zero ∷ bytes) b rest e = subst (λ (x : Bool × List ℕ). (1 ∷ bytes) ≡ boolean x.0 ++ x.1) (ok_is (true, bytes) (b, rest) e) refl
boolean_takes (suc (suc n) ∷ bytes) b rest e = absurd cc

pub boolean_again : (b : Bool) (rest : List ℕ) → boolean_at (boolean b ++ rest) ≡ Ok (b, rest)
boolean_again false rest = refl
boolean_again true rest = refl

-- ---- the method's byte

-- what a byte says of the method
abbrev pub TellsMethod : ℕ → Option (List ℕ) → Type 0
TellsMethod byte None = byte ≡ 255
TellsMethod byte (Some name) = named_from 1 methods byte ≡ Some name

known_takes : (found : Option (List ℕ)) (byte : ℕ) (bytes after : List ℕ) (method : Option (List ℕ)) (rest : List ℕ) → named_from 1 methods byte ≡ found → known_method found bytes after ≡ Ok (method, rest) → TellsMethod byte method × (after ≡ rest)
known_takes None byte bytes after method rest is e = absurd cc
known_takes (Some name) byte bytes after method rest is e =
    subst (λ (x : Option (List ℕ) × List ℕ). TellsMethod byte x.0 × (after ≡ x.1)) (ok_is (Some name, after) (method, rest) e) (is, refl)

pub method_takes : (bytes : List ℕ) (method : Option (List ℕ)) (rest : List ℕ) → method_at bytes ≡ Ok (method, rest) → (byte : ℕ) × (bytes ≡ byte ∷ rest) × TellsMethod byte method
unfolding method_at
method_takes [] method rest e = absurd cc
method_takes (byte ∷ bytes) method rest e =
    elim (chosen (eqb byte 255) (Ok (None, bytes)) (known_method (named_from 1 methods byte) (byte ∷ bytes) bytes) (Ok (method, rest)) e) [
      | inl w ↦ subst (λ (x : Option (List ℕ) × List ℕ). (b : ℕ) × ((byte ∷ bytes) ≡ b ∷ x.1) × TellsMethod b x.0) (ok_is (None, bytes) (method, rest) w.1) (byte, refl, eqb-true _ _ w.0)
      | inr w ↦
          let k = known_takes (named_from 1 methods byte) byte (byte ∷ bytes) bytes method rest refl w.1 in
          (byte, ap (λ (r : List ℕ). byte ∷ r) k.1, k.0)
    ]

no_such_code : (byte : ℕ) (name : List ℕ) → named_from 1 methods byte ≡ Some name → eqb byte 255 ≡ false
no_such_code byte name is =
    ne_eqb byte 255 (λ (same : byte ≡ 255).
    let none : named_from 1 methods byte ≡ None = ap (named_from 1 methods) same in
    absurd cc)

pub method_again : (byte : ℕ) (method : Option (List ℕ)) (rest : List ℕ) → TellsMethod byte method → method_at (byte ∷ rest) ≡ Ok (method, rest)
unfolding method_at
method_again byte None rest is = ap (λ (b : ℕ). method_at (b ∷ rest)) is
method_again byte (Some name) rest is = rw (no_such_code byte name is, is) refl

-- ---- the request line

pub record HasLine (line : RequestLine) (bytes rest : List ℕ) : Type 0 where
  pub byte : ℕ
  pub protocol : List ℕ
  pub uri : List ℕ
  pub tells : TellsMethod byte line.method
  pub spells_protocol : SpellsText false line.protocol protocol
  pub spells_uri : SpellsText false line.uri uri
  pub parts : bytes ≡ 2 ∷ byte ∷ (protocol ++ (uri ++ rest))

pub guarded : (byte : ℕ) (bytes after : List ℕ) (method : Option (List ℕ)) (rest : List ℕ) → cond (eqb byte 2) (method_at after) (refused BadCode bytes) ≡ Ok (method, rest) → (byte ≡ 2) × (method_at after ≡ Ok (method, rest))
guarded byte bytes after method rest e =
    elim (chosen (eqb byte 2) (method_at after) (refused BadCode bytes) (Ok (method, rest)) e) [
      | inl w ↦ (eqb-true _ _ w.0, w.1)
      | inr w ↦ absurd cc
    ]

line_parts : (first byte : ℕ) (bytes behind protocol after uri rest : List ℕ) → first ≡ 2 → bytes ≡ byte ∷ behind → behind ≡ protocol ++ after → after ≡ uri ++ rest → (first ∷ bytes) ≡ 2 ∷ byte ∷ (protocol ++ (uri ++ rest))
line_parts first byte bytes behind protocol after uri rest two m p u =
    ap (λ (k : ℕ). k ∷ bytes) two ∙ ap (λ (r : List ℕ). 2 ∷ r) m ∙ ap (λ (r : List ℕ). 2 ∷ byte ∷ r) p ∙ ap (λ (r : List ℕ). 2 ∷ byte ∷ (protocol ++ r)) u

pub line_takes : (bytes : List ℕ) (line : RequestLine) (rest : List ℕ) → IsBytes bytes → line_at bytes ≡ Ok (line, rest) → HasLine line bytes rest
unfolding line_at
line_takes [] line rest fits e = absurd cc
line_takes (first ∷ bytes) line rest fits e =
    let a = bind_ok (cond (eqb first 2) (method_at bytes) (refused BadCode (first ∷ bytes))) (λ method. text_at false method.1 >>= λ protocol. text_at false protocol.1 >>= λ uri. Ok (record { method = method.0; protocol = protocol.0; uri = uri.0 }, uri.1)) (line, rest) e in
    let method = a.0 in
    let b = bind_ok (text_at false method.1) (λ protocol. text_at false protocol.1 >>= λ uri. Ok (record { method = method.0; protocol = protocol.0; uri = uri.0 }, uri.1)) (line, rest) a.2 in
    let protocol = b.0 in
    let c = bind_ok (text_at false protocol.1) (λ uri. Ok (record { method = method.0; protocol = protocol.0; uri = uri.0 }, uri.1)) (line, rest) b.2 in
    let uri = c.0 in
    let g = guarded first (first ∷ bytes) bytes method.0 method.1 a.1 in
    let m = method_takes bytes method.0 method.1 g.1 in
    let behind : IsBytes method.1 = IsBytes-rest m.0 method.1 (subst IsBytes m.1 (IsBytes-rest first bytes fits)) in
    let p = text_takes false method.1 protocol.0 protocol.1 behind b.1 in
    let u = text_takes false protocol.1 uri.0 uri.1 (Front-rest (SpellsText false protocol.0) method.1 protocol.1 p behind) c.1 in
    let made : RequestLine = record { method = method.0; protocol = protocol.0; uri = uri.0 } in
    let whole : HasLine made (first ∷ bytes) uri.1 = record {
      byte = m.0;
      protocol = p.front;
      uri = u.front;
      tells = m.2;
      spells_protocol = p.spelled;
      spells_uri = u.spelled;
      parts = line_parts first m.0 bytes method.1 p.front protocol.1 u.front uri.1 g.0 m.1 p.parts u.parts;
    } in
    subst (λ (x : RequestLine × List ℕ). HasLine x.0 (first ∷ bytes) x.1) (ok_is (made, uri.1) (line, rest) c.2) whole

pub line_again : (line : RequestLine) (byte : ℕ) (protocol uri rest : List ℕ) → TellsMethod byte line.method → SpellsText false line.protocol protocol → SpellsText false line.uri uri → line_at (2 ∷ byte ∷ (protocol ++ (uri ++ rest))) ≡ Ok (line, rest)
unfolding line_at
line_again line byte protocol uri rest tells spells_protocol spells_uri =
    rw (method_again byte line.method (protocol ++ (uri ++ rest)) tells, text_again false line.protocol protocol (uri ++ rest) spells_protocol, text_again false line.uri uri rest spells_uri) refl

-- ---- the two ends

pub record HasEnds (ends : Ends) (bytes rest : List ℕ) : Type 0 where
  pub remote_addr : List ℕ
  pub remote_host : List ℕ
  pub server : List ℕ
  pub spells_remote_addr : SpellsText false ends.remote_addr remote_addr
  pub spells_remote_host : SpellsText true ends.remote_host remote_host
  pub spells_server : SpellsText false ends.server server
  pub fits_port : ends.port < 65536
  pub parts : bytes ≡ remote_addr ++ (remote_host ++ (server ++ (int ends.port ++ (boolean ends.ssl ++ rest))))

ends_parts : (bytes addr r0 host r1 server r2 : List ℕ) (port : ℕ) (r3 : List ℕ) (ssl : Bool) (rest : List ℕ) → bytes ≡ addr ++ r0 → r0 ≡ host ++ r1 → r1 ≡ server ++ r2 → r2 ≡ int port ++ r3 → r3 ≡ boolean ssl ++ rest
    → bytes ≡ addr ++ (host ++ (server ++ (int port ++ (boolean ssl ++ rest))))
ends_parts bytes addr r0 host r1 server r2 port r3 ssl rest p0 p1 p2 p3 p4 =
    p0 ∙ ap (λ (r : List ℕ). addr ++ r) p1 ∙ ap (λ (r : List ℕ). addr ++ (host ++ r)) p2 ∙ ap (λ (r : List ℕ). addr ++ (host ++ (server ++ r))) p3 ∙ ap (λ (r : List ℕ). addr ++ (host ++ (server ++ (int port ++ r)))) p4

pub ends_takes : (bytes : List ℕ) (ends : Ends) (rest : List ℕ) → IsBytes bytes → ends_at bytes ≡ Ok (ends, rest) → HasEnds ends bytes rest
unfolding ends_at
ends_takes bytes ends rest fits e =
    let a = bind_ok (text_at false bytes) (λ addr. text_at true addr.1 >>= λ host. text_at false host.1 >>= λ server. int_at server.1 >>= λ port. boolean_at port.1 >>= λ ssl. Ok (record { remote_addr = addr.0; remote_host = host.0; server = server.0; port = port.0; ssl = ssl.0 }, ssl.1)) (ends, rest) e in
    let addr = a.0 in
    let b = bind_ok (text_at true addr.1) (λ host. text_at false host.1 >>= λ server. int_at server.1 >>= λ port. boolean_at port.1 >>= λ ssl. Ok (record { remote_addr = addr.0; remote_host = host.0; server = server.0; port = port.0; ssl = ssl.0 }, ssl.1)) (ends, rest) a.2 in
    let host = b.0 in
    let c = bind_ok (text_at false host.1) (λ server. int_at server.1 >>= λ port. boolean_at port.1 >>= λ ssl. Ok (record { remote_addr = addr.0; remote_host = host.0; server = server.0; port = port.0; ssl = ssl.0 }, ssl.1)) (ends, rest) b.2 in
    let server = c.0 in
    let d = bind_ok (int_at server.1) (λ port. boolean_at port.1 >>= λ ssl. Ok (record { remote_addr = addr.0; remote_host = host.0; server = server.0; port = port.0; ssl = ssl.0 }, ssl.1)) (ends, rest) c.2 in
    let port = d.0 in
    let f = bind_ok (boolean_at port.1) (λ ssl. Ok (record { remote_addr = addr.0; remote_host = host.0; server = server.0; port = port.0; ssl = ssl.0 }, ssl.1)) (ends, rest) d.2 in
    let ssl = f.0 in
    let t0 = text_takes false bytes addr.0 addr.1 fits a.1 in
    let fits1 : IsBytes addr.1 = Front-rest (SpellsText false addr.0) bytes addr.1 t0 fits in
    let t1 = text_takes true addr.1 host.0 host.1 fits1 b.1 in
    let fits2 : IsBytes host.1 = Front-rest (SpellsText true host.0) addr.1 host.1 t1 fits1 in
    let t2 = text_takes false host.1 server.0 server.1 fits2 c.1 in
    let t3 = int_takes server.1 port.1 port.0 (Front-rest (SpellsText false server.0) host.1 server.1 t2 fits2) d.1 in
    let t4 = boolean_takes port.1 ssl.0 ssl.1 f.1 in
    let made : Ends = record { remote_addr = addr.0; remote_host = host.0; server = server.0; port = port.0; ssl = ssl.0 } in
    let whole : HasEnds made bytes ssl.1 = record {
      remote_addr = t0.front;
      remote_host = t1.front;
      server = t2.front;
      spells_remote_addr = t0.spelled;
      spells_remote_host = t1.spelled;
      spells_server = t2.spelled;
      fits_port = t3.1;
      parts = ends_parts bytes t0.front addr.1 t1.front host.1 t2.front server.1 port.0 port.1 ssl.0 ssl.1 t0.parts t1.parts t2.parts t3.0 t4;
    } in
    subst (λ (x : Ends × List ℕ). HasEnds x.0 bytes x.1) (ok_is (made, ssl.1) (ends, rest) f.2) whole

pub ends_again : (ends : Ends) (addr host server rest : List ℕ) → SpellsText false ends.remote_addr addr → SpellsText true ends.remote_host host → SpellsText false ends.server server
    → ends_at (addr ++ (host ++ (server ++ (int ends.port ++ (boolean ends.ssl ++ rest))))) ≡ Ok (ends, rest)
unfolding ends_at
ends_again ends addr host server rest spells_addr spells_host spells_server =
    rw (
      text_again false ends.remote_addr addr (host ++ (server ++ (int ends.port ++ (boolean ends.ssl ++ rest)))) spells_addr,
      text_again true ends.remote_host host (server ++ (int ends.port ++ (boolean ends.ssl ++ rest))) spells_host,
      text_again false ends.server server (int ends.port ++ (boolean ends.ssl ++ rest)) spells_server,
      int_value ends.port,
      boolean_again ends.ssl rest,
    ) refl

-- ---- attributes and the method

record HasTail (told : Option (List ℕ)) (method : List ℕ) (attributes : List Attribute) (bytes rest : List ℕ) : Type 0 where
  written : List Attribute
  listed : List ℕ
  spelled : SpellsAttributes written listed
  parts : bytes ≡ listed ++ 255 ∷ rest
  is : method_of told written rest ≡ Ok ((method, attributes), rest)

same_stored : (found : Option (List ℕ × List Attribute)) (after : List ℕ) (x : List ℕ × List Attribute) (rest : List ℕ) → stored_or found after ≡ Ok (x, rest) → after ≡ rest
same_stored (Some y) after x rest e = ap (λ (z : (List ℕ × List Attribute) × List ℕ). z.1) (ok_is (y, after) (x, rest) e)
same_stored None after x rest e = absurd cc

found_or : (found : Option (List ℕ × List Attribute)) (method : List ℕ) (attributes : List Attribute) (rest : List ℕ) → stored_or found rest ≡ Ok ((method, attributes), rest) → found ≡ Some (method, attributes)
found_or (Some y) method attributes rest e = ap (λ (z : (List ℕ × List Attribute) × List ℕ). Some z.0) (ok_is (y, rest) ((method, attributes), rest) e)
found_or None method attributes rest e = absurd cc

abbrev both : List ℕ → List Attribute → List ℕ × List Attribute
both method attributes = (method, attributes)

pair_is : (name : List ℕ) (written : List Attribute) (method : List ℕ) (attributes : List Attribute) (rest : List ℕ) → method_of (Some name) written rest ≡ Ok ((method, attributes), rest) → both name written ≡ both method attributes
pair_is name written method attributes rest e = ap (λ (z : (List ℕ × List Attribute) × List ℕ). z.0) (ok_is ((name, written), rest) ((method, attributes), rest) e)

same_rest : (told : Option (List ℕ)) (written : List Attribute) (after : List ℕ) (x : List ℕ × List Attribute) (rest : List ℕ) → method_of told written after ≡ Ok (x, rest) → after ≡ rest
same_rest (Some name) written after x rest e = ap (λ (y : (List ℕ × List Attribute) × List ℕ). y.1) (ok_is ((name, written), after) (x, rest) e)
same_rest None written after x rest e = same_stored (stored_in written) after x rest e

tail_takes : (told : Option (List ℕ)) (bytes : List ℕ) (method : List ℕ) (attributes : List Attribute) (rest : List ℕ) → IsBytes bytes → tail_at told bytes ≡ Ok ((method, attributes), rest) → HasTail told method attributes bytes rest
unfolding tail_at
tail_takes told bytes method attributes rest fits e =
    let a = bind_ok (attributes_at (length bytes) bytes) (λ written. method_of told written.0 written.1) ((method, attributes), rest) e in
    let written = a.0 in
    let t = attributes_take (length bytes) bytes written.0 written.1 fits a.1 in
    let same : written.1 ≡ rest = same_rest told written.0 written.1 (method, attributes) rest a.2 in
    record {
      written = written.0;
      listed = t.listed;
      spelled = t.spelled;
      parts = t.parts ∙ ap (λ (r : List ℕ). t.listed ++ 255 ∷ r) same;
      is = subst (λ (r : List ℕ). method_of told written.0 r ≡ Ok ((method, attributes), rest)) same a.2;
    }

tail_again : (told : Option (List ℕ)) (method : List ℕ) (attributes written : List Attribute) (listed rest : List ℕ) → SpellsAttributes written listed → method_of told written rest ≡ Ok ((method, attributes), rest) → tail_at told (listed ++ 255 ∷ rest) ≡ Ok ((method, attributes), rest)
unfolding tail_at
tail_again told method attributes written listed rest spelled is =
    rw (attributes_again written listed rest (length (listed ++ 255 ∷ rest)) spelled (omega (arith, length-append listed (255 ∷ rest)))) is

-- the method by its byte and the attributes
told_method : (told : Option (List ℕ)) (byte : ℕ) (written : List Attribute) (method : List ℕ) (attributes : List Attribute) (rest : List ℕ) → TellsMethod byte told → method_of told written rest ≡ Ok ((method, attributes), rest) → IsMethod byte written method attributes
told_method (Some name) byte written method attributes rest tells is =
    let same : both name written ≡ both method attributes = pair_is name written method attributes rest is in
    subst (λ (x : List ℕ × List Attribute). IsMethod byte written x.0 x.1) same (inl (tells, refl))
told_method None byte written method attributes rest tells is = inr (tells, stored_takes written method attributes (found_or (stored_in written) method attributes rest is))

-- what the byte tells, where the method is this one
tells_of : (byte : ℕ) (written : List Attribute) (method : List ℕ) (attributes : List Attribute) (rest : List ℕ) → IsMethod byte written method attributes → (told : Option (List ℕ)) × TellsMethod byte told × (method_of told written rest ≡ Ok ((method, attributes), rest))
tells_of byte written method attributes rest (inl m) = (Some method, m.0, ap (λ (x : List Attribute). Ok ((method, x), rest)) m.1)
tells_of byte written method attributes rest (inr m) = (None, m.0, rw (stored_again written method attributes m.1) refl)

-- ---- the whole

ended_takes : (bytes : List ℕ) (u : Unit {0}) → ended bytes ≡ Ok u → bytes ≡ []
ended_takes [] u e = refl
ended_takes (b ∷ bytes) u e = absurd cc

forward_parts : (payload : List ℕ) (byte : ℕ) (protocol uri r1 addr host server : List ℕ) (port : ℕ) (ssl : Bool) (r2 : List ℕ) (count : ℕ) (headers r3 attributes r4 : List ℕ)
    → payload ≡ 2 ∷ byte ∷ (protocol ++ (uri ++ r1)) → r1 ≡ addr ++ (host ++ (server ++ (int port ++ (boolean ssl ++ r2)))) → r2 ≡ int count ++ (headers ++ r3) → r3 ≡ attributes ++ 255 ∷ r4 → r4 ≡ []
    → payload ≡ 2 ∷ byte ∷ (protocol ++ (uri ++ (addr ++ (host ++ (server ++ (int port ++ (boolean ssl ++ (int count ++ (headers ++ (attributes ++ 255 ∷ []))))))))))
forward_parts payload byte protocol uri r1 addr host server port ssl r2 count headers r3 attributes r4 p0 p1 p2 p3 p4 =
    p0 ∙ ap (λ (r : List ℕ). 2 ∷ byte ∷ (protocol ++ (uri ++ r))) (p1 ∙ ap (λ (r : List ℕ). addr ++ (host ++ (server ++ (int port ++ (boolean ssl ++ r))))) (p2 ∙ ap (λ (r : List ℕ). int count ++ (headers ++ r)) (p3 ∙ ap (λ (r : List ℕ). attributes ++ 255 ∷ r) p4)))

behind_line : (line : RequestLine) (bytes rest : List ℕ) → HasLine line bytes rest → IsBytes bytes → IsBytes rest
behind_line line bytes rest l fits =
    IsBytes-behind l.uri rest (IsBytes-behind l.protocol (l.uri ++ rest) (IsBytes-rest l.byte (l.protocol ++ (l.uri ++ rest)) (IsBytes-rest 2 (l.byte ∷ (l.protocol ++ (l.uri ++ rest))) (subst IsBytes l.parts fits))))

behind_ends : (ends : Ends) (bytes rest : List ℕ) → HasEnds ends bytes rest → IsBytes bytes → IsBytes rest
behind_ends ends bytes rest n fits =
    IsBytes-behind (boolean ends.ssl) rest (IsBytes-behind (int ends.port) (boolean ends.ssl ++ rest) (IsBytes-behind n.server (int ends.port ++ (boolean ends.ssl ++ rest))
    (IsBytes-behind n.remote_host (n.server ++ (int ends.port ++ (boolean ends.ssl ++ rest))) (IsBytes-behind n.remote_addr (n.remote_host ++ (n.server ++ (int ends.port ++ (boolean ends.ssl ++ rest)))) (subst IsBytes n.parts fits)))))

behind_headers : (headers : List (List ℕ × List ℕ)) (bytes rest : List ℕ) → HasHeaders header_names false headers bytes rest → IsBytes bytes → IsBytes rest
behind_headers headers bytes rest h fits = IsBytes-behind h.listed rest (IsBytes-behind (int (length headers)) (h.listed ++ rest) (subst IsBytes h.parts fits))

spelled_by : (line : RequestLine) (ends : Ends) (headers : List (List ℕ × List ℕ)) (method : List ℕ) (attributes : List Attribute) (payload r1 r2 r3 r4 : List ℕ)
    → HasLine line payload r1 → HasEnds ends r1 r2 → HasHeaders header_names false headers r2 r3 → HasTail line.method method attributes r3 r4 → r4 ≡ [] → SpellsForward (made_of line ends headers (method, attributes)) payload
spelled_by line ends headers method attributes payload r1 r2 r3 r4 l n h t done = record {
  method_byte = l.byte;
  written = t.written;
  method = told_method line.method l.byte t.written method attributes r4 l.tells t.is;
  protocol = l.protocol;
  uri = l.uri;
  remote_addr = n.remote_addr;
  remote_host = n.remote_host;
  server = n.server;
  headers = h.listed;
  attributes = t.listed;
  spells_protocol = l.spells_protocol;
  spells_uri = l.spells_uri;
  spells_remote_addr = n.spells_remote_addr;
  spells_remote_host = n.spells_remote_host;
  spells_server = n.spells_server;
  fits_port = n.fits_port;
  few_headers = h.few;
  spells_headers = h.spelled;
  spells_attributes = t.spelled;
  whole = forward_parts payload l.byte l.protocol l.uri r1 n.remote_addr n.remote_host n.server ends.port ends.ssl r2 (length headers) h.listed r3 t.listed r4 l.parts n.parts h.parts t.parts done;
}

pub forward_takes : (payload : List ℕ) (forward : Forward) → IsBytes payload → forward_of payload ≡ Ok forward → SpellsForward forward payload
unfolding forward_of
forward_takes payload forward fits e =
    let a = bind_ok (line_at payload) (λ line. ends_at line.1 >>= λ ends. headers_at header_names false ends.1 >>= λ headers. tail_at line.0.method headers.1 >>= λ tail. ended tail.1 >>= λ end. Ok (made_of line.0 ends.0 headers.0 tail.0)) forward e in
    let line = a.0 in
    let b = bind_ok (ends_at line.1) (λ ends. headers_at header_names false ends.1 >>= λ headers. tail_at line.0.method headers.1 >>= λ tail. ended tail.1 >>= λ end. Ok (made_of line.0 ends.0 headers.0 tail.0)) forward a.2 in
    let ends = b.0 in
    let c = bind_ok (headers_at header_names false ends.1) (λ headers. tail_at line.0.method headers.1 >>= λ tail. ended tail.1 >>= λ end. Ok (made_of line.0 ends.0 headers.0 tail.0)) forward b.2 in
    let headers = c.0 in
    let d = bind_ok (tail_at line.0.method headers.1) (λ tail. ended tail.1 >>= λ end. Ok (made_of line.0 ends.0 headers.0 tail.0)) forward c.2 in
    let tail = d.0 in
    let z = bind_ok (ended tail.1) (λ end. Ok (made_of line.0 ends.0 headers.0 tail.0)) forward d.2 in
    let l = line_takes payload line.0 line.1 fits a.1 in
    let fits1 : IsBytes line.1 = behind_line line.0 payload line.1 l fits in
    let n = ends_takes line.1 ends.0 ends.1 fits1 b.1 in
    let fits2 : IsBytes ends.1 = behind_ends ends.0 line.1 ends.1 n fits1 in
    let h = headers_take header_names false ends.1 headers.0 headers.1 fits2 c.1 in
    let fits3 : IsBytes headers.1 = behind_headers headers.0 ends.1 headers.1 h fits2 in
    let t = tail_takes line.0.method headers.1 tail.0.0 tail.0.1 tail.1 fits3 d.1 in
    subst (λ (f : Forward). SpellsForward f payload) (ok_is (made_of line.0 ends.0 headers.0 tail.0) forward z.2)
    (spelled_by line.0 ends.0 headers.0 tail.0.0 tail.0.1 payload line.1 ends.1 headers.1 tail.1 l n h t (ended_takes tail.1 z.0 z.1))

pub forward_again : (forward : Forward) (payload : List ℕ) → SpellsForward forward payload → forward_of payload ≡ Ok forward
unfolding forward_of
forward_again forward payload s =
    let t = tells_of s.method_byte s.written forward.method forward.attributes [] s.method in
    let line : RequestLine = record { method = t.0; protocol = forward.protocol; uri = forward.uri } in
    let ends : Ends = record { remote_addr = forward.remote_addr; remote_host = forward.remote_host; server = forward.server; port = forward.port; ssl = forward.ssl } in
    let last : List ℕ = s.attributes ++ 255 ∷ [] in
    let listed : List ℕ = int (length forward.headers) ++ (s.headers ++ last) in
    let behind : List ℕ = s.remote_addr ++ (s.remote_host ++ (s.server ++ (int forward.port ++ (boolean forward.ssl ++ listed)))) in
    ap forward_of s.whole ∙ rw (
      line_again line s.method_byte s.protocol s.uri behind t.1 s.spells_protocol s.spells_uri,
      ends_again ends s.remote_addr s.remote_host s.server listed s.spells_remote_addr s.spells_remote_host s.spells_server,
      headers_again header_names false forward.headers s.headers last (omega arith) s.few_headers s.spells_headers,
      tail_again t.0 forward.method forward.attributes s.written s.attributes [] s.spells_attributes t.2,
    ) refl

-- a payload spells one request at most
pub spells_one : (one other : Forward) (payload : List ℕ) → SpellsForward one payload → SpellsForward other payload → one ≡ other
spells_one one other payload first second = ok_is one other (sym (forward_again one payload first) ∙ forward_again other payload second)

-- what is refused spells no request
pub refused_spells_none : (stop : NotRead) (len : ℕ) (error : DecodeError) (payload : List ℕ) → Halts stop (forward_of payload) → error ≡ told len stop → error ≢ errors.NoMemory → (forward : Forward) → SpellsForward forward payload → ⊥
refused_spells_none why.NoMemory len error payload halts is other forward s = other is
refused_spells_none (why.Refused r) len error payload halts is other forward s =
    let read : Err r ≡ Ok forward = sym halts ∙ forward_again forward payload s in
    cc
