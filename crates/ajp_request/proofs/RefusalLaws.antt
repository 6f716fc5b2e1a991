-- Where the reading of a Forward Request stops: what stands before the place begins a request, and what stands there spoils it.
use Rattle.std.proofs.Common.{◌≡◌, ℕ, zero, suc, ◌+◌, ◌<◌, ◌≤◌, Bool, true, false, cond, eqb, List, [], ◌∷◌, ◌++◌, length, Option, Some, None, Result, Ok, Err, refl, sym, ap, subst, ◌∙◌, arith, append_assoc, ◌⊎◌, inl, inr}
use Rattle.std.proofs.lemmas.List.{append-nil, length-append}
use Rattle.ajp_wire.specs.declared.refusal.Refusal.{Refusal}
use Rattle.ajp_wire.specs.declared.refusal.RefusalKind.TheVariants.{BadCode, Extra}
use Rattle.ajp_wire.specs.declared.refusal.NotRead.{NotRead}
use Rattle.ajp_wire.specs.Spelling.{int, string, SpellsText}
use Rattle.ajp_wire.specs.Reading.{Reading, ◌>>=◌, Halts, told, refused, headers_at}
use Rattle.ajp_wire.specs.FirstPlace.{IsRefused}
use Rattle.ajp_wire.proofs.ReadingLaws.{IsBytes, IsBytes-behind, Front, bind_ok, ok_is, int_value, text_again}
use Rattle.ajp_wire.proofs.FirstPlaces.{is_placed, Fails, Stops, fails-bind, bind_err, refusal_is, behind_it, told-refused}
use Rattle.ajp_request.specs.declared.attribute.Attribute.{Attribute}
use Rattle.ajp_request.specs.declared.attribute.Attribute.TheVariants.{Plain}
use Rattle.ajp_request.specs.declared.forward.Forward.{Forward}
use Rattle.ajp_request.specs.declared.decoding.RequestLine.{RequestLine}
use Rattle.ajp_request.specs.declared.decoding.Ends.{Ends}
use Rattle.ajp_request.specs.Tables.{header_names}
use Rattle.ajp_request.specs.Spelling.{boolean, stored_method, SpellsAttribute, SpellsAttributes, IsMethod, SpellsForward, IsSpelled}
use Rattle.ajp_request.specs.Reading.{line_at, ends_at, attributes_at, stored_in, stored_or, method_of, tail_at, ended, made_of, forward_of}
use Rattle.ajp_request.proofs.AttributeLaws.{attributes_take, attributes_again}
use Rattle.ajp_request.proofs.StoredLaws.{stored_takes}
use Rattle.ajp_request.proofs.ForwardLaws.{TellsMethod, HasLine, line_takes, line_again, HasEnds, ends_takes, ends_again, forward_again}
use Rattle.ajp_request.proofs.StopTools.{Word, Then, then_stops, stops_as, spoils}
use Rattle.ajp_request.proofs.FieldStops.{empty, empty_text, SpellsLine, line_stops, SpellsEnds, ends_stops, SpellsHeads, heads_word}
use Rattle.ajp_request.proofs.AttributeStops.{AnyList, list_at, list_stops}

-- ---- the line and the ends as words

line_word : Word line_at SpellsLine
line_word = record {
  takes = λ bytes x rest fits e. let l = line_takes bytes x rest fits e in (
    2 ∷ l.byte ∷ (l.protocol ++ l.uri),
    record { byte = l.byte; protocol = l.protocol; uri = l.uri; tells = l.tells; spells_protocol = l.spells_protocol; spells_uri = l.spells_uri; parts = refl },
    l.parts ∙ ap (λ (z : List ℕ). 2 ∷ l.byte ∷ z) (sym (append_assoc l.protocol l.uri rest)),
  );
  again = λ x front rest s.
      ap (λ (b : List ℕ). line_at (b ++ rest)) s.parts ∙ ap (λ (b : List ℕ). line_at (2 ∷ s.byte ∷ b)) (append_assoc s.protocol s.uri rest)
      ∙ line_again x s.byte s.protocol s.uri rest s.tells s.spells_protocol s.spells_uri;
  stops = line_stops;
}

ends_regroup : (a h v p b rest : List ℕ) → (a ++ (h ++ (v ++ (p ++ b)))) ++ rest ≡ a ++ (h ++ (v ++ (p ++ (b ++ rest))))
ends_regroup a h v p b rest = simp append_assoc

ends_word : Word ends_at SpellsEnds
ends_word = record {
  takes = λ bytes x rest fits e. let n = ends_takes bytes x rest fits e in (
    n.remote_addr ++ (n.remote_host ++ (n.server ++ (int x.port ++ boolean x.ssl))),
    record { remote_addr = n.remote_addr; remote_host = n.remote_host; server = n.server; spells_remote_addr = n.spells_remote_addr; spells_remote_host = n.spells_remote_host; spells_server = n.spells_server; fits_port = n.fits_port; parts = refl },
    n.parts ∙ sym (ends_regroup n.remote_addr n.remote_host n.server (int x.port) (boolean x.ssl) rest),
  );
  again = λ x front rest s.
      ap (λ (b : List ℕ). ends_at (b ++ rest)) s.parts ∙ ap ends_at (ends_regroup s.remote_addr s.remote_host s.server (int x.port) (boolean x.ssl) rest)
      ∙ ends_again x s.remote_addr s.remote_host s.server rest s.spells_remote_addr s.spells_remote_host s.spells_server;
  stops = ends_stops;
}

-- ---- attributes and the method

abbrev both : List ℕ → List Attribute → List ℕ × List Attribute
both method attributes = (method, attributes)

-- what is written says the method and the attributes
abbrev IsTold : Option (List ℕ) → List Attribute → List ℕ × List Attribute → Type 0
IsTold (Some method) written x = both method written ≡ x
IsTold None written x = stored_in written ≡ Some x

told_again : (method : Option (List ℕ)) (written : List Attribute) (x : List ℕ × List Attribute) (rest : List ℕ) → IsTold method written x → method_of method written rest ≡ Ok (x, rest)
told_again (Some name) written x rest is = ap (λ (y : List ℕ × List Attribute). Ok (y, rest)) is
told_again None written x rest is = rw is refl

stored_told : (found : Option (List ℕ × List Attribute)) (after : List ℕ) (x : List ℕ × List Attribute) (rest : List ℕ) → stored_or found after ≡ Ok (x, rest) → (found ≡ Some x) × (after ≡ rest)
stored_told (Some y) after x rest e =
    let same = ok_is {A = (List ℕ × List Attribute) × List ℕ} (y, after) (x, rest) e in
    (ap (λ (z : (List ℕ × List Attribute) × List ℕ). Some z.0) same, ap (λ (z : (List ℕ × List Attribute) × List ℕ). z.1) same)
stored_told None after x rest e = absurd cc

told_takes : (method : Option (List ℕ)) (written : List Attribute) (after : List ℕ) (x : List ℕ × List Attribute) (rest : List ℕ) → method_of method written after ≡ Ok (x, rest) → IsTold method written x × (after ≡ rest)
told_takes (Some name) written after x rest e =
    let same = ok_is {A = (List ℕ × List Attribute) × List ℕ} ((name, written), after) (x, rest) e in
    (ap (λ (z : (List ℕ × List Attribute) × List ℕ). z.0) same, ap (λ (z : (List ℕ × List Attribute) × List ℕ). z.1) same)
told_takes None written after x rest e = stored_told (stored_in written) after x rest e

record SpellsTail (method : Option (List ℕ)) (x : List ℕ × List Attribute) (bytes : List ℕ) : Type 0 where
  written : List Attribute
  listed : List ℕ
  spelled : SpellsAttributes written listed
  is : IsTold method written x
  parts : bytes ≡ listed ++ 255 ∷ []

abbrev AnyTail : Option (List ℕ) → List ℕ → Type 0
AnyTail method bytes = (x : List ℕ × List Attribute) × SpellsTail method x bytes

joined_lists : (first second : List Attribute) (a b : List ℕ) → SpellsAttributes first a → SpellsAttributes second b → SpellsAttributes (first ++ second) (a ++ b)
joined_lists [] second a b s t = subst (λ (z : List ℕ). SpellsAttributes second (z ++ b)) (sym s) t
joined_lists (x ∷ first) second a b (front, rest, here, later, parts) t =
    (front, rest ++ b, here, joined_lists first second rest b later t, ap (λ (z : List ℕ). z ++ b) parts ∙ append_assoc front rest b)

stores_next : (o : Option (List ℕ)) (x : Attribute) (xs : List Attribute) → stored_method x ≡ o → ((y : List ℕ × List Attribute) × (stored_in (xs ++ Plain 13 [] ∷ []) ≡ Some y)) → (y : List ℕ × List Attribute) × (stored_in ((x ∷ xs) ++ Plain 13 [] ∷ []) ≡ Some y)
stores_next None x xs e later = ((later.0.0, x ∷ later.0.1), rw (e, later.1) refl)
stores_next (Some method) x xs e later = ((method, xs ++ Plain 13 [] ∷ []), rw e refl)

stored_behind_all : (attributes : List Attribute) → (x : List ℕ × List Attribute) × (stored_in (attributes ++ Plain 13 [] ∷ []) ≡ Some x)
stored_behind_all [] = (([], []), refl)
stored_behind_all (x ∷ xs) = stores_next (stored_method x) x xs refl (stored_behind_all xs)

finish : (method : Option (List ℕ)) (b : List ℕ) → AnyList b → (m : List ℕ) × AnyTail method (b ++ m)
finish (Some name) b (attributes, spelled) = (255 ∷ [], ((name, attributes), record { written = attributes; listed = b; spelled = spelled; is = refl; parts = refl }))
finish None b (attributes, spelled) =
    let s = stored_behind_all attributes in
    let own : SpellsAttributes (Plain 13 [] ∷ []) (13 ∷ empty) = (13 ∷ empty, [], (empty, refl, empty_text false, refl), refl, refl) in (
      (13 ∷ empty) ++ 255 ∷ [],
      (
        s.0,
        record {
          written = attributes ++ Plain 13 [] ∷ [];
          listed = b ++ (13 ∷ empty);
          spelled = joined_lists attributes (Plain 13 [] ∷ []) b (13 ∷ empty) spelled own;
          is = s.1;
          parts = sym (append_assoc b (13 ∷ empty) (255 ∷ []));
        },
      ),
    )

no_method : (found : Option (List ℕ × List Attribute)) (bytes : List ℕ) (written : List Attribute) (listed rest : List ℕ) (r : Refusal) → stored_in written ≡ found → SpellsAttributes written listed → bytes ≡ listed ++ 255 ∷ rest → stored_or found rest ≡ Err r → Stops (AnyTail None) (tail_at None) bytes r
unfolding tail_at
no_method (Some x) bytes written listed rest r is spelled parts e = absurd cc
no_method None bytes written listed rest r is spelled parts e =
    let k = refusal_is {A = (List ℕ × List Attribute) × List ℕ} BadCode (255 ∷ rest) r e in
    let f = finish None listed (written, spelled) in
    record {
      front = listed;
      there = 255 ∷ [];
      behind = rest;
      more = f.0;
      whole = parts;
      opens = f.1;
      how = inr (record {
        kind = ap is_placed k.0;
        left = k.1;
        some = omega arith;
        few = omega arith;
        always = λ y. rw (attributes_again written listed y (length (listed ++ 255 ∷ y)) spelled (omega (arith, length-append listed (255 ∷ y))), is) tt;
      });
    }

unstored_stops : (method : Option (List ℕ)) (bytes : List ℕ) (written : List Attribute) (listed rest : List ℕ) (r : Refusal) → SpellsAttributes written listed → bytes ≡ listed ++ 255 ∷ rest → method_of method written rest ≡ Err r → Stops (AnyTail method) (tail_at method) bytes r
unstored_stops (Some name) bytes written listed rest r spelled parts e = absurd cc
unstored_stops None bytes written listed rest r spelled parts e = no_method (stored_in written) bytes written listed rest r refl spelled parts e

tail_stops : (method : Option (List ℕ)) (bytes : List ℕ) (r : Refusal) → IsBytes bytes → tail_at method bytes ≡ Err r → Stops (AnyTail method) (tail_at method) bytes r
unfolding tail_at
tail_stops method bytes r fits e =
    elim (bind_err (list_at bytes) (λ written. method_of method written.0 written.1) r e) [
      | inl stopped ↦
          behind_it AnyList (AnyTail method) list_at (tail_at method) [] bytes bytes r refl (list_stops (length bytes) bytes r (omega arith) fits stopped)
          (λ b good. finish method b good)
          (λ y h. fails-bind (list_at y) (λ written. method_of method written.0 written.1) h)
      | inr (written, read, on) ↦
          let t = attributes_take (length bytes) bytes written.0 written.1 fits read in
          unstored_stops method bytes written.0 t.listed written.1 r t.spelled t.parts on
    ]

tail_front : (method : Option (List ℕ)) (bytes : List ℕ) (x : List ℕ × List Attribute) (rest : List ℕ) → IsBytes bytes → tail_at method bytes ≡ Ok (x, rest) → (front : List ℕ) × SpellsTail method x front × (bytes ≡ front ++ rest)
unfolding tail_at
tail_front method bytes x rest fits e =
    let a = bind_ok (list_at bytes) (λ written. method_of method written.0 written.1) (x, rest) e in
    let t = attributes_take (length bytes) bytes a.0.0 a.0.1 fits a.1 in
    let m = told_takes method a.0.0 a.0.1 x rest a.2 in (
      t.listed ++ 255 ∷ [],
      record { written = a.0.0; listed = t.listed; spelled = t.spelled; is = m.0; parts = refl },
      t.parts ∙ ap (λ (z : List ℕ). t.listed ++ 255 ∷ z) m.1 ∙ sym (append_assoc t.listed (255 ∷ []) rest),
    )

tail_behind : (method : Option (List ℕ)) (x : List ℕ × List Attribute) (front rest : List ℕ) → SpellsTail method x front → tail_at method (front ++ rest) ≡ Ok (x, rest)
unfolding tail_at
tail_behind method x front rest s =
    ap (λ (b : List ℕ). tail_at method (b ++ rest)) s.parts ∙ ap (tail_at method) (append_assoc s.listed (255 ∷ []) rest)
    ∙ rw (attributes_again s.written s.listed rest (length (s.listed ++ 255 ∷ rest)) s.spelled (omega (arith, length-append s.listed (255 ∷ rest)))) (told_again method s.written x rest s.is)

tail_word : (method : Option (List ℕ)) → Word (tail_at method) (SpellsTail method)
tail_word method = record {
  takes = tail_front method;
  again = tail_behind method;
  stops = tail_stops method;
}

-- ---- the whole

abbrev IsNothing : List ℕ → Type 0
IsNothing bytes = bytes ≡ []

abbrev after_tail : RequestLine → Ends → List (List ℕ × List ℕ) → List ℕ × List Attribute → List ℕ → Result Forward Refusal
after_tail line ends headers tail bytes = ended bytes >>= λ end. Ok (made_of line ends headers tail)

abbrev after_headers : RequestLine → Ends → List (List ℕ × List ℕ) → List ℕ → Result Forward Refusal
after_headers line ends headers bytes = tail_at line.method bytes >>= λ tail. after_tail line ends headers tail.0 tail.1

abbrev after_ends : RequestLine → Ends → List ℕ → Result Forward Refusal
after_ends line ends bytes = headers_at header_names false bytes >>= λ headers. after_headers line ends headers.0 headers.1

abbrev after_line : RequestLine → List ℕ → Result Forward Refusal
after_line line bytes = ends_at bytes >>= λ ends. after_ends line ends.0 ends.1

abbrev GoodTail : Option (List ℕ) → List ℕ → Type 0
GoodTail method = Then (SpellsTail method) (λ tail b. b ≡ [])

abbrev GoodHeaders : Option (List ℕ) → List ℕ → Type 0
GoodHeaders method = Then SpellsHeads (λ headers b. GoodTail method b)

abbrev GoodEnds : Option (List ℕ) → List ℕ → Type 0
GoodEnds method = Then SpellsEnds (λ ends b. GoodHeaders method b)

abbrev GoodRequest : List ℕ → Type 0
GoodRequest = Then SpellsLine (λ line b. GoodEnds line.method b)

any_tail : (method : Option (List ℕ)) → (m : List ℕ) × GoodTail method m
any_tail method =
    let f = finish method [] ([], refl) in
    (f.0, (f.1.0, f.0, [], f.1.1, refl, sym (append-nil f.0)))

any_headers : (method : Option (List ℕ)) → (m : List ℕ) × GoodHeaders method m
any_headers method =
    let t = any_tail method in
    ((0 ∷ 0 ∷ []) ++ t.0, ([], 0 ∷ 0 ∷ [], t.0, ([], omega arith, refl, refl), t.1, refl))

any_ends : (method : Option (List ℕ)) → (m : List ℕ) × GoodEnds method m
any_ends method =
    let h = any_headers method in
    let front : List ℕ = empty ++ (empty ++ (empty ++ (int 0 ++ boolean false))) in
    let ends : Ends = record { remote_addr = []; remote_host = []; server = []; port = 0; ssl = false } in
    let spelled : SpellsEnds ends front = record { remote_addr = empty; remote_host = empty; server = empty; spells_remote_addr = empty_text false; spells_remote_host = empty_text true; spells_server = empty_text false; fits_port = omega arith; parts = refl } in
    (front ++ h.0, (ends, front, h.0, spelled, h.1, refl))

last_stops : (line : RequestLine) (ends : Ends) (headers : List (List ℕ × List ℕ)) (tail : List ℕ × List Attribute) (bytes : List ℕ) (r : Refusal) → after_tail line ends headers tail bytes ≡ Err r → Stops IsNothing (after_tail line ends headers tail) bytes r
last_stops line ends headers tail [] r e = absurd cc
last_stops line ends headers tail (byte ∷ rest) r e = spoils {A = Forward} IsNothing (after_tail line ends headers tail) byte rest r Extra [] e refl refl (λ y. tt)

headers_behind : (line : RequestLine) (ends : Ends) (headers : List (List ℕ × List ℕ)) (bytes : List ℕ) (r : Refusal) → IsBytes bytes → after_headers line ends headers bytes ≡ Err r → Stops (GoodTail line.method) (after_headers line ends headers) bytes r
headers_behind line ends headers bytes r fits e =
    then_stops (tail_at line.method) (SpellsTail line.method) (tail_word line.method) (after_tail line ends headers) (λ tail b. b ≡ []) (λ tail. ([], refl)) (λ tail rest s ok f. last_stops line ends headers tail rest s f) bytes r fits e

ends_behind : (line : RequestLine) (ends : Ends) (bytes : List ℕ) (r : Refusal) → IsBytes bytes → after_ends line ends bytes ≡ Err r → Stops (GoodHeaders line.method) (after_ends line ends) bytes r
ends_behind line ends bytes r fits e =
    then_stops (headers_at header_names false) SpellsHeads heads_word (after_headers line ends) (λ headers b. GoodTail line.method b) (λ headers. any_tail line.method) (λ headers rest s ok f. headers_behind line ends headers rest s ok f) bytes r fits e

line_behind : (line : RequestLine) (bytes : List ℕ) (r : Refusal) → IsBytes bytes → after_line line bytes ≡ Err r → Stops (GoodEnds line.method) (after_line line) bytes r
line_behind line bytes r fits e =
    then_stops ends_at SpellsEnds ends_word (after_ends line) (λ ends b. GoodHeaders line.method b) (λ ends. any_headers line.method) (λ ends rest s ok f. ends_behind line ends rest s ok f) bytes r fits e

-- the method by its byte and the attributes
method_told : (method : Option (List ℕ)) (byte : ℕ) (written : List Attribute) (x : List ℕ × List Attribute) → TellsMethod byte method → IsTold method written x → IsMethod byte written x.0 x.1
method_told (Some name) byte written x tells is = subst (λ (y : List ℕ × List Attribute). IsMethod byte written y.0 y.1) is (inl (tells, refl))
method_told None byte written x tells is = inr (tells, stored_takes written x.0 x.1 is)

request_parts : (byte : ℕ) (p u a h v port ssl count listed l : List ℕ) →
    (2 ∷ byte ∷ (p ++ u)) ++ ((a ++ (h ++ (v ++ (port ++ ssl)))) ++ ((count ++ listed) ++ (l ++ 255 ∷ [])))
    ≡ 2 ∷ byte ∷ (p ++ (u ++ (a ++ (h ++ (v ++ (port ++ (ssl ++ (count ++ (listed ++ (l ++ 255 ∷ []))))))))))
request_parts byte p u a h v port ssl count listed l = simp append_assoc

request_of : (b : List ℕ) → GoodRequest b → IsSpelled b
request_of b (line, f0, r0, s0, (ends, f1, r1, s1, (headers, f2, r2, (listed, few, spells_headers, e5), (tail, f3, r3, s3, nothing, e3), e2), e1), e0) = (
  made_of line ends headers tail,
  record {
    method_byte = s0.byte;
    written = s3.written;
    method = method_told line.method s0.byte s3.written tail s0.tells s3.is;
    protocol = s0.protocol;
    uri = s0.uri;
    remote_addr = s1.remote_addr;
    remote_host = s1.remote_host;
    server = s1.server;
    headers = listed;
    attributes = s3.listed;
    spells_protocol = s0.spells_protocol;
    spells_uri = s0.spells_uri;
    spells_remote_addr = s1.spells_remote_addr;
    spells_remote_host = s1.spells_remote_host;
    spells_server = s1.spells_server;
    fits_port = s1.fits_port;
    few_headers = few;
    spells_headers = spells_headers;
    spells_attributes = s3.spelled;
    whole = e0 ∙ ap (λ (z : List ℕ). z ++ r0) s0.parts ∙ ap (λ (z : List ℕ). (2 ∷ s0.byte ∷ (s0.protocol ++ s0.uri)) ++ z) (e1 ∙ ap (λ (z : List ℕ). z ++ r1) s1.parts
        ∙ ap (λ (z : List ℕ). (s1.remote_addr ++ (s1.remote_host ++ (s1.server ++ (int ends.port ++ boolean ends.ssl)))) ++ z) (e2 ∙ ap (λ (z : List ℕ). z ++ r2) e5
        ∙ ap (λ (z : List ℕ). (int (length headers) ++ listed) ++ z) (e3 ∙ ap (λ (z : List ℕ). f3 ++ z) nothing ∙ append-nil f3 ∙ s3.parts)))
        ∙ request_parts s0.byte s0.protocol s0.uri s1.remote_addr s1.remote_host s1.server (int ends.port) (boolean ends.ssl) (int (length headers)) listed s3.listed;
  },
)

pub forward_stops : (payload : List ℕ) (r : Refusal) → IsBytes payload → forward_of payload ≡ Err r → Stops IsSpelled forward_of payload r
unfolding forward_of
forward_stops payload r fits e =
    stops_as GoodRequest IsSpelled forward_of payload r request_of
    (then_stops line_at SpellsLine line_word after_line (λ line b. GoodEnds line.method b) (λ line. any_ends line.method) (λ line rest s ok f. line_behind line rest s ok f) payload r fits e)

-- the error that the decoder gives names the first place that can't be read
pub request_refused : (payload : List ℕ) (stop : NotRead) → IsBytes payload → Halts stop (forward_of payload) → IsRefused IsSpelled payload (told (length payload) stop)
request_refused payload stop fits halts = told-refused IsSpelled forward_of payload stop (λ bytes whole fails. read_again bytes whole fails) (λ r e. forward_stops payload r fits e) halts
  where
    read_again : (bytes : List ℕ) → IsSpelled bytes → Fails (forward_of bytes) → ⊥
    read_again bytes (forward, s) fails = subst Fails (forward_again forward bytes s) fails
