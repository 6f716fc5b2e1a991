-- The length that a container finds in a forwarded request is the one by which the connector planned its body.
use Rattle.std.proofs.Common.{◌≡◌, ℕ, zero, suc, ◌<◌, ◌≤◌, ◌^◌, ◌==◌, ◌&&◌, nat_lt, nat_le, Bool, true, false, cond, List, [], ◌∷◌, ◌++◌, length, map, filter, reverse, Option, Some, None, Result, Ok, Err, refl, sym, ap, subst, ◌∙◌, arith, inl, inr, ◌⊎◌, codes}
use Rattle.std.specs.Prelude.{if◌then◌else◌}
use Rattle.std.specs.Option.{option_map, option_and_then}
use Rattle.std.specs.Str.{bytes_eq, str_eq_ignore_ascii_case, str_to_ascii_lowercase}
use Rattle.std.specs.Char.{digit_value}
use Rattle.std.specs.Str.Parse.{digits_value}
use Rattle.std.proofs.lemmas.Bool.{eqb-true, leb-false, leb-true}
use Rattle.std.proofs.lemmas.List.{length-map, reverse-append, reverse-reverse}
use Rattle.std.proofs.lemmas.Slice.Eq.{bytes_eq-Decides}
use Rattle.jk_io.specs.Decimals.{all_digits, decimal_of, drop_blanks, is_blank, is_decimal, trimmed}
use Rattle.lb_model.specs.declared.member.MemberConfig.{MemberConfig}
use Rattle.ajp_wire.specs.Names.{headers_as_read, table_spelling}
use Rattle.ajp_request.specs.Spelling.{SpellsForward}
use Rattle.ajp_request.specs.Tables.{header_names}
use Rattle.ajp_request.specs.Writing.{FieldsFit, as_read, payload_of}
use Rattle.ajp_request.specs.declared.forward.Forward.{Forward}
use Rattle.ajp_request.proofs.ForwardLaws.{spells_one}
use Rattle.ajp_request.proofs.SpelledLaws.{written_spells}
use Rattle.forwarding.specs.Forwards.{forward_for, line_for}
use Rattle.forwarding.proofs.ForwardLaws.{forward_is_one}
use Rattle.http_front.specs.Fields.{HeaderLine, is_named, named, same_word}
use Rattle.http_front.specs.Framing.{exact_plan, is_long, length_of, length_plan, plan_of}
use Rattle.http_front.specs.Host.{host_of, numbered, parted, ported, server_of, split_port}
use Rattle.http_front.specs.Judged.{allowed, and_then, head_of as head_by, judged_of, made}
use Rattle.http_front.specs.Path.{clean_of, path_of}
use Rattle.http_front.specs.Request.{IsHeadOf}
use Rattle.http_front.specs.declared.answers.Form.{Form}
use Rattle.http_front.specs.declared.answers.Form.TheVariants as form
use Rattle.http_front.specs.declared.head.BodyPlan.{BodyPlan}
use Rattle.http_front.specs.declared.head.BodyPlan.TheVariants as plan
use Rattle.http_front.specs.declared.head.Head.{Head}
use Rattle.http_front.specs.declared.framing.TheConstants.{MAX_BODY_BYTES}
use Rattle.httparse.specs.Spans.{name_and_value}
use Rattle.site_config.specs.declared.endpoint.Endpoint.{Endpoint}
use Rattle.ajp_container.specs.Request.{content_length, length_in, value_named}

-- ---- names and values as they come to the container

spelling-same : (table : List (List ℕ)) (n x : List ℕ) → str_eq_ignore_ascii_case (table_spelling table n) x ≡ str_eq_ignore_ascii_case n x
spelling-same [] n x = refl
spelling-same (known ∷ table) n x = of (str_eq_ignore_ascii_case known n) refl (spelling-same table n x)
  where
    of : (b : Bool) → str_eq_ignore_ascii_case known n ≡ b → str_eq_ignore_ascii_case (table_spelling table n) x ≡ str_eq_ignore_ascii_case n x
        → str_eq_ignore_ascii_case (if b then known else table_spelling table n) x ≡ str_eq_ignore_ascii_case n x
    of true is later = ap (λ (l : List ℕ). bytes_eq l (str_to_ascii_lowercase x)) ((bytes_eq-Decides (str_to_ascii_lowercase known) (str_to_ascii_lowercase n)).0 is)
    of false is later = later

-- the first value of a name among lines
abbrev first_of : List (List ℕ) → Option (List ℕ)
first_of [] = None
first_of (value ∷ values) = Some value

lines-value : (name : List ℕ) (lines : List HeaderLine)
    → value_named name (headers_as_read header_names (map line_for lines)) ≡ option_map trimmed (first_of (named name lines))
lines-value name [] = refl
lines-value name (line ∷ lines) =
    ap (λ (b : Bool). if b then Some (trimmed line.1) else value_named name (headers_as_read header_names (map line_for lines)))
    (spelling-same header_names line.0 name)
    ∙ of (is_named name line) (lines-value name lines)
  where
    of : (b : Bool) → value_named name (headers_as_read header_names (map line_for lines)) ≡ option_map trimmed (first_of (named name lines))
        → (if b then Some (trimmed line.1) else value_named name (headers_as_read header_names (map line_for lines)))
        ≡ option_map trimmed (first_of (map (λ (l : HeaderLine). l.1) (cond b (line ∷ filter (is_named name) lines) (filter (is_named name) lines))))
    of true later = refl
    of false later = later

-- ---- a head that was read

record IsJudged (lines : List HeaderLine) (head : Head) : Type 0 where
  old : Bool
  port : head.port < 65536
  headers : head.headers ≡ lines
  plan_is : plan_of old (named (codes "content-length") lines) (named (codes "transfer-encoding") lines) ≡ Ok head.plan
  short : is_long head.plan ≡ false

record Then {A B : Type 0} (r : Result A Form) (f : A → Result B Form) (b : B) : Type 0 where
  a : A
  first : r ≡ Ok a
  second : f a ≡ Ok b

then_is : {A B : Type 0} (r : Result A Form) (f : A → Result B Form) (b : B) → and_then r f ≡ Ok b → Then r f b
then_is (Ok a) f b is = record { a = a; first = refl; second = is }
then_is (Err form) f b is = absurd cc

port-numbered : (name : List ℕ) (o : Option ℕ) (server : List ℕ × ℕ) → numbered name o ≡ Ok server → server.1 < 65536
port-numbered name None server is = absurd cc
port-numbered name (Some port) server is = of (nat_le port 65535) refl is
  where
    of : (b : Bool) → nat_le port 65535 ≡ b → (if b then Ok (name, port) else Err form.BadHost) ≡ Ok server → server.1 < 65536
    of true within same =
        let port_is : port ≡ server.1 = cc in
        let few = leb-true port 65535 within in
        omega (arith, port_is, few)
    of false within same = absurd cc

port-ported : (name bytes : List ℕ) (server : List ℕ × ℕ) → ported name bytes ≡ Ok server → server.1 < 65536
port-ported name [] server is = let port_is : 80 ≡ server.1 = cc in omega (arith, port_is)
port-ported name (b ∷ bytes) server is = port-numbered name (decimal_of (b ∷ bytes)) server is

port-parted : (value : List ℕ) (o : Option (List ℕ × List ℕ)) (server : List ℕ × ℕ) → parted value o ≡ Ok server → server.1 < 65536
port-parted value None server is = let port_is : 80 ≡ server.1 = cc in omega (arith, port_is)
port-parted value (Some parts) server is = port-ported parts.0 parts.1 server is

port-server : (value : List ℕ) (server : List ℕ × ℕ) → server_of value ≡ Ok server → server.1 < 65536
port-server [] server is = let port_is : 80 ≡ server.1 = cc in omega (arith, port_is)
port-server (b ∷ bytes) server is = port-parted (b ∷ bytes) (split_port (b ∷ bytes)) server is

port-host : (old : Bool) (values : List (List ℕ)) (server : List ℕ × ℕ) → host_of old values ≡ Ok server → server.1 < 65536
port-host true [] server is = let port_is : 80 ≡ server.1 = cc in omega (arith, port_is)
port-host false [] server is = absurd cc
port-host old (value ∷ []) server is = port-server value server is
port-host old (value ∷ other ∷ values) server is = absurd cc

allowed-is : (method : List ℕ) (server : List ℕ × ℕ) (p : BodyPlan) (parts : List ℕ × ℕ × BodyPlan) → allowed method server p ≡ Ok parts
    → (server.1 ≡ parts.1) × (p ≡ parts.2) × (is_long p ≡ false)
allowed-is method server p parts is = of (bytes_eq method (codes "CONNECT")) (is_long p) refl is
  where
    of : (b d : Bool) → is_long p ≡ d → (if b then Err form.Connect
        else if d then Err form.TooLong else Ok (server.0, server.1, p)) ≡ Ok parts
        → (server.1 ≡ parts.1) × (p ≡ parts.2) × (is_long p ≡ false)
    of true d long same = absurd cc
    of false true long same = absurd cc
    of false false long same = (cc, cc, long)

abbrev head_or : Head → Result Head Form → Head
head_or other (Ok head) = head
head_or other (Err refused) = other

judged_is : (method target : List ℕ) (old : Bool) (lines : List HeaderLine) (head : Head) → head_by method target old lines ≡ Ok head → IsJudged lines head
judged_is method target old lines head is =
    let one = then_is (judged_of method old lines) (λ parts. made method target old lines parts (clean_of (path_of target))) head is in
    let two = then_is (host_of old (named (codes "host") lines))
    (λ server. and_then (plan_of old (named (codes "content-length") lines) (named (codes "transfer-encoding") lines)) (λ p. allowed method server p)) one.a one.first in
    let three = then_is (plan_of old (named (codes "content-length") lines) (named (codes "transfer-encoding") lines)) (λ p. allowed method two.a p) one.a two.second in
    let four = allowed-is method two.a three.a one.a three.second in
    let port = port-host old (named (codes "host") lines) two.a two.first in
    made_is one.a (clean_of (path_of target)) one.second
    (λ (port_is : head.port ≡ one.a.1) (headers : head.headers ≡ lines) (plan_is : head.plan ≡ one.a.2). record {
      old = old;
      port = subst (λ (k : ℕ). k < 65536) (four.0 ∙ sym port_is) port;
      headers = headers;
      plan_is = three.first ∙ ap Ok (four.1 ∙ sym plan_is);
      short = ap is_long (plan_is ∙ sym four.1) ∙ four.2;
    })
  where
    made_is : {X : Type 0} (parts : List ℕ × ℕ × BodyPlan) (clean : Option (List ℕ)) → made method target old lines parts clean ≡ Ok head
        → ((head.port ≡ parts.1) → (head.headers ≡ lines) → (head.plan ≡ parts.2) → X) → X
    made_is parts None same on = absurd cc
    made_is parts (Some clean) same on =
        on (sym (ap (λ (r : Result Head Form). (head_or head r).port) same)) (sym (ap (λ (r : Result Head Form). (head_or head r).headers) same))
        (sym (ap (λ (r : Result Head Form). (head_or head r).plan) same))

-- ---- digits stay as they are when blanks are trimmed

digit-no_blank : (byte : ℕ) → nat_lt (digit_value byte) 10 ≡ true → is_blank byte ≡ false
digit-no_blank byte digit = of (byte == 32) (byte == 9) refl refl
  where
    of : (a b : Bool) → (byte == 32) ≡ a → (byte == 9) ≡ b → is_blank byte ≡ false
    of true b is other = let same : byte ≡ 32 = eqb-true byte 32 is in let no : nat_lt (digit_value 32) 10 ≡ true = subst (λ (k : ℕ). nat_lt (digit_value k) 10 ≡ true) same digit in absurd cc
    of false true is other = let same : byte ≡ 9 = eqb-true byte 9 other in let no : nat_lt (digit_value 9) 10 ≡ true = subst (λ (k : ℕ). nat_lt (digit_value k) 10 ≡ true) same digit in absurd cc
    of false false is other = rw (is, other) refl

and-both : (a b : Bool) → (a && b) ≡ true → (a ≡ true) × (b ≡ true)
and-both true true both = (refl, refl)
and-both true false both = absurd cc
and-both false b both = absurd cc

-- no byte of these digits is a blank
digits-stay : (text : List ℕ) → all_digits text ≡ true → drop_blanks text ≡ text
digits-stay [] digits = refl
digits-stay (byte ∷ text) digits = ap (λ (b : Bool). if b then drop_blanks text else byte ∷ text) (digit-no_blank byte (and-both (nat_lt (digit_value byte) 10) (all_digits text) digits).0)

digits-append : (a b : List ℕ) → all_digits a ≡ true → all_digits b ≡ true → all_digits (a ++ b) ≡ true
digits-append [] b p q = q
digits-append (byte ∷ a) b p q =
    let both = and-both (nat_lt (digit_value byte) 10) (all_digits a) p in
    rw both.0 (digits-append a b both.1 q)

digits-reverse : (text : List ℕ) → all_digits text ≡ true → all_digits (reverse text) ≡ true
digits-reverse [] p = refl
digits-reverse (byte ∷ text) p =
    let both = and-both (nat_lt (digit_value byte) 10) (all_digits text) p in
    let one : all_digits (byte ∷ []) ≡ true = rw both.0 refl in
    subst (λ (t : List ℕ). all_digits t ≡ true) (sym (reverse-append (byte ∷ []) text))
    (digits-append (reverse text) (byte ∷ []) (digits-reverse text both.1) one)

digits-trimmed : (text : List ℕ) → all_digits text ≡ true → trimmed text ≡ text
digits-trimmed text digits =
    ap (λ (t : List ℕ). reverse (drop_blanks (reverse t))) (digits-stay text digits)
    ∙ ap reverse (digits-stay (reverse text) (digits-reverse text digits)) ∙ reverse-reverse text

-- ---- the plan and the length

-- By the plan of a body the request names no length or 0, this length, or none.
abbrev pub Names : BodyPlan → Option ℕ → Type 0
Names plan.None named' = (named' ≡ None) ⊎ (named' ≡ Some 0)
Names (plan.Exact n) named' = (named' ≡ Some n) × (0 < n)
Names plan.Chunked named' = named' ≡ None

-- a value that is a length is found as it is
length-trimmed : (value : List ℕ) (n : ℕ) → length_of value ≡ Some n → length_in (trimmed value) ≡ Some n
length-trimmed value n is = of (nat_le (length value) 19) refl is
  where
    decimal_is : (d : Bool) → is_decimal value ≡ d → (if d then Some (digits_value 10 value) else None) ≡ Some n → all_digits value ≡ true
    decimal_is false is found = absurd cc
    decimal_is true is found =
        (and-both (all_digits value) _ (and-both (nat_le (length value) 20) _ (and-both (nat_lt 0 (length value)) _ is).1).1).0

    of : (b : Bool) → nat_le (length value) 19 ≡ b → (if b then decimal_of value else None) ≡ Some n → length_in (trimmed value) ≡ Some n
    of true short found =
        ap length_in (digits-trimmed value (decimal_is (is_decimal value) refl found)) ∙ ap (λ (b : Bool). if b then decimal_of value else None) short ∙ found
    of false short found = absurd cc

names-exact : (n : ℕ) (named' : Option ℕ) → named' ≡ Some n → Names (exact_plan n) named'
names-exact zero named' is = inr is
names-exact (suc n) named' is = (is, omega arith)

plan-names : (old : Bool) (values codings : List (List ℕ)) (p : BodyPlan) → plan_of old values codings ≡ Ok p
    → Names p (option_and_then length_in (option_map trimmed (first_of values)))
plan-names old [] [] p is = let p_is : plan.None ≡ p = cc in subst (λ (x : BodyPlan). Names x None) p_is (inl refl)
plan-names old (value ∷ values) (coding ∷ codings) p is = absurd cc
plan-names old (value ∷ []) [] p is = of (length_of value) refl is
  where
    of : (o : Option ℕ) → length_of value ≡ o → length_plan o ≡ Ok p → Names p (length_in (trimmed value))
    of None found same = absurd cc
    of (Some n) found same =
        let p_is : exact_plan n ≡ p = cc in
        subst (λ (x : BodyPlan). Names x (length_in (trimmed value))) p_is (names-exact n (length_in (trimmed value)) (length-trimmed value n found))
plan-names old (value ∷ other ∷ values) [] p is = absurd cc
plan-names old [] (coding ∷ []) p is = of old (same_word coding (codes "chunked")) is
  where
    of : (o b : Bool) → (if o then Err form.OldChunked else if b then Ok plan.Chunked else Err form.BadCoding) ≡ Ok p → Names p None
    of true b same = absurd cc
    of false true same = let p_is : plan.Chunked ≡ p = cc in subst (λ (x : BodyPlan). Names x None) p_is refl
    of false false same = absurd cc
plan-names true [] (coding ∷ other ∷ codings) p is = absurd cc
plan-names false [] (coding ∷ other ∷ codings) p is = absurd cc

-- A body by length is shorter than 2^40 bytes.
pub length_below : (used : List ℕ) (head : Head) (n : ℕ) → IsHeadOf used head → head.plan ≡ plan.Exact n → n < 2 ^ 40
length_below used head n is by =
    let j = judged_is is.parsed.method is.parsed.target (is.parsed.minor == 0) (map name_and_value is.parsed.fields) head is.is in
    leb-false MAX_BODY_BYTES n (sym (ap is_long by) ∙ j.short)

-- The length that the container finds is that of the plan.
pub named_length : (used : List ℕ) (head : Head) (peer : List ℕ) (direct : Bool) (member : MemberConfig) (endpoint : Endpoint) (f : Forward)
    → IsHeadOf used head → FieldsFit (forward_for head peer direct member endpoint)
    → SpellsForward f (payload_of (forward_for head peer direct member endpoint)) → Names head.plan (content_length f)
named_length used head peer direct member endpoint f is fits spells =
    let fwd = forward_for head peer direct member endpoint in
    let lines = map name_and_value is.parsed.fields in
    let j = judged_is is.parsed.method is.parsed.target (is.parsed.minor == 0) lines head is.is in
    let room = is.reads.room in
    let listed = length-map is.parsed.fields name_and_value in
    let all : length head.headers ≡ length lines = ap length j.headers in
    let few : length head.headers ≤ 100 = omega (arith, room, listed, all) in
    let one = forward_is_one head peer direct member endpoint j.port few in
    let same : f ≡ as_read fwd = spells_one f (as_read fwd) (payload_of fwd) spells (written_spells fwd one fits) in
    let found : content_length (as_read fwd) ≡ option_and_then length_in (option_map trimmed (first_of (named (codes "content-length") lines))) =
    ap (option_and_then length_in) (ap (λ (l : List HeaderLine). value_named (codes "content-length") (headers_as_read header_names (map line_for l))) j.headers
    ∙ lines-value (codes "content-length") lines) in
    subst (Names head.plan) (sym (ap content_length same ∙ found)) (plan-names j.old (named (codes "content-length") lines) (named (codes "transfer-encoding") lines) head.plan j.plan_is)
