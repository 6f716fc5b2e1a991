-- A parsed head judged, by the rows after the parser in their order: a head, or the first row that refuses it.
use Rattle.std.specs.Prelude.{ℕ, Bool, List, codes, bytes_eq, Option, Some, None, Result, Ok, Err, if◌then◌else◌}
use Rattle.http_front.specs.Fields.{HeaderLine, named, says_close, says_expect}
use Rattle.http_front.specs.Host.{host_of}
use Rattle.http_front.specs.Framing.{plan_of, is_long}
use Rattle.http_front.specs.Path.{path_of, query_of, clean_of}
use Rattle.http_front.specs.declared.answers.Form.{Form}
use Rattle.http_front.specs.declared.answers.Form.TheVariants.{Connect, TooLong, BadPath}
use Rattle.http_front.specs.declared.head.BodyPlan.{BodyPlan}
use Rattle.http_front.specs.declared.head.Head.{Head}

-- the next row is looked at where this one refuses nothing
abbrev pub and_then : {A B : Type 0} → Result A Form → (A → Result B Form) → Result B Form
and_then (Ok a) next = next a
and_then (Err form) next = Err form

-- the method CONNECT, and a body too long
abbrev pub allowed : List ℕ → (List ℕ × ℕ) → BodyPlan → Result (List ℕ × ℕ × BodyPlan) Form
allowed method server plan =
    if bytes_eq method (codes "CONNECT") then Err Connect
    else if is_long plan then Err TooLong
    else Ok (server.0, server.1, plan)

-- the server's name and port and the body's plan: Host first, then the framing, the method and the length
abbrev pub judged_of : List ℕ → Bool → List HeaderLine → Result (List ℕ × ℕ × BodyPlan) Form
judged_of method old lines =
    and_then (host_of old (named (codes "host") lines)) (λ server.
    and_then (plan_of old (named (codes "content-length") lines) (named (codes "transfer-encoding") lines)) (λ plan.
    allowed method server plan))

-- the head with its clean path, where it has one
abbrev pub made : List ℕ → List ℕ → Bool → List HeaderLine → (List ℕ × ℕ × BodyPlan) → Option (List ℕ) → Result Head Form
made method target old lines parts None = Err BadPath
made method target old lines parts (Some clean) = Ok (record {
  method = method;
  target = target;
  path = path_of target;
  query = query_of target;
  clean = clean;
  old = old;
  headers = lines;
  server = parts.0;
  port = parts.1;
  plan = parts.2;
  close = says_close lines;
  expect = says_expect lines;
})

-- the head of these parts, or the first row that refuses it
abbrev pub head_of : List ℕ → List ℕ → Bool → List HeaderLine → Result Head Form
head_of method target old lines =
    and_then (judged_of method old lines) (λ parts. made method target old lines parts (clean_of (path_of target)))
