-- The head in a client's bytes, from the end of the former request on: whole, or refused. Read this first.
use Rattle.std.specs.Prelude.{ℕ, ◌≡◌, ◌≢◌, ◌≤◌, ◌<◌, ◌+◌, ◌==◌, ◌⊎◌, List, [], length, take, map, Result, Ok, Err}
use Rattle.httparse.specs.Grammar.{RequestHead, ReadsRequest}
use Rattle.httparse.specs.Spans.{name_and_value}
use Rattle.http_front.specs.Cut.{Cuts, blank_len, header_lines}
use Rattle.http_front.specs.Judged.{head_of}
use Rattle.http_front.specs.declared.answers.Form.{Form}
use Rattle.http_front.specs.declared.answers.Form.TheVariants.{TooBig, BadHead}
use Rattle.http_front.specs.declared.head.Head.{Head}

-- the bytes are a head of HTTP/1.0 or HTTP/1.1 by the parser's grammar, with at most 100 fields
pub record Reads (front : List ℕ) (parsed : RequestHead) : Type 0 where
  pub reads : ReadsRequest front parsed []
  pub room : length parsed.fields ≤ 100

-- the head of what was parsed, or what it is refused for
abbrev pub judged : RequestHead → Result Head Form
judged parsed = head_of parsed.method parsed.target (parsed.minor == 0) (map name_and_value parsed.fields)

-- used are empty lines and the bytes of this head
pub record IsHeadOf (used : List ℕ) (head : Head) : Type 0 where
  pub blank : List ℕ
  pub front : List ℕ
  pub parsed : RequestHead
  pub cut : Cuts used blank front []
  pub within : length used ≤ 16384
  pub few : header_lines front ≤ 100
  pub reads : Reads front parsed
  pub is : judged parsed ≡ Ok head

-- more than 100 lines stand between the first and the empty one
abbrev pub HasTooManyLines : List ℕ → Type 0
HasTooManyLines front = 100 < header_lines front

-- at most 100 do, and the bytes are no head
abbrev pub IsNoHead : List ℕ → Type 0
IsNoHead front = (header_lines front ≤ 100) × ((parsed : RequestHead) → Reads front parsed → ⊥)

-- at most 100 do, the bytes are a head, and this is the first row that refuses it
abbrev pub IsJudged : List ℕ → Form → Type 0
IsJudged front form = (header_lines front ≤ 100) × ((parsed : RequestHead) × Reads front parsed × (judged parsed ≡ Err form))

-- what the bytes of a head are refused for
abbrev pub RefusesFront : List ℕ → Form → Type 0
RefusesFront front form =
    ((form ≡ TooBig) × HasTooManyLines front) ⊎ ((form ≡ BadHead) × IsNoHead front) ⊎ IsJudged front form

-- a head that is refused stands after empty lines at the front
pub record RefusesHead (bytes : List ℕ) (form : Form) : Type 0 where
  pub blank : List ℕ
  pub front : List ℕ
  pub rest : List ℕ
  pub cut : Cuts bytes blank front rest
  pub within : length blank + length front ≤ 16384
  pub refused : RefusesFront front form

-- no head has its end there
abbrev pub NoHead : List ℕ → Type 0
NoHead bytes = (blank front rest : List ℕ) → Cuts bytes blank front rest → ⊥

-- the first 16,384 bytes don't hold the head's empty line
pub record IsOverlong (bytes : List ℕ) : Type 0 where
  pub long : 16384 ≤ length bytes
  pub none : NoHead (take 16384 bytes)

-- what the bytes are refused for
abbrev pub Refuses : List ℕ → Form → Type 0
Refuses bytes form = RefusesHead bytes form ⊎ ((form ≡ TooBig) × IsOverlong bytes)

-- fewer than 16,384 bytes, which are empty lines
pub record AreEmptyLines (bytes : List ℕ) : Type 0 where
  pub short : length bytes < 16384
  pub empty : blank_len bytes ≡ length bytes

-- fewer than 16,384 bytes, which end within a head
pub record EndsInHead (bytes : List ℕ) : Type 0 where
  pub short : length bytes < 16384
  pub begun : blank_len bytes ≢ length bytes
  pub none : NoHead bytes

-- a head has its end in the bytes
pub record HasHead (bytes : List ℕ) : Type 0 where
  pub blank : List ℕ
  pub front : List ℕ
  pub rest : List ℕ
  pub cut : Cuts bytes blank front rest

-- no byte after these is needed: a head has its end in them, or they are as many as a head may have
abbrev pub IsDecided : List ℕ → Type 0
IsDecided bytes = HasHead bytes ⊎ (16384 ≤ length bytes)
