-- A head made of its bytes: the head or the refusal that the definition gives, unless memory is wanted.
use Rattle.std.specs.Prelude.{ℕ, ◌≡◌, ◌≤◌, List, Result, Ok, Err, ⊤}
use Rattle.http_front.specs.Cut.{header_lines}
use Rattle.http_front.specs.Refusal.{status_of}
use Rattle.http_front.specs.Request.{Reads, RefusesFront, judged}
use Rattle.httparse.specs.Grammar.{RequestHead}
use Rattle.http_front.specs.declared.answers.Form.{Form}
use Rattle.http_front.specs.declared.answers.HeadError.{HeadError}
use Rattle.http_front.specs.declared.answers.HeadError.TheVariants.{Refused, Truncated, Fault, NoMemory}
use Rattle.http_front.specs.declared.head.Head.{Head}

-- the head or the refusal that is wanted, unless memory is wanted
abbrev pub Makes : Result Head Form → Result Head HeadError → Type 0
Makes wanted (Ok head) = wanted ≡ Ok head
Makes wanted (Err (Refused status form)) = (status ≡ status_of form) × (wanted ≡ Err form)
Makes wanted (Err Truncated) = ⊥
Makes wanted (Err Fault) = ⊥
Makes wanted (Err NoMemory) = ⊤

-- what the bytes of a head are
pub record IsHeadFront (front : List ℕ) (head : Head) : Type 0 where
  pub few : header_lines front ≤ 100
  pub parsed : RequestHead
  pub reads : Reads front parsed
  pub is : judged parsed ≡ Ok head

-- the head that the bytes are, or what they are refused for
abbrev pub MakesOf : List ℕ → Result Head HeadError → Type 0
MakesOf front (Ok head) = IsHeadFront front head
MakesOf front (Err (Refused status form)) = (status ≡ status_of form) × RefusesFront front form
MakesOf front (Err Truncated) = ⊥
MakesOf front (Err Fault) = ⊥
MakesOf front (Err NoMemory) = ⊤
