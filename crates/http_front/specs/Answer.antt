-- The answers of a read of a head, over the client's bytes that are not yet used.
use Rattle.std.specs.Prelude.{ℕ, ◌≡◌, List, Option, Result, Ok, Err, ⊤}
use Rattle.jk_io.specs.Told.{prepended, IsEmpty}
use Rattle.http_front.specs.Request.{IsHeadOf, AreEmptyLines}
use Rattle.http_front.specs.declared.answers.Form.{Form}
use Rattle.http_front.specs.declared.answers.HeadGot.{HeadGot}
use Rattle.http_front.specs.declared.answers.HeadGot.TheVariants as got
use Rattle.http_front.specs.declared.answers.HeadError.{HeadError}
use Rattle.http_front.specs.declared.answers.HeadError.TheVariants.{Refused, Truncated, Fault, NoMemory}
use Rattle.http_front.specs.declared.head.Head.{Head}

-- exactly the head's bytes and the empty lines before it are used
pub record UsesHead (before now : Option (List ℕ)) (head : Head) : Type 0 where
  pub bytes : List ℕ
  pub is : IsHeadOf bytes head
  pub used : before ≡ prepended bytes now

-- only empty lines were there, they are used, and no byte is left
pub record UsesEnd (before now : Option (List ℕ)) : Type 0 where
  pub bytes : List ℕ
  pub empty : AreEmptyLines bytes
  pub used : before ≡ prepended bytes now
  pub over : IsEmpty now

-- P of the head, where one was read
abbrev pub IfHead : Result HeadGot HeadError → (Head → Type 0) → Type 0
IfHead (Ok (got.Head head)) P = P head
IfHead (Ok got.End) P = ⊤
IfHead (Err e) P = ⊤

-- P, where the bytes ended between two requests
abbrev pub OnEnd : Result HeadGot HeadError → Type 0 → Type 0
OnEnd (Ok (got.Head head)) P = ⊤
OnEnd (Ok got.End) P = P
OnEnd (Err e) P = ⊤

-- P of the status and the form, where the head is refused
abbrev pub IfRefused : Result HeadGot HeadError → (ℕ → Form → Type 0) → Type 0
IfRefused (Ok g) P = ⊤
IfRefused (Err (Refused status form)) P = P status form
IfRefused (Err Truncated) P = ⊤
IfRefused (Err Fault) P = ⊤
IfRefused (Err NoMemory) P = ⊤

-- no read failed: the answer is by the client's bytes alone, or memory was wanted
abbrev pub IsCalmHead : {T : Type 0} → Result T HeadError → Type 0
IsCalmHead (Ok value) = ⊤
IsCalmHead (Err (Refused status form)) = ⊤
IsCalmHead (Err Truncated) = ⊤
IsCalmHead (Err Fault) = ⊥
IsCalmHead (Err NoMemory) = ⊤
