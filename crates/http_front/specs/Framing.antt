-- How a request's body is framed (RFC 9112, section 6), in the strict profile: each doubt is refused.
use Rattle.std.specs.Prelude.{ℕ, zero, suc, Bool, nat_le, length, List, [], ◌∷◌, codes, false, Option, Some, None as Nothing, Result, Ok, Err, if◌then◌else◌}
use Rattle.jk_io.specs.Decimals.{decimal_of}
use Rattle.http_front.specs.Fields.{same_word}
use Rattle.http_front.specs.declared.answers.Form.{Form}
use Rattle.http_front.specs.declared.answers.Form.TheVariants.{TwoFramings, BadLength, OldChunked, BadCoding}
use Rattle.http_front.specs.declared.head.BodyPlan.{BodyPlan}
use Rattle.http_front.specs.declared.head.BodyPlan.TheVariants.{None, Exact, Chunked}

-- a body of this many bytes
abbrev pub exact_plan : ℕ → BodyPlan
exact_plan zero = None
exact_plan (suc n) = Exact (suc n)

-- the plan of a length, where it is one
abbrev pub length_plan : Option ℕ → Result BodyPlan Form
length_plan Nothing = Err BadLength
length_plan (Some n) = Ok (exact_plan n)

-- a length is 1 to 19 digits
abbrev pub length_of : List ℕ → Option ℕ
length_of value = if nat_le (length value) 19 then decimal_of value else Nothing

-- the plan of one Transfer-Encoding line
abbrev pub coding_plan : Bool → List ℕ → Result BodyPlan Form
coding_plan old value = if old then Err OldChunked else if same_word value (codes "chunked") then Ok Chunked else Err BadCoding

-- the plan by the values of Content-Length and of Transfer-Encoding
abbrev pub plan_of : Bool → List (List ℕ) → List (List ℕ) → Result BodyPlan Form
plan_of old [] [] = Ok None
plan_of old (value ∷ values) (coding ∷ codings) = Err TwoFramings
plan_of old (value ∷ []) [] = length_plan (length_of value)
plan_of old (value ∷ other ∷ values) [] = Err BadLength
plan_of old [] (coding ∷ []) = coding_plan old coding
plan_of old [] (coding ∷ other ∷ codings) = if old then Err OldChunked else Err BadCoding

-- a length of 2^40 or more
abbrev pub is_long : BodyPlan → Bool
is_long None = false
is_long (Exact n) = nat_le 1099511627776 n
is_long Chunked = false
