-- A desk that left: it forgot nothing, and has one part.
use Rattle.std.proofs.Common.{◌≡◌, ℕ, ◌+◌, ◌<◌, Option, Some, Result, Ok, Err, ◌∙◌, arith}
use Rattle.std.specs.Prelude.{IfOk}

-- where each entry has its receipt, none was forgotten
pub none-forgotten : (amount receipts forgotten added : ℕ) → amount ≡ added → added ≡ receipts → amount ≡ receipts + forgotten → forgotten ≡ 0
none-forgotten amount receipts forgotten added a b c = omega (arith, a, b, c)

-- one part was there, and is left
pub one-left : (parts : Option ℕ) (left : ℕ) → parts ≡ Some 1 → parts ≡ Some left → left ≡ 1
one-left parts left one is = cc

-- what counts one number counts the same one
pub as_many : {T E : Type 0} (r : Result T E) (f : T → ℕ) (n m : ℕ) → IfOk r (λ x. f x ≡ n) → n ≡ m → IfOk r (λ x. f x ≡ m)
as_many (Ok x) f n m is same = is ∙ same
as_many (Err e) f n m is same = is

-- and some of what is not none
pub some_left : {T E : Type 0} (r : Result T E) (f : T → ℕ) (n : ℕ) → IfOk r (λ x. f x ≡ n) → 0 < n → IfOk r (λ x. 0 < f x)
some_left (Ok x) f n is some = omega (arith, is, some)
some_left (Err e) f n is some = is
