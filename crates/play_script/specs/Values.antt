-- Single words, read: numbers, letters, and words KEY=VALUE.
use Rattle.std.specs.Prelude.{ℕ, Bool, true, false, ◌==◌, ◌||◌, nat_le, nat_eq, List, [], ◌∷◌, length, drop, Option, Some, None, codes, if◌then◌else◌, option_and_then}
use Rattle.std.specs.List.{starts_with}
use Rattle.std.specs.Str.{bytes_eq}
use Rattle.jk_io.specs.Decimals.{decimal_of}
use Rattle.lb_model.specs.declared.member.Activation.{Activation}
use Rattle.lb_model.specs.declared.member.Activation.TheVariants as activation
use Rattle.lb_model.specs.declared.member.Method.{Method}
use Rattle.lb_model.specs.declared.member.Method.TheVariants as method

infixl 10 ◌>>=◌
abbrev pub ◌>>=◌ : {A B : Type 0} → Option A → (A → Option B) → Option B
o >>= f = option_and_then f o

-- a decimal number up to a greatest
abbrev pub number_up_to : ℕ → List ℕ → Option ℕ
number_up_to most text = decimal_of text >>= (λ n. if nat_le n most then Some n else None)

-- a number of 32 bits
abbrev pub short_number : List ℕ → Option ℕ
short_number text = number_up_to 4294967295 text

-- the bytes of an exchange, at most 2^44
abbrev pub byte_count : List ℕ → Option ℕ
byte_count text = number_up_to 17592186044416 text

-- 0 or 1
abbrev pub flag_of : List ℕ → Option Bool
flag_of text = if bytes_eq text (codes "0") then Some false else (if bytes_eq text (codes "1") then Some true else None)

-- a method by its letter
abbrev pub method_of : List ℕ → Option Method
method_of text =
    if bytes_eq text (codes "R") then Some method.Request
    else (if bytes_eq text (codes "S") then Some method.Session
    else (if bytes_eq text (codes "T") then Some method.Traffic
    else (if bytes_eq text (codes "B") then Some method.Busyness
    else None)))

-- an activation by its first letter, in either case
abbrev pub activation_of : List ℕ → Option Activation
activation_of [] = None
activation_of (letter ∷ more) =
    if letter == 65 || letter == 97 then Some activation.Active
    else (if letter == 68 || letter == 100 then Some activation.Disabled
    else (if letter == 83 || letter == 115 then Some activation.Stopped
    else None))

-- nothing, where no word is left
abbrev pub end : List (List ℕ) → Option (Unit {0})
end [] = Some tt
end (word ∷ words) = None

-- the only word that is left
abbrev pub only : List (List ℕ) → Option (List ℕ)
only [] = None
only (word ∷ []) = Some word
only (word ∷ next ∷ more) = None

-- what follows the key in the first word, where it begins with the key
abbrev pub value_of : List ℕ → List (List ℕ) → Option (List ℕ)
value_of key [] = None
value_of key (word ∷ words) = if starts_with nat_eq word key then Some (drop (length key) word) else None

-- the words after that one
abbrev pub past : List ℕ → List (List ℕ) → List (List ℕ)
past key [] = []
past key (word ∷ words) = if starts_with nat_eq word key then words else word ∷ words
