-- Numbers in 15 digits, in the order of their texts.
use Rattle.std.proofs.Common.{◌≡◌, ℕ, zero, suc, ◌+◌, ◌-◌, ◌*◌, ◌^◌, ◌<◌, ◌≤◌, List, [], ◌∷◌, ◌++◌, length, replicate, codes, decimal, refl, sym, ap, ◌∙◌, subst, inl, inr, arith, length-append, append_assoc}
use Rattle.std.proofs.Math.Nat.{mul-le-mul_right, pow-succ'}
use Rattle.std.proofs.lemmas.Bool.{cases_lt}
use Rattle.std.proofs.lemmas.List.{length-replicate}
use Rattle.std.proofs.lemmas.Fmt.{decimal_is_IsNumeral, length-decimal-le}
use Rattle.std.proofs.lemmas.Str.{digit_value_digit}
use Rattle.std.proofs.lemmas.Str.Parse.{digit_from_value}
use Rattle.std.specs.Char.{digit_value}
use Rattle.std.specs.Str.Parse.{AllDigits, digits_value, digits_value_after}
use Rattle.std.specs.Ordering.{nat_cmp, ordering_then}
use Rattle.std.specs.Cmp.{nat_cmp_is}
use Rattle.std.specs.Cmp.Lexicographic.{slice_cmp}
use Rattle.std.specs.declared.cmp.Ordering.{Ordering}
use Rattle.std.specs.declared.cmp.Ordering.TheVariants.{Less, Equal}
use Rattle.journal_text.specs.Names.{name_word}
use Rattle.gear_worlds.specs.Files.{first_word, file_name, file_path}

-- digits after a number add less than one of its units
pub after_least : (n : ℕ) (cs : List ℕ) → n * 10 ^ length cs ≤ digits_value_after 10 n cs
after_least n [] = omega arith
after_least n (c ∷ cs) =
    let more = after_least (n * 10 + digit_value c) cs in
    let unit = pow-succ' 10 (length cs) in
    rw unit (omega (arith, more))

pub after_most : (n : ℕ) (cs : List ℕ) → AllDigits 10 cs → digits_value_after 10 n cs < (n + 1) * 10 ^ length cs
after_most n [] h = omega arith
after_most n (c ∷ cs) h =
    let more = after_most (n * 10 + digit_value c) cs h.1 in
    let unit = pow-succ' 10 (length cs) in
    let few = mul-le-mul_right (10 ^ length cs) (let small : digit_value c + 1 ≤ 10 = omega (arith, h.0) in small) in
    rw unit (omega (arith, more, few))

pub same_then : (x : ℕ) (o : Ordering) → ordering_then (nat_cmp x x) o ≡ o
same_then x o = ap (λ r. ordering_then r o) (sym (nat_cmp_is x x Equal refl))

pub less_then : (x y : ℕ) (o : Ordering) → x < y → ordering_then (nat_cmp x y) o ≡ Less
less_then x y o h = ap (λ r. ordering_then r o) (sym (nat_cmp_is x y Less h))

-- of two numbers that begin alike the one with the greater digit is greater
not_greater : (n x y : ℕ) (xs ys : List ℕ) → length xs ≡ length ys → AllDigits 10 (x ∷ xs) → AllDigits 10 (y ∷ ys) → y < x
    → digits_value_after 10 n (x ∷ xs) < digits_value_after 10 n (y ∷ ys) → ⊥
not_greater n x y xs ys e hx hy greater below =
    let x_is = digit_value_digit x (digit_from_value x hx.0) in
    let y_is = digit_value_digit y (digit_from_value y hy.0) in
    let least = after_least (n * 10 + digit_value x) xs in
    let most = after_most (n * 10 + digit_value y) ys hy.1 in
    let units : 10 ^ length ys ≡ 10 ^ length xs = ap (λ k. 10 ^ k) (sym e) in
    let more = mul-le-mul_right (10 ^ length xs) (let m : n * 10 + digit_value y + 1 ≤ n * 10 + digit_value x = omega (arith, x_is, y_is, greater) in m) in
    let most' : digits_value_after 10 (n * 10 + digit_value y) ys < (n * 10 + digit_value y + 1) * 10 ^ length xs = rw (← units) most in
    omega (arith, least, most', more, below)

-- digits of one length are in the order of their numbers, whatever follows
pub digits_in_order : (n : ℕ) (xs ys rest : List ℕ) → length xs ≡ length ys → AllDigits 10 xs → AllDigits 10 ys
    → digits_value_after 10 n xs < digits_value_after 10 n ys → slice_cmp nat_cmp (xs ++ rest) (ys ++ rest) ≡ Less
digits_in_order n [] [] rest e hx hy below = absurd (let no : ⊥ = omega (arith, below) in no)
digits_in_order n [] (y ∷ ys) rest e hx hy below = absurd (let no : ⊥ = omega (arith, e) in no)
digits_in_order n (x ∷ xs) [] rest e hx hy below = absurd (let no : ⊥ = omega (arith, e) in no)
digits_in_order n (x ∷ xs) (y ∷ ys) rest e hx hy below =
    let same_length : length xs ≡ length ys = omega (arith, e) in
    elim (cases_lt x y) [
      | inl less ↦ less_then x y (slice_cmp nat_cmp (xs ++ rest) (ys ++ rest)) less
      | inr more ↦ elim (cases_lt y x) [
        | inl greater ↦ absurd (not_greater n x y xs ys same_length hx hy greater below)
        | inr fewer ↦
            let same : x ≡ y = omega (arith, more, fewer) in
            let Below : ℕ → Type 0 = λ d. digits_value_after 10 (n * 10 + digit_value d) xs < digits_value_after 10 (n * 10 + digit_value y) ys in
            let left = subst Below same below in
            rw same (same_then y (slice_cmp nat_cmp (xs ++ rest) (ys ++ rest)) ∙ digits_in_order (n * 10 + digit_value y) xs ys rest same_length hx.1 hy.1 left)
      ]
    ]

-- what comes first alike doesn't count
pub front_alike : (front xs ys : List ℕ) → slice_cmp nat_cmp xs ys ≡ Less → slice_cmp nat_cmp (front ++ xs) (front ++ ys) ≡ Less
front_alike [] xs ys h = h
front_alike (x ∷ front) xs ys h = same_then x (slice_cmp nat_cmp (front ++ xs) (front ++ ys)) ∙ front_alike front xs ys h

-- zeros in front
zeros_digits : (n : ℕ) (cs : List ℕ) → AllDigits 10 cs → AllDigits 10 (replicate n 48 ++ cs)
zeros_digits zero cs h = h
zeros_digits (suc n) cs h = (omega arith, zeros_digits n cs h)

zeros_value : (n : ℕ) (cs : List ℕ) → digits_value 10 (replicate n 48 ++ cs) ≡ digits_value 10 cs
zeros_value zero cs = refl
zeros_value (suc n) cs = zeros_value n cs

is_number : (first : ℕ) → first ≤ 2 ^ 48 → AllDigits 10 (first_word first) × (digits_value 10 (first_word first) ≡ first)
is_number first few =
    let d = decimal_is_IsNumeral first (omega (arith, few)) in
    (zeros_digits (15 - length (decimal first)) (decimal first) d.0.1, zeros_value (15 - length (decimal first)) (decimal first) ∙ d.1)

pub first_length : (first : ℕ) → first ≤ 2 ^ 48 → length (first_word first) ≡ 15
first_length first few =
    let short = length-decimal-le 15 first (omega arith) (omega (arith, few)) (omega (arith, few)) in
    length-append (replicate (15 - length (decimal first)) 48) (decimal first)
    ∙ ap (λ n. n + length (decimal first)) (length-replicate (15 - length (decimal first)) 48)
    ∙ omega (arith, short)

pub firsts_in_order : (first later : ℕ) (rest : List ℕ) → first < later → later ≤ 2 ^ 48
    → slice_cmp nat_cmp (first_word first ++ rest) (first_word later ++ rest) ≡ Less
firsts_in_order first later rest below few =
    let fewer : first ≤ 2 ^ 48 = omega (arith, below, few) in
    let one = is_number first fewer in
    let other = is_number later few in
    let values : digits_value_after 10 0 (first_word first) < digits_value_after 10 0 (first_word later) = rw (one.1, other.1) below in
    digits_in_order 0 (first_word first) (first_word later) rest (first_length first fewer ∙ sym (first_length later few)) one.0 other.0 values

name_alike : (name first later rest : List ℕ) → slice_cmp nat_cmp (first ++ rest) (later ++ rest) ≡ Less
    → slice_cmp nat_cmp (name ++ (45 ∷ []) ++ first ++ rest) (name ++ (45 ∷ []) ++ later ++ rest) ≡ Less
name_alike name first later rest h =
    simp append_assoc (front_alike name (45 ∷ (first ++ rest)) (45 ∷ (later ++ rest)) (front_alike (45 ∷ []) (first ++ rest) (later ++ rest) h))

pub files_in_order : (dir name : List ℕ) (first later : ℕ) → first < later → later ≤ 2 ^ 48
    → slice_cmp nat_cmp (file_path dir name first) (file_path dir name later) ≡ Less
files_in_order dir name first later below few =
    front_alike (dir ++ (47 ∷ [])) (file_name name first) (file_name name later)
    (name_alike (name_word name) (first_word first) (first_word later) (codes ".jkj") (firsts_in_order first later (codes ".jkj") below few))
