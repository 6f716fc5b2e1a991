-- That the least common multiple is one, and the least.
use Prim.Native.Nat.{◌∣◌}
use Rattle.std.proofs.Common.{inl, inr, zero-mul}
use Rattle.std.proofs.lemmas.Bool.{cases_lt}
use Rattle.std.proofs.lemmas.List.Elements.{All-cons}
use Rattle.std.proofs.lemmas.Nat.{mod-mul-add}
use Rattle.std.proofs.lemmas.Nat.Gcd.{dvd_refl, dvd-zero, dvd_trans}
use Rattle.std.proofs.Math.Nat.{div-add-mod, dvd-mul_left, dvd-mul_right, dvd_of_mul-dvd-mul_right, mul-dvd-mul_right, mul-lt-mul_of_pos_right, one-dvd, pos_of_dvd_of_pos}
use Rattle.std.proofs.Common.{◌≡◌, ℕ, suc, zero, ◌*◌, ◌/◌, ◌%◌, ◌<◌, ◌≤◌, List, [], ◌∷◌, fold, All, ◌+◌, length, take, drop, get_or, refl, sym, subst, ap, ◌∙◌, arith}
use Rattle.std.specs.Int.{IsGcd}
use Rattle.std.proofs.lemmas.Nat.Gcd.{IsGcd-from_zero, IsGcd-from_mod, same_from_IsGcd, le_of_dvd}
use Rattle.std.proofs.Math.Nat.{div-mul_cancel, mul-le-mul_left}
use Rattle.std.proofs.lemmas.Nat.{mod_below}
use Rattle.std.proofs.lemmas.List.{take_more, take-append-drop}
use Rattle.std.proofs.lemmas.List.Sums.{fold-append}
use Rattle.std.proofs.lemmas.List.Elements.{All-drop}
use Rattle.lb_model.specs.Multiple.{divisor_by, multiple_of_two, multiple_of}

-- Euclid's steps end with the greatest common divisor.
pub IsGcd-divisor_by : (n a b : ℕ) → b < n → IsGcd a b (divisor_by n a b)
unfolding divisor_by
IsGcd-divisor_by zero a b lt = absurd (omega arith)
IsGcd-divisor_by (suc n) a zero lt = IsGcd-from_zero a zero refl
IsGcd-divisor_by (suc n) a (suc b) lt =
    let rest : a % suc b < suc b = mod_below a (suc b) (omega arith) in
    IsGcd-from_mod a (suc b) (divisor_by n (suc b) (a % suc b)) (IsGcd-divisor_by n (suc b) (a % suc b) (omega arith))

-- The greatest common divisor gives the least common multiple.
pub multiple_of_two-by : (a b g : ℕ) → IsGcd a b g → a / g * b ≡ multiple_of_two a b
unfolding multiple_of_two
multiple_of_two-by a b g h =
    ap (λ d. a / d * b) (same_from_IsGcd a b g (divisor_by (suc b) a b) h (IsGcd-divisor_by (suc b) a b (omega arith)))

-- The first of two is at most their common multiple.
pub le-multiple_of_two : (a b : ℕ) → 0 < b → a ≤ multiple_of_two a b
unfolding multiple_of_two
le-multiple_of_two a b some =
    let g : ℕ = divisor_by (suc b) a b in
    let is : IsGcd a b g = IsGcd-divisor_by (suc b) a b (omega arith) in
    let whole : a / g * g ≡ a = div-mul_cancel g is.0 in
    let small : g ≤ b = le_of_dvd some is.1 in
    let more : a / g * g ≤ a / g * b = mul-le-mul_left (a / g) small in
    subst (λ (n : ℕ). n ≤ a / g * b) whole more

-- No common multiple is below the number that it began with.
pub le-fold : (c : ℕ) (xs : List ℕ) → All (λ f. 0 < f) xs → c ≤ fold multiple_of_two c xs
le-fold c [] all = omega arith
le-fold c (x ∷ xs) all =
    let first : 0 < x = all 0 0 (omega arith) in
    let others : All (λ f. 0 < f) xs = λ k d lt. all (suc k) d (omega arith) in
    omega (arith, le-multiple_of_two c x first, le-fold (multiple_of_two c x) xs others)

-- One factor more.
pub multiple_of-take : (xs : List ℕ) (i : ℕ) → i < length xs
    → multiple_of (take (i + 1) xs) ≡ multiple_of_two (multiple_of (take i xs)) (get_or xs i 0)
multiple_of-take xs i lt =
    rw (take_more xs i 0 lt, fold-append multiple_of_two 1 (take i xs) (get_or xs i 0 ∷ [])) refl

-- The common multiple of the first factors is at most that of all.
pub le-multiple_of : (xs : List ℕ) (i : ℕ) → All (λ f. 0 < f) xs → multiple_of (take i xs) ≤ multiple_of xs
le-multiple_of xs i all =
    let whole : fold multiple_of_two (multiple_of (take i xs)) (drop i xs) ≡ multiple_of xs =
    sym (fold-append multiple_of_two 1 (take i xs) (drop i xs)) ∙ ap multiple_of (take-append-drop i xs) in
    subst (λ (n : ℕ). multiple_of (take i xs) ≤ n) whole (le-fold (multiple_of (take i xs)) (drop i xs) (All-drop (λ f. 0 < f) i xs all))

-- One factor more, from the common multiple of the factors before it.
pub multiple_of-next : (xs : List ℕ) (i c w : ℕ) → i < length xs → c ≡ multiple_of (take i xs)
    → w ≡ multiple_of_two c (get_or xs i 0) → w ≡ multiple_of (take (i + 1) xs)
multiple_of-next xs i c w lt so_far is =
    is ∙ ap (λ (n : ℕ). multiple_of_two n (get_or xs i 0)) so_far ∙ sym (multiple_of-take xs i lt)

zero_from_le : (q : ℕ) → q ≤ 0 → q ≡ 0
zero_from_le q le = omega arith

-- A remainder is scaled with its numbers.
mod-scaled : (a b q : ℕ) → 0 < b → 0 < q → (a * q) % (b * q) ≡ a % b * q
mod-scaled a b q some above =
    let small : a % b < b = mod_below a b some in
    let smaller : a % b * q < b * q = mul-lt-mul_of_pos_right {m = a % b} {n = b} {k = q} small above in
    let parts : (b * (a / b) + a % b) * q ≡ a * q = ap (λ (z : ℕ). z * q) (div-add-mod a b) in
    let whole : a * q ≡ a / b * (b * q) + a % b * q = omega arith in
    ap (λ (z : ℕ). z % (b * q)) whole ∙ mod-mul-add (a / b) (b * q) (a % b * q) smaller

-- Euclid's steps on two multiples end with the multiple.
IsGcd-scaled : (n a b q : ℕ) → b < n → 0 < q → IsGcd (a * q) (b * q) (divisor_by n a b * q)
unfolding divisor_by
IsGcd-scaled zero a b q lt above = absurd (omega arith)
IsGcd-scaled (suc n) a zero q lt above = IsGcd-from_zero (a * q) (zero * q) (zero-mul q)
IsGcd-scaled (suc n) a (suc b) q lt above =
    let rest : a % suc b < suc b = mod_below a (suc b) (omega arith) in
    IsGcd-from_mod (a * q) (suc b * q) (divisor_by n (suc b) (a % suc b) * q)
    (subst (λ (r : ℕ). IsGcd (suc b * q) r (divisor_by n (suc b) (a % suc b) * q)) (sym (mod-scaled a (suc b) q (omega arith) above))
    (IsGcd-scaled n (suc b) (a % suc b) q (omega arith) above))

-- The common multiple of two is one of each, and divides every other.
pub multiple_of_two-first : (a b : ℕ) → a ∣ multiple_of_two a b
unfolding multiple_of_two
multiple_of_two-first a b =
    let g : ℕ = divisor_by (suc b) a b in
    let is : IsGcd a b g = IsGcd-divisor_by (suc b) a b (omega arith) in
    let in_a : a * (b / g) ≡ a / g * g * (b / g) = ap (λ (z : ℕ). z * (b / g)) (sym (div-mul_cancel g is.0)) in
    let in_b : a / g * b ≡ a / g * (b / g * g) = ap (λ (z : ℕ). a / g * z) (sym (div-mul_cancel g is.1)) in
    let same : a * (b / g) ≡ a / g * b = omega arith in
    subst (λ (n : ℕ). a ∣ n) same (dvd-mul_right a (b / g))

pub multiple_of_two-second : (a b : ℕ) → b ∣ multiple_of_two a b
unfolding multiple_of_two
multiple_of_two-second a b = dvd-mul_left b (a / divisor_by (suc b) a b)

pub multiple_of_two-least : (a b n : ℕ) → 0 < b → a ∣ n → b ∣ n → multiple_of_two a b ∣ n
unfolding multiple_of_two
multiple_of_two-least a b n some divides_a divides_b =
    let g : ℕ = divisor_by (suc b) a b in
    let is : IsGcd a b g = IsGcd-divisor_by (suc b) a b (omega arith) in
    let above : 0 < g = pos_of_dvd_of_pos is.1 some in
    let q : ℕ = n / b in
    let whole : q * b ≡ n = div-mul_cancel b divides_b in
    elim (cases_lt 0 q) [
      | inl more ↦
          let scaled : IsGcd (a * q) (b * q) (g * q) = IsGcd-scaled (suc b) a b q (omega arith) more in
          let turned : n ≡ b * q = omega arith in
          let common : a ∣ g * q = scaled.2 a (dvd-mul_right a q) (subst (λ (z : ℕ). a ∣ z) turned divides_a) in
          let swapped : g * q ≡ q * g = omega arith in
          let split : a / g * g ∣ q * g =
          subst (λ (z : ℕ). z ∣ q * g) (sym (div-mul_cancel g is.0)) (subst (λ (z : ℕ). a ∣ z) swapped common) in
          let part : a / g ∣ q = dvd_of_mul-dvd-mul_right (a / g) above split in
          subst (λ (z : ℕ). a / g * b ∣ z) whole (mul-dvd-mul_right (a / g) part b)
      | inr none ↦
          let nothing : n ≡ 0 = sym whole ∙ ap (λ (z : ℕ). z * b) (zero_from_le q none) ∙ zero-mul b in
          subst (λ (z : ℕ). a / g * b ∣ z) (sym nothing) (dvd-zero (a / g * b))
    ]

-- Each number divides the common multiple of a list, and that divides every other common multiple.
fold-first : (c : ℕ) (xs : List ℕ) → c ∣ fold multiple_of_two c xs
fold-first c [] = dvd_refl c
fold-first c (x ∷ xs) = dvd_trans c (multiple_of_two-first c x) (fold-first (multiple_of_two c x) xs)

fold-each : (c : ℕ) (xs : List ℕ) → All (λ f. f ∣ fold multiple_of_two c xs) xs
fold-each c [] = λ k d lt. absurd (omega arith)
fold-each c (x ∷ xs) =
    All-cons (λ f. f ∣ fold multiple_of_two (multiple_of_two c x) xs) x xs
    (dvd_trans x (multiple_of_two-second c x) (fold-first (multiple_of_two c x) xs))
    (fold-each (multiple_of_two c x) xs)

pub multiple_of-each : (xs : List ℕ) → All (λ f. f ∣ multiple_of xs) xs
multiple_of-each xs = fold-each 1 xs

fold-least : (c n : ℕ) (xs : List ℕ) → All (λ f. 0 < f) xs → c ∣ n → All (λ f. f ∣ n) xs → fold multiple_of_two c xs ∣ n
fold-least c n [] above first all = first
fold-least c n (x ∷ xs) above first all =
    fold-least (multiple_of_two c x) n xs (λ k d lt. above (suc k) d (omega arith))
    (multiple_of_two-least c x n (above 0 0 (omega arith)) first (all 0 0 (omega arith)))
    (λ k d lt. all (suc k) d (omega arith))

pub multiple_of-least : (n : ℕ) (xs : List ℕ) → All (λ f. 0 < f) xs → All (λ f. f ∣ n) xs → multiple_of xs ∣ n
multiple_of-least n xs above all = fold-least 1 n xs above (one-dvd n) all
