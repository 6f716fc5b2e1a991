-- A thread's requests: how many there are, and the next one.
use Rattle.std.proofs.Common.{◌≡◌, ℕ, zero, suc, ◌+◌, ◌-◌, ◌*◌, ◌/◌, ◌%◌, ◌<◌, ◌≤◌, ◌==◌, ltb, Bool, true, false, cond, List, [], ◌∷◌, ◌++◌, length, map, filter, add-mul, one-mul, refl, sym, subst, ap, ◌∙◌, add-one, arith, inl, inr, lt-ltb, le-ltb, mod-lt, length-append, append_assoc, append-nil, sum_by, take, drop}
use Rattle.std.specs.List.{range_with_len}
use Rattle.std.proofs.lemmas.Bool.{cases_lt, cases_order, eq-eqb, ne_eqb}
use Rattle.std.proofs.lemmas.List.{drop-drop, drop_all, length-drop, take_all}
use Rattle.std.proofs.Math.Seq.{take-add}
use Rattle.std.proofs.lemmas.List.FromFn.{filter_of_map_range_with_len_more}
use Rattle.std.proofs.lemmas.Nat.{div-add-mod', div-mul-add, mod-mul-add}
use Rattle.std.proofs.Math.Nat.{zero-div, zero-mod}
use Rattle.drill.specs.Requests.{bodies_of, following, number_at, requests_from, request_text, size_at, texts_of}
use Rattle.std.proofs.lemmas.List.FromFn.{sum_by-map-range_with_len_more}
use Rattle.std.proofs.lemmas.List.Concat.{flat_map-append}

map-same : (xs : List ℕ) → map (λ (x : ℕ). x) xs ≡ xs
map-same [] = refl
map-same (x ∷ xs) = ap (λ (l : List ℕ). x ∷ l) (map-same xs)

-- ---- how many

abbrev one_if : Bool → ℕ
one_if b = cond b 1 0

length_if : (b : Bool) (j : ℕ) → length (cond b (j ∷ []) []) ≡ cond b 1 0
length_if true j = refl
length_if false j = refl

-- the requests of one more
counts_more : (m t n : ℕ) → length (requests_from m t 0 (n + 1)) ≡ length (requests_from m t 0 n) + cond (n % m == t) 1 0
counts_more m t n =
    let f : ℕ → ℕ = λ (x : ℕ). x in
    let p : ℕ → Bool = λ (j : ℕ). j % m == t in
    let same : (k : ℕ) → map f (range_with_len 0 k) ≡ range_with_len 0 k = λ k. map-same (range_with_len 0 k) in
    let more = filter_of_map_range_with_len_more p f 0 n n (omega arith) in
    let here : requests_from m t 0 (n + 1) ≡ requests_from m t 0 n ++ cond (n % m == t) (n ∷ []) [] =
    sym (ap (filter p) (same (n + 1))) ∙ more ∙ ap (λ (ys : List ℕ). filter p ys ++ cond (n % m == t) (n ∷ []) []) (same n) in
    ap length here ∙ length-append (requests_from m t 0 n) (cond (n % m == t) (n ∷ []) [])
    ∙ ap (λ (k : ℕ). length (requests_from m t 0 n) + k) (length_if (n % m == t) n)

-- a number below r or r itself is below r + 1
below_more : (t r : ℕ) → cond (ltb t r) 1 0 + cond (r == t) 1 0 ≡ cond (ltb t (r + 1)) 1 0
below_more t r = elim (cases_order t r) [
  | inl same ↦ rw (le-ltb t r (omega (arith, same)), eq-eqb r t (sym same), lt-ltb t (r + 1) (omega (arith, same))) refl
  | inr (inl below) ↦ rw (lt-ltb t r below, ne_eqb r t (λ same. omega (arith, same, below)), lt-ltb t (r + 1) (omega (arith, below))) refl
  | inr (inr above) ↦ rw (le-ltb t r (omega (arith, above)), ne_eqb r t (λ same. omega (arith, same, above)), le-ltb t (r + 1) (omega (arith, above))) refl
]

-- the share of a thread of q * m + r requests and one more
share_more : (m t q r : ℕ) → t < m → r < m
    → q + cond (ltb t r) 1 0 + cond (r == t) 1 0 ≡ (q * m + r + 1) / m + cond (ltb t ((q * m + r + 1) % m)) 1 0
share_more m t q r lt below = elim (cases_lt (r + 1) m) [
  | inl within ↦
      let n_is : q * m + r + 1 ≡ q * m + (r + 1) = omega arith in
      let quot : (q * m + r + 1) / m ≡ q = ap (λ (n : ℕ). n / m) n_is ∙ div-mul-add q m (r + 1) within in
      let rem : (q * m + r + 1) % m ≡ r + 1 = ap (λ (n : ℕ). n % m) n_is ∙ mod-mul-add q m (r + 1) within in
      let one = below_more t r in
      rw (quot, rem) (omega (arith, one))
  | inr full ↦
      let n_is : q * m + r + 1 ≡ (q + 1) * m + 0 = nonlinear q m r (omega (arith, full, below)) in
      let some : 0 < m = omega (arith, lt) in
      let quot : (q * m + r + 1) / m ≡ q + 1 = ap (λ (n : ℕ). n / m) n_is ∙ div-mul-add (q + 1) m 0 some in
      let rem : (q * m + r + 1) % m ≡ 0 = ap (λ (n : ℕ). n % m) n_is ∙ mod-mul-add (q + 1) m 0 some in
      let one = below_more t r in
      let yes : ltb t (r + 1) ≡ true = lt-ltb t (r + 1) (omega (arith, lt, full)) in
      let no : ltb t 0 ≡ false = le-ltb t 0 (omega arith) in
      let sum : cond (ltb t r) 1 0 + cond (r == t) 1 0 ≡ 1 = one ∙ ap one_if yes in
      rw (quot, rem, no) (omega (arith, sum))
]
  where
    nonlinear : (q m r : ℕ) → r + 1 ≡ m → q * m + r + 1 ≡ (q + 1) * m + 0
    nonlinear q m r is = let cut = add-mul q 1 m in let one = one-mul m in omega (arith, cut, one, is)

pub share : (m t n : ℕ) → t < m → length (requests_from m t 0 n) ≡ n / m + cond (ltb t (n % m)) 1 0
share m t zero lt =
    let some : 0 < m = omega (arith, lt) in
    let quot : 0 / m ≡ 0 = zero-div m in
    let rem : 0 % m ≡ 0 = zero-mod m in
    let no : ltb t 0 ≡ false = le-ltb t 0 (omega arith) in
    rw (quot, rem, no) refl
share m t (suc n) lt =
    let some : 0 < m = omega (arith, lt) in
    let so_far = share m t n lt in
    let is = div-add-mod' n m in
    let step = share_more m t (n / m) (n % m) lt (mod-lt n some) in
    let next : n / m * m + n % m + 1 ≡ suc n = ap (λ (k : ℕ). k + 1) is ∙ add-one n in
    subst (λ (k : ℕ). length (requests_from m t 0 k) ≡ k / m + cond (ltb t (k % m)) 1 0) (add-one n)
    (counts_more m t n ∙ ap (λ (k : ℕ). k + cond (n % m == t) 1 0) so_far ∙ step
    ∙ ap (λ (k : ℕ). k / m + cond (ltb t (k % m)) 1 0) (ap (λ (k : ℕ). k + 1) is))

-- ---- the next one

pub requests-next : (m t i n : ℕ) → i < n
    → requests_from m t i (n - i) ≡ cond (i % m == t) (i ∷ requests_from m t (i + 1) (n - (i + 1))) (requests_from m t (i + 1) (n - (i + 1)))
requests-next m t i n lt =
    let is : n - i ≡ suc (n - (i + 1)) = omega (arith, lt) in
    ap (λ (k : ℕ). requests_from m t i k) is

pub number-next : (seed i : ℕ) → number_at seed (i + 1) ≡ following (number_at seed i)
number-next seed i = ap (number_at seed) (add-one i)

-- ---- sizes and texts

pub bodies-next : (seed n : ℕ) → bodies_of seed (n + 1) ≡ bodies_of seed n + size_at seed n
bodies-next seed n =
    let f : ℕ → ℕ = λ (x : ℕ). x in
    let g : ℕ → ℕ = λ (i : ℕ). size_at seed i in
    let same : (k : ℕ) → map f (range_with_len 0 k) ≡ range_with_len 0 k = λ k. map-same (range_with_len 0 k) in
    sym (ap (sum_by g) (same (n + 1))) ∙ sum_by-map-range_with_len_more g f 0 n n (omega arith)
    ∙ ap (λ (ys : List ℕ). sum_by g ys + size_at seed n) (same n)

-- ---- what is left of a thread's requests

pub next_mine : (m t i n : ℕ) (left : List ℕ) → i < n → i % m ≡ t → requests_from m t i (n - i) ≡ left
    → left ≡ i ∷ requests_from m t (i + 1) (n - (i + 1))
next_mine m t i n left lt mine is =
    let rest : List ℕ = requests_from m t (i + 1) (n - (i + 1)) in
    sym is ∙ requests-next m t i n lt ∙ ap (λ (b : Bool). cond b (i ∷ rest) rest) (eq-eqb (i % m) t mine)

pub next_other : (m t i n : ℕ) (left : List ℕ) → i < n → (i % m ≡ t → ⊥) → requests_from m t i (n - i) ≡ left
    → requests_from m t (i + 1) (n - (i + 1)) ≡ left
next_other m t i n left lt other is =
    let rest : List ℕ = requests_from m t (i + 1) (n - (i + 1)) in
    sym (ap (λ (b : Bool). cond b (i ∷ rest) rest) (ne_eqb (i % m) t other)) ∙ sym (requests-next m t i n lt) ∙ is

-- one more of a list was taken
pub took : (k : ℕ) (xs : List ℕ) (i : ℕ) (rest : List ℕ) → drop k xs ≡ i ∷ rest
    → (take (k + 1) xs ≡ take k xs ++ i ∷ []) × (drop (k + 1) xs ≡ rest) × (k + 1 ≤ length xs)
took k xs i rest is =
    let len = length-drop k xs in
    let more : length (drop k xs) ≡ suc (length rest) = ap length is in (
      take-add k 1 xs ∙ ap (λ (ys : List ℕ). take k xs ++ take 1 ys) is,
      sym (drop-drop 1 k xs) ∙ ap (λ (ys : List ℕ). drop 1 ys) is,
      omega (arith, len, more),
    )

-- nothing more is there
pub drained : (k m : ℕ) (xs : List ℕ) → drop k xs ≡ [] → k ≤ m → (take m xs ≡ take k xs) × (drop m xs ≡ [])
drained k m xs none le =
    let len = length-drop k xs in
    let empty : length (drop k xs) ≡ 0 = ap length none in
    let short : length xs ≤ k = omega (arith, len, empty) in
    let shorter : length xs ≤ m = omega (arith, len, empty, le) in
    (take_all m xs shorter ∙ sym (take_all k xs short), drop_all m xs shorter)

pub texts-more : (seed : ℕ) (xs : List ℕ) (i : ℕ) → texts_of seed (xs ++ i ∷ []) ≡ texts_of seed xs ++ request_text (size_at seed i)
texts-more seed xs i =
    flat_map-append (λ (j : ℕ). request_text (size_at seed j)) xs (i ∷ [])
    ∙ ap (λ (ys : List ℕ). texts_of seed xs ++ ys) (append-nil (request_text (size_at seed i)))

-- one more request of a session was put
pub text_put : (seed k : ℕ) (before text now all : List ℕ) (i : ℕ) (rest : List ℕ) → text ≡ before ++ texts_of seed (take k all)
    → drop k all ≡ i ∷ rest → now ≡ text ++ request_text (size_at seed i) → now ≡ before ++ texts_of seed (take (k + 1) all)
text_put seed k before text now all i rest is left put =
    let one = took k all i rest left in
    put ∙ ap (λ (ys : List ℕ). ys ++ request_text (size_at seed i)) is ∙ append_assoc before (texts_of seed (take k all)) (request_text (size_at seed i))
    ∙ ap (λ (ys : List ℕ). before ++ ys) (sym (texts-more seed (take k all) i)) ∙ ap (λ (ys : List ℕ). before ++ texts_of seed ys) (sym one.0)
