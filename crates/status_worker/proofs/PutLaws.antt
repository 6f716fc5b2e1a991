-- Pieces that were put behind a text, one after the other, are put as one.
use Rattle.std.proofs.Common.{◌≡◌, ◌<◌, ℕ, ◌+◌, suc, List, [], ◌∷◌, ◌++◌, length, take, get_or, OnOk, Result, ap, arith, sym, subst, ◌∙◌, append_assoc}
use Rattle.std.proofs.Math.Seq.{take-suc}
use Rattle.std.proofs.lemmas.List.{flat_map_more}
use Rattle.std.specs.List.{flat_map}

-- a piece behind what was put before
joined : (r0 r r' front e : List ℕ) → r ≡ r0 ++ front → r' ≡ r ++ e → r' ≡ r0 ++ (front ++ e)
joined r0 r r' front e p more = more ∙ ap (λ (x : List ℕ). x ++ e) p ∙ append_assoc r0 front e

-- the last piece was put, or memory was wanted for it
pub put_two : {T E : Type 0} (result : Result T E) (r0 r r' front e : List ℕ) → r ≡ r0 ++ front → OnOk result (r' ≡ r ++ e)
    → OnOk result (r' ≡ r0 ++ (front ++ e))
put_two result r0 r r' front e p last =
    subst (λ (text : List ℕ). OnOk result (r' ≡ text)) (ap (λ (x : List ℕ). x ++ e) p ∙ append_assoc r0 front e) last

pub put_three : {T E : Type 0} (result : Result T E) (r0 r1 r2 r3 a b c : List ℕ) → r1 ≡ r0 ++ a → r2 ≡ r1 ++ b → OnOk result (r3 ≡ r2 ++ c)
    → OnOk result (r3 ≡ r0 ++ (a ++ b ++ c))
put_three result r0 r1 r2 r3 a b c p1 p2 last = put_two result r0 r2 r3 (a ++ b) c (joined r0 r1 r2 a b p1 p2) last

pub put_four : {T E : Type 0} (result : Result T E) (r0 r1 r2 r3 r4 a b c d : List ℕ) → r1 ≡ r0 ++ a → r2 ≡ r1 ++ b → r3 ≡ r2 ++ c
    → OnOk result (r4 ≡ r3 ++ d) → OnOk result (r4 ≡ r0 ++ (a ++ b ++ c ++ d))
put_four result r0 r1 r2 r3 r4 a b c d p1 p2 p3 last =
    put_two result r0 r3 r4 (a ++ b ++ c) d (joined r0 r2 r3 (a ++ b) c (joined r0 r1 r2 a b p1 p2) p3) last

pub put_five : {T E : Type 0} (result : Result T E) (r0 r1 r2 r3 r4 r5 a b c d e : List ℕ) → r1 ≡ r0 ++ a → r2 ≡ r1 ++ b → r3 ≡ r2 ++ c
    → r4 ≡ r3 ++ d → OnOk result (r5 ≡ r4 ++ e) → OnOk result (r5 ≡ r0 ++ (a ++ b ++ c ++ d ++ e))
put_five result r0 r1 r2 r3 r4 r5 a b c d e p1 p2 p3 p4 last =
    put_two result r0 r4 r5 (a ++ b ++ c ++ d) e
    (joined r0 r3 r4 (a ++ b ++ c) d (joined r0 r2 r3 (a ++ b) c (joined r0 r1 r2 a b p1 p2) p3) p4) last

pub put_seven : {T E : Type 0} (result : Result T E) (r0 r1 r2 r3 r4 r5 r6 r7 a b c d e f g : List ℕ) → r1 ≡ r0 ++ a → r2 ≡ r1 ++ b
    → r3 ≡ r2 ++ c → r4 ≡ r3 ++ d → r5 ≡ r4 ++ e → r6 ≡ r5 ++ f → OnOk result (r7 ≡ r6 ++ g)
    → OnOk result (r7 ≡ r0 ++ (a ++ b ++ c ++ d ++ e ++ f ++ g))
put_seven result r0 r1 r2 r3 r4 r5 r6 r7 a b c d e f g p1 p2 p3 p4 p5 p6 last =
    let four : r4 ≡ r0 ++ (a ++ b ++ c ++ d) =
    joined r0 r3 r4 (a ++ b ++ c) d (joined r0 r2 r3 (a ++ b) c (joined r0 r1 r2 a b p1 p2) p3) p4 in
    put_two result r0 r6 r7 (a ++ b ++ c ++ d ++ e ++ f) g
    (joined r0 r5 r6 (a ++ b ++ c ++ d ++ e) f (joined r0 r4 r5 (a ++ b ++ c ++ d) e four p5) p6) last

plus_one : (i : ℕ) → i + 1 ≡ suc i
plus_one i = omega arith

next_taken : {X : Type 0} (xs : List X) (i : ℕ) (x : X) → i < length xs → x ≡ get_or xs i x → take (i + 1) xs ≡ take i xs ++ x ∷ []
next_taken xs i x within is = ap (λ n. take n xs) (plus_one i) ∙ take-suc xs i x within ∙ ap (λ y. take i xs ++ y ∷ []) (sym is)

-- what one more item of a list has was put
pub next_put : {X : Type 0} (f : X → List ℕ) (r0 r r' : List ℕ) (xs : List X) (i : ℕ) (x : X) → i < length xs → x ≡ get_or xs i x
    → r ≡ r0 ++ flat_map f (take i xs) → r' ≡ r ++ f x → r' ≡ r0 ++ flat_map f (take (i + 1) xs)
next_put f r0 r r' xs i x within is before more =
    more ∙ ap (λ (t : List ℕ). t ++ f x) before ∙ flat_map_more f r0 (take i xs) x
    ∙ ap (λ ys. r0 ++ flat_map f ys) (sym (next_taken xs i x within is))
