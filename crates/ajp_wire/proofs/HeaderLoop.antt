-- Reading headers one after the other, as a loop does.
use Rattle.std.proofs.Common.{Bor}
use Rattle.std.proofs.Common.{◌≡◌, ℕ, zero, suc, length, map, drop, eqb, false, ◌-◌, ◌+◌, ◌≤◌, ◌<◌, List, [], ◌∷◌, ◌++◌, Bool, Ok, Err, refl, sym, ap, ◌∙◌, append_assoc, arith}
use Rattle.std.proofs.lemmas.List.{append-nil}
use Rattle.ajp_wire.specs.declared.refusal.NotRead.{NotRead}
use Rattle.ajp_wire.specs.declared.refusal.NotRead.TheVariants as why
use Rattle.ajp_wire.specs.Reading.{Reading, ◌>>=◌, Halts, named_from, header_at, header_list_at}

-- what was read before, and what is still read
abbrev pub with_front : {A : Type 0} → List A → Reading (List A) → Reading (List A)
with_front front read = read >>= λ x. Ok (front ++ x.0, x.1)

pub regroup : {A : Type 0} (front : List A) (x : A) (read : Reading (List A)) → with_front front (read >>= λ others. Ok (x ∷ others.0, others.1)) ≡ with_front (front ++ x ∷ []) read
regroup {A} front x (Ok others) = ap (λ (xs : List A). Ok (xs, others.1)) (simp append_assoc)
regroup front x (Err r) = refl

pub goes_on : (table : List (List ℕ)) (absent_names : Bool) (front : List (List ℕ × List ℕ)) (count i : ℕ) (bytes : List ℕ) (x : List ℕ × List ℕ) (after : List ℕ) (total : Reading (List (List ℕ × List ℕ))) → i < count → header_at table absent_names bytes ≡ Ok (x, after)
    → with_front front (header_list_at table absent_names (count - i) bytes) ≡ total → with_front (front ++ x ∷ []) (header_list_at table absent_names (count - (i + 1)) after) ≡ total
unfolding header_list_at
goes_on table absent_names front count i bytes x after total lt h so_far =
    let k : count - i ≡ suc (count - (i + 1)) = omega arith in
    let one : with_front front (header_list_at table absent_names (count - i) bytes) ≡ with_front (front ++ x ∷ []) (header_list_at table absent_names (count - (i + 1)) after) = rw (k, h) (regroup front x (header_list_at table absent_names (count - (i + 1)) after)) in
    sym one ∙ so_far

pub ends : (e : NotRead) (table : List (List ℕ)) (absent_names : Bool) (front : List (List ℕ × List ℕ)) (count i : ℕ) (bytes : List ℕ) (total : Reading (List (List ℕ × List ℕ))) → i < count → Halts e (header_at table absent_names bytes)
    → with_front front (header_list_at table absent_names (count - i) bytes) ≡ total → Halts e total
unfolding header_list_at
ends why.NoMemory table absent_names front count i bytes total lt h so_far = tt
ends (why.Refused r) table absent_names front count i bytes total lt h so_far =
    let k : count - i ≡ suc (count - (i + 1)) = omega arith in
    let one : with_front front (header_list_at table absent_names (count - i) bytes) ≡ Err r = rw (k, h) refl in
    sym so_far ∙ one

pub is_done : (table : List (List ℕ)) (absent_names : Bool) (front : List (List ℕ × List ℕ)) (count i : ℕ) (bytes : List ℕ) (total : Reading (List (List ℕ × List ℕ))) → count ≤ i → with_front front (header_list_at table absent_names (count - i) bytes) ≡ total → total ≡ Ok (front, bytes)
unfolding header_list_at
is_done table absent_names front count i bytes total le so_far =
    let k : count - i ≡ 0 = omega arith in
    let one : with_front front (header_list_at table absent_names (count - i) bytes) ≡ Ok (front, bytes) = rw k (ap (λ (xs : List (List ℕ × List ℕ)). Ok (xs, bytes)) (append-nil front)) in
    sym so_far ∙ one

-- a code that is not that of a row is looked for after the row
pub named_step : (code wanted : ℕ) (rows : List (Bor (List ℕ))) (i : ℕ) → i < length rows → eqb code wanted ≡ false
    → named_from (code + 1) (map (λ row. row.now) (drop (suc i) rows)) wanted ≡ named_from code (map (λ row. row.now) (drop i rows)) wanted
named_step code wanted [] i lt other = absurd (omega arith)
named_step code wanted (row ∷ rows) zero lt other = rw other refl
named_step code wanted (row ∷ rows) (suc i) lt other = named_step code wanted rows i (omega arith) other
