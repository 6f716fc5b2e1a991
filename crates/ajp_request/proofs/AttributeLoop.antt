-- Reading attributes one after the other, as a loop does.
use Rattle.std.proofs.Common.{◌≡◌, ℕ, suc, ◌-◌, ◌+◌, ◌≤◌, ◌<◌, cond, eqb, false, List, [], ◌∷◌, ◌++◌, Ok, Err, refl, sym, ap, ◌∙◌, arith}
use Rattle.std.proofs.lemmas.List.{append-nil}
use Rattle.ajp_wire.specs.declared.refusal.RefusalKind.TheVariants.{Short}
use Rattle.ajp_wire.specs.declared.refusal.NotRead.{NotRead}
use Rattle.ajp_wire.specs.declared.refusal.NotRead.TheVariants as why
use Rattle.ajp_wire.specs.Reading.{Reading, ◌>>=◌, Halts, refused, byte_at}
use Rattle.ajp_wire.proofs.HeaderLoop.{with_front, regroup}
use Rattle.ajp_request.specs.declared.attribute.Attribute.{Attribute}
use Rattle.ajp_request.specs.Reading.{attribute_at, attributes_at}

pub no_code : (e : NotRead) (front : List Attribute) (count i : ℕ) (bytes : List ℕ) (total : Reading (List Attribute)) → i < count → Halts e (byte_at bytes)
    → with_front front (attributes_at (count - i) bytes) ≡ total → Halts e total
unfolding attributes_at
no_code why.NoMemory front count i bytes total lt h so_far = tt
no_code (why.Refused r) front count i bytes total lt h so_far =
    let k : count - i ≡ suc (count - (i + 1)) = omega arith in
    let one : with_front front (attributes_at (count - i) bytes) ≡ Err r = rw (k, h) refl in
    sym so_far ∙ one

pub ends : (front : List Attribute) (count i : ℕ) (bytes : List ℕ) (behind : List ℕ) (total : Reading (List Attribute)) → i < count → byte_at bytes ≡ Ok (255, behind)
    → with_front front (attributes_at (count - i) bytes) ≡ total → total ≡ Ok (front, behind)
unfolding attributes_at
ends front count i bytes behind total lt h so_far =
    let k : count - i ≡ suc (count - (i + 1)) = omega arith in
    let one : with_front front (attributes_at (count - i) bytes) ≡ Ok (front, behind) = rw (k, h) (ap (λ (xs : List Attribute). Ok (xs, behind)) (append-nil front)) in
    sym so_far ∙ one

pub no_attribute : (e : NotRead) (front : List Attribute) (count i : ℕ) (bytes : List ℕ) (code : ℕ) (behind : List ℕ) (total : Reading (List Attribute)) → i < count → byte_at bytes ≡ Ok (code, behind) → eqb code 255 ≡ false
    → Halts e (attribute_at code bytes behind) → with_front front (attributes_at (count - i) bytes) ≡ total → Halts e total
unfolding attributes_at
no_attribute why.NoMemory front count i bytes code behind total lt h other halts so_far = tt
no_attribute (why.Refused r) front count i bytes code behind total lt h other halts so_far =
    let k : count - i ≡ suc (count - (i + 1)) = omega arith in
    let one : with_front front (attributes_at (count - i) bytes) ≡ Err r = rw (k, h, other, halts) refl in
    sym so_far ∙ one

pub goes_on : (front : List Attribute) (count i : ℕ) (bytes : List ℕ) (code : ℕ) (behind : List ℕ) (attribute : Attribute) (after : List ℕ) (total : Reading (List Attribute)) → i < count → byte_at bytes ≡ Ok (code, behind) → eqb code 255 ≡ false
    → attribute_at code bytes behind ≡ Ok (attribute, after) → with_front front (attributes_at (count - i) bytes) ≡ total → with_front (front ++ attribute ∷ []) (attributes_at (count - (i + 1)) after) ≡ total
unfolding attributes_at
goes_on front count i bytes code behind attribute after total lt h other found so_far =
    let k : count - i ≡ suc (count - (i + 1)) = omega arith in
    let one : with_front front (attributes_at (count - i) bytes) ≡ with_front (front ++ attribute ∷ []) (attributes_at (count - (i + 1)) after) = rw (k, h, other, found) (regroup front attribute (attributes_at (count - (i + 1)) after)) in
    sym one ∙ so_far

pub runs_out : (front : List Attribute) (count i : ℕ) (bytes : List ℕ) (total : Reading (List Attribute)) → count ≤ i → with_front front (attributes_at (count - i) bytes) ≡ total → total ≡ refused Short []
unfolding attributes_at
runs_out front count i bytes total le so_far =
    let k : count - i ≡ 0 = omega arith in
    let one : with_front front (attributes_at (count - i) bytes) ≡ refused Short [] = rw k refl in
    sym so_far ∙ one
