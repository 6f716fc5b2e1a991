-- Sets of members by their names.
use Rattle.std.proofs.Common.{◌≡◌, ℕ, ◌+◌, ◌*◌, ◌^◌, ◌<◌, ◌≤◌, Bool, true, false, List, [], ◌∷◌, length, drop, get_or, refl, sym, ◌∙◌, ap, arith, cond, suc, add-one, drop-cons, length-drop}
use Rattle.std.proofs.Math.Nat.{pow-suc}
use Rattle.std.proofs.Math.Pow.{pow_mono}
use Rattle.lb_model.specs.declared.member.MemberConfig.{MemberConfig}
use Rattle.site_mounts.specs.Members.{is_named, set_of}
use mir.Val.{bool_byte}

pub bit-bool_byte : (t : Bool) → bool_byte t ≡ cond t 1 0
bit-bool_byte true = refl
bit-bool_byte false = refl

pub bit_small : (t : Bool) → cond t 1 0 ≤ 1
bit_small true = omega arith
bit_small false = omega arith

-- a set of this many members
pub set_of-below : (members : List MemberConfig) (names : List (List ℕ)) → set_of members names < 2 ^ length members
set_of-below [] names = omega arith
set_of-below (m ∷ members) names =
    let rest = set_of-below members names in
    let bit = bit_small (is_named names m) in
    rw pow-suc (omega arith)

-- a set of members after the first ones can be doubled
pub set_of-fits : (members : List MemberConfig) (names : List (List ℕ)) (k : ℕ) → length members ≤ 64 → 1 ≤ k → set_of (drop k members) names < 9223372036854775808
set_of-fits members names k few some =
    let below = set_of-below (drop k members) names in
    let size : length (drop k members) ≤ 63 = omega (arith, length-drop k members) in
    let most = pow_mono {i = length (drop k members)} {j = 63} size in
    omega (arith, below, most)

-- one member more in front of others
pub set_of-drop : (members : List MemberConfig) (names : List (List ℕ)) (k : ℕ) (m : MemberConfig) → k < length members → m ≡ get_or members k m → set_of (drop k members) names ≡ cond (is_named names m) 1 0 + 2 * set_of (drop (k + 1) members) names
set_of-drop members names k m within is =
    let parts : drop k members ≡ m ∷ drop (suc k) members = drop-cons members k m within ∙ ap (λ (x : MemberConfig). x ∷ drop (suc k) members) (sym is) in
    rw (add-one, parts) refl
