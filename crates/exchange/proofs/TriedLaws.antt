-- A member whose bit is 0 can be added to the set.
use Rattle.std.proofs.Common.{◌≡◌, ℕ, ◌+◌, ◌-◌, ◌*◌, ◌<◌, ◌≤◌, ◌^◌, false, ap, ◌∙◌, subst, arith}
use Rattle.std.proofs.Math.Nat.{one-le-pow}
use Rattle.std.proofs.Math.Pow.{pow-lt}
use Rattle.std.proofs.lemmas.Bool.{eqb-false}
use Rattle.std.proofs.lemmas.Nat.{or_disjoint, or_lt}
use Rattle.std.proofs.lemmas.Nat.Bits.{and_pow, bit_at-lt}
use Rattle.std.specs.Int.{bit_at}
use Rattle.lb_model.specs.Free.{is_in}

unset : (t m : ℕ) → is_in t m ≡ false → bit_at t m ≡ 0
unset t m out =
    let below : bit_at t m < 2 = bit_at-lt t m in
    let other : bit_at t m ≡ 1 → ⊥ = eqb-false (bit_at t m) 1 out in
    omega (arith, below, other)

pub room_for : (t m : ℕ) → t < 2 ^ 64 → m < 64 → is_in t m ≡ false → t + 2 ^ m < 2 ^ 64
room_for t m within member out =
    subst (λ (x : ℕ). x < 2 ^ 64) (or_disjoint t (2 ^ m) (and_pow t m ∙ ap (λ (b : ℕ). b * 2 ^ m) (unset t m out) ∙ omega arith))
    (or_lt 64 t (2 ^ m) within (pow-lt member))

-- fewer numbers are left above
pub fewer_left : (t m now : ℕ) → now ≡ t + 2 ^ m → now < 2 ^ 64 → 2 ^ 64 - now < 2 ^ 64 - t
fewer_left t m now is within = let some : 1 ≤ 2 ^ m = one-le-pow m 2 (omega arith) in omega (arith, is, within, some)
