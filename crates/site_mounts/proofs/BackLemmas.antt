-- A list that is gone through from its end: what is left of it is its front.
use Rattle.std.proofs.Common.{◌≡◌, ℕ, ◌+◌, ◌-◌, ◌<◌, ◌≤◌, List, length, take, get_or, arith, ◌∙◌, ap}
use Rattle.std.proofs.lemmas.List.{length-take-le, take-take, get_or-take}

-- what is left, without its last element, is the list's front of that size
pub record FromBack {X : Type 0} (xs left : List X) (k : ℕ) : Type 0 where
  pub size : length (take k left) ≡ k
  pub next : k + 1 ≡ length left
  pub within : k < length xs
  pub front : take k left ≡ take k xs
  pub item : (x : X) → x ≡ get_or left k x → x ≡ get_or xs k x

pub from_back : {X : Type 0} (xs left : List X) → length left ≤ length xs → left ≡ take (length left) xs → 1 ≤ length left → FromBack xs left (length left - 1)
from_back xs left within front some = record {
  size = length-take-le (length left - 1) left (omega arith);
  next = omega arith;
  within = omega arith;
  front = ap (λ l. take (length left - 1) l) front ∙ take-take (length left - 1) (length left) xs (omega arith);
  item = λ x is. is ∙ ap (λ l. get_or l (length left - 1) x) front ∙ get_or-take (length left) xs (length left - 1) x (omega arith);
}
