-- The number of the next entry, and the room for it.
use Rattle.std.proofs.Common.{◌≡◌, ℕ, ◌+◌, ◌<◌, ◌≤◌, ◌^◌, ◌∙◌, ap, arith}
use Rattle.std.specs.Prelude.{max}

-- It follows on those that are kept, as the list of them counts.
pub number_of_next : (next len kept n : ℕ) → len ≡ kept → kept ≡ n → next + len ≡ next + n
number_of_next next len kept n read whole = ap (λ (k : ℕ). next + k) (read ∙ whole)

-- Its moment is none before the last one.
pub not_before : (at now moment : ℕ) → moment ≡ max at now → now ≤ moment
not_before at now moment is = omega arith

-- The numbers that are left, by the tickets that are out.
pub numbers_left : (seq tickets outs more : ℕ) → tickets ≡ outs → seq + tickets + more ≤ 2 ^ 48 → seq + outs + more ≤ 2 ^ 48
numbers_left seq tickets outs more same left = omega arith

-- The room that was taken for this many entries is there, and beside them for their Returns.
pub room_taken : (n tickets outs more cap cap' : ℕ) → n + (tickets + more) ≤ cap → cap ≤ cap' → tickets ≡ outs → n + (outs + more) ≤ cap'
room_taken n tickets outs more cap cap' room wider same = omega arith

pub room_beside : (k p n tickets outs more cap cap' : ℕ) → k + (tickets + more) ≤ cap → cap ≤ cap' → tickets ≡ outs → k ≡ p → p ≡ n
    → n + (outs + more) ≤ cap'
room_beside k p n tickets outs more cap cap' room wider same whole turned = omega arith

pub room_for_one : (now before tickets cap : ℕ) → now ≡ before → before + (tickets + 1) ≤ cap → now < cap
room_for_one now before tickets cap same room = omega arith

pub no_less : (n : ℕ) → n ≤ n
no_less n = omega arith
