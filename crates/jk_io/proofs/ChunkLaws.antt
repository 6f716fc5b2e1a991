-- A buffer that was lent out.
use Rattle.std.proofs.Common.{◌≡◌, ℕ, ◌<◌, List, ◌++◌, length, take, length-take, length-append, arith, ap}

-- a buffer keeps its length in a call that writes to it
pub kept_some : (n : ℕ) (items given a b : List ℕ) → n ≡ length items → 0 < length items → given ≡ items → length a ≡ length given
    → 0 < length (take n (a ++ b))
kept_some n items given a b whole some same len =
    let all : length given ≡ length items = ap length same in simp (length-take, length-append) (omega arith)
