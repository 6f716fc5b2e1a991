-- The least common multiple of a list of numbers above 0, by the greatest common divisor of two.
use Rattle.std.specs.Prelude.{ℕ, suc, zero, ◌*◌, ◌/◌, ◌%◌, List, fold}

-- The greatest common divisor of a and b, in at most n steps of Euclid's.
unfoldable pub divisor_by : (n a b : ℕ) → ℕ
divisor_by zero a b = a
divisor_by (suc n) a zero = a
divisor_by (suc n) a (suc b) = divisor_by n (suc b) (a % suc b)

-- The least common multiple of two numbers.
unfoldable pub multiple_of_two : (a b : ℕ) → ℕ
multiple_of_two a b = a / divisor_by (suc b) a b * b

-- The least common multiple of all numbers of a list, 1 where it is empty.
abbrev pub multiple_of : List ℕ → ℕ
multiple_of xs = fold multiple_of_two 1 xs
