-- How many bytes the bodies of replies had, as a drill counts them. A count stays below 2^64.
use Rattle.std.specs.Prelude.{◌≡◌, ℕ, ◌+◌, List, Option, Some, None, fold, min}
use Rattle.lb_model.specs.declared.served.Served.{Served}

-- the size of a row's body comes to a count
abbrev pub with_body : (count : ℕ) → Served → ℕ
with_body count row = min (count + row.body) 18446744073709551615

-- the sizes of the bodies in these rows come to it
abbrev pub with_bodies : (count : ℕ) → List Served → ℕ
with_bodies count rows = fold with_body count rows

-- The sizes of the bodies in these rows came to it.
abbrev pub AreCounted : (before after : ℕ) → List Served → Type 0
AreCounted before after rows = after ≡ with_bodies before rows

-- the counts of two threads together; None where one of them didn't make all its requests
abbrev pub together : Option ℕ → Option ℕ → Option ℕ
together (Some a) (Some b) = Some (min (a + b) 18446744073709551615)
together (Some a) None = None
together None made = None

-- the counts of all threads together
abbrev pub all_together : List (Option ℕ) → Option ℕ
all_together made = fold together (Some 0) made
