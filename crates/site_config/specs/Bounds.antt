-- Limits as numbers, of which 0 is none.
use Rattle.std.specs.Prelude.{ℕ, Bool, true, Option, Some, None, if◌then◌else◌, ◌==◌, min, nat_le}

-- a limit, where one is set, is no greater
abbrev pub is_at_most : ℕ → Option ℕ → Bool
is_at_most most None = true
is_at_most most (Some n) = nat_le n most

-- the lesser of two limits
abbrev pub lesser : ℕ → ℕ → ℕ
lesser one other = if one == 0 then other else (if other == 0 then one else min one other)

-- a limit that is set and isn't 0, else the default
abbrev pub or_default : Option ℕ → ℕ → ℕ
or_default None default = default
or_default (Some n) default = if n == 0 then default else n
