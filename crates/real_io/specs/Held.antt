-- Bytes held back before a client's end: those that went out, and then the held ones, are all that were put, in order.
use Rattle.std.specs.Prelude.{◌≡◌, ℕ, List, Option, Some, None}
use Rattle.jk_io.specs.Told.{appended}

-- of these bytes some went out meanwhile, at the same end, and the others are held; where there is no end, all are
abbrev pub HoldsRest : {E : Type 0} → (sent : E → Option (List ℕ)) → Option E → List ℕ → Option E → List ℕ → Type 0
HoldsRest sent (Some was) held (Some is) left = appended (sent is) left ≡ appended (sent was) held
HoldsRest sent None held None left = left ≡ held
HoldsRest sent (Some was) held None left = ⊥
HoldsRest sent None held (Some is) left = ⊥
