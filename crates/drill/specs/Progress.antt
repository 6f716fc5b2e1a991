-- A thread's entries in a journal as far as it is read: whole requests, and maybe a Select more.
use Rattle.std.specs.Prelude.{◌≡◌, ℕ, List, [], ◌∷◌, ◌++◌, Option, Some, None}
use Rattle.lb_model.specs.declared.journal.Entry.{Entry}
use Rattle.drill.specs.Drills.{AreAnswered, Chose}

-- This many requests were answered whole; and then, where a ticket is given, a Select chose that made it.
abbrev pub IsSoFar : List Entry → (whole : ℕ) → (ticket : Option ℕ) → Type 0
IsSoFar xs whole None = AreAnswered whole xs
IsSoFar xs whole (Some ticket) = (before : List Entry) × (select : Entry) × AreAnswered whole before × Chose ticket select × (xs ≡ before ++ select ∷ [])
