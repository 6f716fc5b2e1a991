-- The client's bytes that are not yet used: those in the inbox, and after them what is still to come.
use Rattle.std.specs.Prelude.{ℕ, List, Option}
use Rattle.jk_io.specs.Told.{prepended}

-- None where it isn't told what is to come
abbrev pub unread : List ℕ → Option (List ℕ) → Option (List ℕ)
unread inbox incoming = prepended inbox incoming
