use Rattle.std.proofs.Common.{◌≡◌, ◌∷◌, ◌++◌, take}
use Rattle.journal_text.specs.Names.{escaped}
use Rattle.journal_text.proofs.names.put_name.Given as goal

-- the space, and the bytes so far
abbrev pub invariant-loop-byte : goal.invariant-loop-byte
invariant-loop-byte l = l.out ≡ l.fn.out ++ (32 ∷ escaped (take l.byte-index l.name))
