use Rattle.std.proofs.Common.{◌≡◌, ◌++◌, take}
use Rattle.journal_text.specs.Names.{escaped}
use Rattle.gear_worlds.proofs.journal_files.put_name.Given as goal

-- the bytes so far
abbrev pub invariant-loop-byte : goal.invariant-loop-byte
invariant-loop-byte l = l.path ≡ l.fn.path ++ escaped (take l.byte-index l.name)
