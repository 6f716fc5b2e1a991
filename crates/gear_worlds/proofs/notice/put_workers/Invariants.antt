use Rattle.std.proofs.Common.{◌≡◌, ◌++◌, codes, take}
use Rattle.gear_worlds.specs.Notices.{names_text}
use Rattle.gear_worlds.proofs.notice.put_workers.Given as goal

-- the names so far
abbrev pub invariant-loop-entry : goal.invariant-loop-entry
invariant-loop-entry l = l.line ≡ l.fn.line ++ codes "; workers" ++ names_text (take l.entry-index l.listed)
