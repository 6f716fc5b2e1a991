use Rattle.std.proofs.Common.{ℕ, List, ◌++◌, take}
use Rattle.journal_verdict.specs.Machines.{Knows}
use Rattle.journal_verdict.specs.declared.known.Known.TheVariants as known
use Rattle.journal_verdict.proofs.follower.follow.Given as goal

-- what was known of the bytes before is known of them and of those that came
abbrev pub invariant-loop-byte : goal.invariant-loop-byte
invariant-loop-byte l =
    (bytes : List ℕ) → Knows (known.Going l.fn.machine l.fn.number) l.fn.part bytes
    → Knows (known.Going l.machine l.number) l.part (bytes ++ take l.byte-index l.piece)
