use Rattle.std.proofs.Common.{◌≡◌, drop}
use Rattle.site_mounts.specs.Pieces.{behind}
use Rattle.site_mounts.proofs.matching.behind.Given as goal

-- the piece's other bytes are sought in what is left of the path
abbrev pub invariant-loop-c : goal.invariant-loop-c
invariant-loop-c l = behind (drop l.c-index l.piece) l.rest ≡ behind l.piece l.path
