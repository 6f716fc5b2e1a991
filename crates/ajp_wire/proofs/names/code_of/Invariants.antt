use Rattle.std.proofs.Common.{◌≡◌, ◌+◌, map, drop}
use Rattle.ajp_wire.specs.Names.{code_from}
use Rattle.ajp_wire.proofs.names.code_of.Given as goal

abbrev pub invariant-loop-known : goal.invariant-loop-known
invariant-loop-known l = (l.code ≡ 40961 + l.known-index)
    × (code_from l.code (map (λ s. s.now) (drop l.known-index l.table)) l.name ≡ code_from 40961 (map (λ s. s.now) l.table) l.name)
