use Rattle.std.proofs.Common.{◌≡◌, ◌+◌, map, drop}
use Rattle.ajp_wire.specs.Reading.{named_from}
use Rattle.ajp_wire.proofs.headers.name_of.Given as goal

abbrev pub invariant-loop-name : goal.invariant-loop-name
invariant-loop-name l = (l.at ≡ l.first + l.name-index) × (named_from l.at (map (λ name. name.now) (drop l.name-index l.table)) l.code ≡ named_from l.first (map (λ name. name.now) l.table) l.code)
