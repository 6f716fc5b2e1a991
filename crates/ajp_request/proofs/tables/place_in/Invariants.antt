use Rattle.std.proofs.Common.{◌≡◌, ◌+◌, map, drop}
use Rattle.ajp_request.specs.Tables.{method_from}
use Rattle.ajp_request.proofs.tables.place_in.Given as goal

abbrev pub invariant-loop-known : goal.invariant-loop-known
invariant-loop-known l = (l.code ≡ 1 + l.known-index) × (method_from l.code (map (λ known. known.now) (drop l.known-index l.table)) l.name ≡ method_from 1 (map (λ known. known.now) l.table) l.name)
