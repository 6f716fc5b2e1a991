use Rattle.std.proofs.Common.{◌≡◌, ◌-◌, map}
use Rattle.ajp_wire.specs.Reading.{header_list_at}
use Rattle.ajp_wire.proofs.HeaderLoop.{with_front}
use Rattle.ajp_wire.proofs.headers.next_header_list.Given as goal

abbrev pub invariant-loop : goal.invariant-loop
invariant-loop l = with_front l.headers.items (header_list_at (map (λ name. name.now) l.table) l.absent_names (l.count - l.counter) l.rest) ≡ header_list_at (map (λ name. name.now) l.table) l.absent_names l.count l.bytes
