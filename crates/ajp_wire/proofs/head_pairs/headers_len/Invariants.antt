use Rattle.std.proofs.Common.{map}
use Rattle.ajp_wire.proofs.WritingLaws.{Measured}
use Rattle.ajp_wire.proofs.head_pairs.headers_len.Given as goal

abbrev pub invariant-loop-header : goal.invariant-loop-header
invariant-loop-header l = Measured (map (λ s. s.now) l.table) l.headers l.header-index l.len
