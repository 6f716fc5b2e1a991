use Rattle.std.proofs.Common.{map}
use Rattle.ajp_wire.proofs.WritingLaws.{Written}
use Rattle.ajp_wire.proofs.head_pairs.put_headers.Given as goal

abbrev pub invariant-loop-header : goal.invariant-loop-header
invariant-loop-header l = Written (map (λ s. s.now) l.table) l.headers l.header-index l.initial.out l.out
