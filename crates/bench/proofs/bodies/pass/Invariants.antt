use Rattle.http_out.specs.Writer.{IsOpenReply}
use Rattle.bench.proofs.bodies.pass.Given as goal

abbrev pub invariant-loop-chunk : goal.invariant-loop-chunk
invariant-loop-chunk l = IsOpenReply l.writer
