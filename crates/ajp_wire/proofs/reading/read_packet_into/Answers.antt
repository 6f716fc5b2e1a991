use Rattle.std.proofs.Common.{sym}
use Rattle.std.proofs.lemmas.Bool.{false≢true}
use Rattle.ajp_wire.proofs.ReadLaws.{emptied, reads-head, reads-joined}
use Rattle.ajp_wire.proofs.reading.read_packet_into.Goals.{in-Ok, in-Err}
use Rattle.ajp_wire.proofs.reading.read_packet_into.Goals as goal

pub returns-then-is_err-clause-packet : goal.returns-then-is_err-clause-packet
returns-then-is_err-clause-packet g c =
    emptied _ _ _ _ _ c.match-read_head.payload.items _ (sym c.if-is_err.ensures.value)
    (elim c.match-read_head.branch [
      | in-Ok w ↦
          rw (w.answer-is, w.payload-is, w.line-is)
          (reads-joined _ _ _ _ _ _ _ w.in-Ok.ensures.head w.read_payload-answer.ensures.payload)
      | in-Err w ↦ rw (w.answer-is, w.line-is) (reads-head _ _ _ _ _ w.in-Err.ensures.head)
    ])

pub returns-else-is_err-clause-packet : goal.returns-else-is_err-clause-packet
returns-else-is_err-clause-packet g c =
    elim c.match-read_head.branch [
      | in-Ok w ↦
          rw (w.answer-is, w.payload-is, w.line-is)
          (reads-joined _ _ _ _ _ _ _ w.in-Ok.ensures.head w.read_payload-answer.ensures.payload)
      | in-Err w ↦ absurd (false≢true (rw w.answer-is at c.if-is_err.ensures.value))
    ]
