-- The bytes end within a head.
use Rattle.http_front.proofs.MakesLemmas.{ends-made}
use Rattle.http_front.proofs.reading.end_at.Goals as goal

pub returns-else-blank-bytes-clause-found : goal.returns-else-blank-bytes-clause-found
returns-else-blank-bytes-clause-found c =
    ends-made c.args.bytes.now c.args.blank c.requires.part.0 c.requires.part.1 c.requires.short c.if-blank-bytes.false
