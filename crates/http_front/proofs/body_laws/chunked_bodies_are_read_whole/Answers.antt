use Rattle.http_front.proofs.ChunkedLemmas.{reads_spelled}
use Rattle.http_front.proofs.body_laws.chunked_bodies_are_read_whole.Goals as goal

pub returns : goal.returns
returns c = reads_spelled
