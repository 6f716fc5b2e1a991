use Rattle.http_front.proofs.SpelledLemmas.{reads_only_spelled}
use Rattle.http_front.proofs.body_laws.only_chunked_bodies_are_read_whole.Goals as goal

pub returns : goal.returns
returns c = reads_only_spelled
