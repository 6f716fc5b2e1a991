use Rattle.std.proofs.Common.{arith}
use Rattle.http_front.proofs.InboxLemmas.{behind-more}
use Rattle.http_front.proofs.inbox.read_behind.Goals as goal

pub returns-clause-more : goal.returns-clause-more
returns-clause-more g c =
    behind-more c.read.result c.args.buffer.now c.read.new.buf c.args.end _ _ _ (omega arith) c.read.ensures.count c.read.ensures.gave
