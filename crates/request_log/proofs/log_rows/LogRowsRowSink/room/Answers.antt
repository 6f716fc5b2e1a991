use Rattle.request_log.specs.LogRules.{gains_nothing}
use Rattle.request_log.proofs.log_rows.LogRowsRowSink.room.Goals as goal

pub returns-clause-same : goal.returns-clause-same
returns-clause-same g c = rw c.self.view_is (gains_nothing g.G.Meanings _)
