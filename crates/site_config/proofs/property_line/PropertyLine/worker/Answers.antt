use Rattle.std.proofs.Common.{◌∙◌}
use Rattle.site_config.proofs.SubjectLemmas.{none_gives, some_gives}
use Rattle.site_config.proofs.property_line.PropertyLine.worker.Goals as goal

pub returns-clause-some : goal.returns-clause-some
returns-clause-some c = some_gives c.args.self.now.key.now c.worker.result (c.worker.ensures ∙ c.args.self.now.speaks.worker)

pub returns-clause-none : goal.returns-clause-none
returns-clause-none c = none_gives c.args.self.now.key.now c.worker.result (c.worker.ensures ∙ c.args.self.now.speaks.worker)
