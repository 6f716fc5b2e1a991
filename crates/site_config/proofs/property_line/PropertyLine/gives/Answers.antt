use Rattle.std.proofs.Common.{◌∙◌}
use Rattle.site_config.proofs.SubjectLemmas.{gives_it}
use Rattle.site_config.proofs.property_line.PropertyLine.gives.Goals as goal

pub returns : goal.returns
returns c = c.is_of.ensures ∙ gives_it c.args.self.now.key.now c.args.self.now.subject c.args.directive c.args.self.now.speaks
