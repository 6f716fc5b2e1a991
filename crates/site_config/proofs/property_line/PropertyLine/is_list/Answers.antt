use Rattle.std.proofs.Common.{◌∙◌}
use Rattle.site_config.proofs.property_line.PropertyLine.is_list.Goals as goal

pub returns : goal.returns
returns c = c.is_list.ensures ∙ c.args.self.now.speaks.list
