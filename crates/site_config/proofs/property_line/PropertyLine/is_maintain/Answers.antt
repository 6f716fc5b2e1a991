use Rattle.std.proofs.Common.{◌∙◌}
use Rattle.site_config.proofs.property_line.PropertyLine.is_maintain.Goals as goal

pub returns : goal.returns
returns c = c.is_maintain.ensures ∙ c.args.self.now.speaks.maintain
