use Rattle.site_config.specs.Entries.{as_properties}
use Rattle.site_workers.specs.Rows.{property_at}
use Rattle.site_workers.proofs.SettingLemmas.{given_high, given_low}
use Rattle.site_workers.proofs.settings.number_or.Goals as goal

pub returns-in-Some-clause-low : goal.returns-in-Some-clause-low
returns-in-Some-clause-low c =
    given_low (property_at (as_properties c.args.entries.now) c.args.row.now) c.args.directive c.in-Some.number c.in-Some.ensures.value

pub returns-in-Some-clause-high : goal.returns-in-Some-clause-high
returns-in-Some-clause-high c =
    given_high (property_at (as_properties c.args.entries.now) c.args.row.now) c.args.directive c.in-Some.number c.in-Some.ensures.value
