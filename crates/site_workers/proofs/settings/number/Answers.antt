use Rattle.site_config.specs.Entries.{as_properties}
use Rattle.site_workers.specs.Rows.{property_at}
use Rattle.site_workers.proofs.SettingLemmas.{said_number}
use Rattle.site_workers.proofs.settings.number.Goals as goal

pub returns-in-Some-Number-clause-below : goal.returns-in-Some-Number-clause-below
returns-in-Some-Number-clause-below c =
    said_number c.args.directive (property_at (as_properties c.args.entries.now) c.args.row.now c.args.directive) c.in-Some-Number.number (rw c.in-Some-Number.field-0-is at c.in-Some-Number.ensures)
