-- The lines of a text, and the rows of its workers while no walk goes on.
use Rattle.std.specs.Prelude.{List, []}
use Rattle.site_config.specs.Entries.{as_properties}
use Rattle.site_config.specs.declared.property.Property.{Property}
use Rattle.site_workers.specs.Ways.{AreOnWay}
use Rattle.site_workers.specs.declared.given.Given.{Given}
use Rattle.site_workers.specs.declared.row.Row.{Row}

abbrev pub lines_in : Given → List Property
lines_in g = as_properties g.entries.now

-- each worker's row has its own lines, or those in force
abbrev pub AreAtRest : Given → List Row → Type 0
AreAtRest g rows = AreOnWay (lines_in g) [] g.names.now rows
