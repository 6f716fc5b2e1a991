use Rattle.std.proofs.Common.{◌≡◌, take}
use Rattle.site_config.specs.Entries.{as_properties}
use Rattle.site_config.proofs.properties.properties_of.Given as goal

-- the properties so far
abbrev pub invariant-loop-entry : goal.invariant-loop-entry
invariant-loop-entry l = l.properties.items ≡ as_properties (take l.entry-index l.entry-items)
