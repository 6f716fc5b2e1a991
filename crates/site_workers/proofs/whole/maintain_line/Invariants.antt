use Rattle.std.proofs.Common.{◌≡◌, take}
use Rattle.std.specs.Option.{option_map}
use Rattle.site_config.specs.Entries.{as_property, as_properties}
use Rattle.site_workers.specs.Given.{last_of}
use Rattle.site_workers.specs.Site.{is_maintain_line}
use Rattle.site_workers.proofs.whole.maintain_line.Given as goal

-- the last such line so far
abbrev pub invariant-loop-entry : goal.invariant-loop-entry
invariant-loop-entry l = option_map as_property l.last ≡ last_of is_maintain_line (as_properties (take l.entry-index l.entries))
