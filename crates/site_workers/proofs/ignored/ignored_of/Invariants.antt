use Rattle.std.proofs.Common.{◌≡◌, take}
use Rattle.site_config.specs.Entries.{as_properties}
use Rattle.site_workers.specs.Site.{ignored_of}
use Rattle.site_workers.proofs.ignored.ignored_of.Given as goal

-- those so far
abbrev pub invariant-loop-entry : goal.invariant-loop-entry
invariant-loop-entry l = l.ignored ≡ ignored_of (as_properties (take l.entry-index l.entries))
