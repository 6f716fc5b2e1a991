use Rattle.std.proofs.Common.{◌≡◌, ◌++◌, take}
use Rattle.std.specs.List.{flat_map}
use Rattle.site_reports.specs.ConfigText.{listed_lines}
use Rattle.site_reports.proofs.config_text.put_workers.Given as goal

abbrev pub invariant-loop-entry : goal.invariant-loop-entry
invariant-loop-entry l = l.out ≡ l.fn.out ++ flat_map (listed_lines l.config.lbs l.config.statuses) (take l.entry-index l.entry-items)
