use Rattle.std.proofs.Common.{◌≡◌, ◌++◌, take}
use Rattle.std.specs.List.{flat_map}
use Rattle.site_reports.specs.ConfigText.{ignored_line}
use Rattle.site_reports.proofs.config_text.put_ignored.Given as goal

abbrev pub invariant-loop-place : goal.invariant-loop-place
invariant-loop-place l = l.out ≡ l.fn.out ++ flat_map ignored_line (take l.place l.ignored)
