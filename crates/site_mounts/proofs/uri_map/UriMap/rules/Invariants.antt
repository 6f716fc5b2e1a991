use Rattle.std.proofs.Common.{◌≡◌, ◌+◌, ◌≤◌, drop}
use Rattle.site_mounts.specs.Mounts.{lines_behind, line_count}
use Rattle.site_mounts.proofs.uri_map.UriMap.rules.Given as goal

-- the lines so far, and those that other rules stand on after the last one
abbrev pub invariant-loop-rule : goal.invariant-loop-rule
invariant-loop-rule l = record {
  few : l.count ≤ l.rule-index;
  counted : l.count + lines_behind l.line (drop l.rule-index l.rule-items) ≡ line_count l.rule-items;
}
