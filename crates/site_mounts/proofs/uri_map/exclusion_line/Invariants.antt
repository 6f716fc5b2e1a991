use Rattle.std.proofs.Common.{◌≡◌, drop}
use Rattle.site_mounts.specs.Mounts.{exclusion_line}
use Rattle.site_mounts.proofs.uri_map.exclusion_line.Given as goal

-- it is sought among the rules that are left
abbrev pub invariant-loop-rule : goal.invariant-loop-rule
invariant-loop-rule l = exclusion_line (drop l.rule-index l.rules) l.path l.worker ≡ exclusion_line l.rules l.path l.worker
