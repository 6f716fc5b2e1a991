use Rattle.std.proofs.Common.{take}
use Rattle.std.specs.Option.{option_copied}
use Rattle.site_mounts.proofs.BestLemmas.{IsBestOf}
use Rattle.site_mounts.proofs.uri_map.best.Given as goal

-- the best of the rules so far
abbrev pub invariant-loop-rule : goal.invariant-loop-rule
invariant-loop-rule l = IsBestOf l.path (take l.rule-index l.rules) (option_copied l.best)
