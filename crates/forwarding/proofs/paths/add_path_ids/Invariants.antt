use Rattle.std.proofs.Common.{◌≡◌, ◌++◌, drop}
use Rattle.forwarding.specs.Ids.{path_ids}
use Rattle.forwarding.proofs.paths.add_path_ids.Given as goal

abbrev pub invariant-loop-at : goal.invariant-loop-at
invariant-loop-at l = l.ids ++ path_ids l.mark (drop l.at l.path) ≡ l.initial.ids ++ path_ids l.mark l.path
