use Rattle.std.proofs.Common.{◌≡◌, ◌++◌, take}
use Rattle.std.specs.List.{flat_map}
use Rattle.real_io.specs.Notices.{name_at}
use Rattle.real_io.proofs.notices.put_names.Given as goal

abbrev pub invariant-loop-worker : goal.invariant-loop-worker
invariant-loop-worker l = l.line ≡ l.fn.line ++ flat_map (name_at l.address) (take l.worker-index l.workers)
