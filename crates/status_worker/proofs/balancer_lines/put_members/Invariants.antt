use Rattle.std.proofs.Common.{◌≡◌, ◌++◌, take}
use Rattle.std.specs.List.{flat_map}
use Rattle.status_worker.specs.Page.{member_line, names_of}
use Rattle.status_worker.proofs.balancer_lines.put_members.Given as goal

abbrev pub invariant-loop-row : goal.invariant-loop-row
invariant-loop-row l = l.out ≡ l.fn.out ++ flat_map (member_line (names_of l.rows)) (take l.row-index l.rows)
