use Rattle.std.proofs.Common.{◌≡◌, ◌++◌, take}
use Rattle.std.specs.List.{flat_map}
use Rattle.request_log.specs.Lines.{part_text}
use Rattle.request_log.proofs.line.put_parts.Given as goal

abbrev pub invariant-loop-part : goal.invariant-loop-part
invariant-loop-part l = l.out ≡ l.fn.out ++ flat_map (part_text l.row l.seen) (take l.part-index l.parts)
