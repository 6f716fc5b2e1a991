use Rattle.std.proofs.Common.{◌≡◌, take}
use Rattle.std.specs.List.{flat_map}
use Rattle.site_mounts.specs.MapNotes.{part_notes}
use Rattle.site_mounts.specs.PartViews.{as_parts}
use Rattle.site_mounts.proofs.map_note.balancer_notes.Given as goal

-- the notes on the parts so far
abbrev pub invariant-loop-part : goal.invariant-loop-part
invariant-loop-part l = l.notes.items ≡ flat_map (part_notes l.line) (as_parts (take l.part-index l.parts))
