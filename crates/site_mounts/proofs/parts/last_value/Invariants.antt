use Rattle.std.proofs.Common.{◌≡◌, take}
use Rattle.std.specs.Option.{option_map}
use Rattle.site_mounts.specs.PartViews.{as_parts}
use Rattle.site_mounts.specs.Parts.{last_value}
use Rattle.site_mounts.proofs.parts.last_value.Given as goal

-- the value of the last of the parts so far
abbrev pub invariant-loop-part : goal.invariant-loop-part
invariant-loop-part l = option_map (λ v. v.now) l.value ≡ last_value l.name (as_parts (take l.part-index l.parts))
