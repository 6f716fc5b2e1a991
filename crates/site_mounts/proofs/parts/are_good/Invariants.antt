use Rattle.std.proofs.Common.{◌≡◌, drop}
use Rattle.std.specs.List.{list_all}
use Rattle.site_mounts.specs.PartViews.{as_parts}
use Rattle.site_mounts.specs.Parts.{is_good}
use Rattle.site_mounts.proofs.parts.are_good.Given as goal

-- the parts that are left decide
abbrev pub invariant-loop-part : goal.invariant-loop-part
invariant-loop-part l = list_all (is_good l.members) (as_parts (drop l.part-index l.parts)) ≡ list_all (is_good l.members) (as_parts l.parts)
