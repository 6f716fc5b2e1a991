use Rattle.std.proofs.Common.{◌≡◌, ◌++◌}
use Rattle.std.specs.Iterator.Adapters.{zip_first, zip_second}
use Rattle.std.specs.List.{flat_map, zip}
use Rattle.std.specs.Slice.Iter.{iter_rest}
use Rattle.site_reports.specs.ConfigText.{member_lines}
use Rattle.site_reports.specs.MemberLines.{member_text, names_of}
use Rattle.site_reports.proofs.config_text.put_members.Given as goal

-- what was added, and what the members still to come will add
abbrev pub invariant-loop-member : goal.invariant-loop-member
invariant-loop-member l =
    l.out ++ flat_map (member_text (names_of l.members)) (zip (iter_rest (zip_first l.member-iterator)) (iter_rest (zip_second l.member-iterator)))
    ≡ l.fn.out ++ member_lines l.lb
