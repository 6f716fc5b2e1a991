use Rattle.std.proofs.Common.{take}
use Rattle.site_config.specs.Entries.{as_properties}
use Rattle.site_workers.specs.MemberLists.{HaveLines}
use Rattle.site_workers.proofs.member_lists.joined_lists.Given as goal

-- the lines so far
abbrev pub invariant-loop-entry : goal.invariant-loop-entry
invariant-loop-entry l = HaveLines (take l.entry-index (as_properties l.entries)) l.names l.lists.items
