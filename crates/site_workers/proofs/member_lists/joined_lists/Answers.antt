use Rattle.std.proofs.Common.{arith, sym, ◌∙◌, ap}
use Rattle.std.proofs.lemmas.List.{length-map, get_or-map}
use Rattle.site_config.specs.Entries.{as_property, as_properties}
use Rattle.site_workers.proofs.MemberListLemmas.{lines_step}
use Rattle.site_workers.proofs.member_lists.joined_lists.Goals as goal

pub loop-entry-preserved : goal.loop-entry-preserved
loop-entry-preserved c =
    let es = c.args.entries.now in
    let i = c.loop-entry.entry-index in
    let item = c.entry-item.result in
    lines_step (as_properties es) i (as_property item) c.args.names.now c.loop-entry.lists.items c.add_line.new.lists.items
    (rw length-map (omega arith)) (ap as_property c.entry-item.is ∙ sym (get_or-map as_property es i item (as_property item) (omega arith))) c.loop-entry.invariant c.in_ok-add_line.ensures
