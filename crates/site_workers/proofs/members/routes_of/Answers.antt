use Rattle.std.proofs.Common.{arith, sym}
use Rattle.std.proofs.lemmas.List.{map-append}
use Rattle.site_config.specs.Entries.{as_properties}
use Rattle.site_workers.proofs.BuiltLemmas.{routes_more}
use Rattle.site_workers.proofs.members.routes_of.Goals as goal

pub loop-i-preserved : goal.loop-i-preserved
loop-i-preserved c =
    let more = routes_more (as_properties c.args.entries.now) c.args.members.now c.args.rows.now c.loop-i.i _ _ (omega arith) c.requires in
    rw (c.in_ok-push.ensures.items, map-append, c.text_or.ensures, c.loop-i.invariant) (sym more)
