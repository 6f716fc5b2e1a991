use Rattle.std.proofs.Common.{◌<◌, length, arith}
use Rattle.site_config.specs.Entries.{as_property}
use Rattle.site_workers.proofs.MemberListLemmas.{adds_here, adds_none, listed_at}
use Rattle.site_workers.proofs.WorkerLemmas.{on_ok}
use Rattle.site_workers.proofs.member_lists.add_line.Goals as goal

pub index_mut-requires : goal.index_mut-requires
index_mut-requires c = omega (arith, c.in-Some.ensures.within, c.requires)

pub returns-in-Some : goal.returns-in-Some
returns-in-Some c =
    let within : c.in-Some.number < length c.args.lists.now.items = omega (arith, c.in-Some.ensures.within, c.requires) in
    on_ok c.push_listings.result _ _ c.push_listings.ensures (λ more.
    adds_here c.args.names.now (as_property c.args.entry.now) c.args.lists.now.items c.in-Some.number c.index_mut.result.now c.push_listings.new.out
    (listed_at c.args.lists.now.items c.in-Some.number c.index_mut.result.now within c.index_mut.ensures.value)
    c.in-Some.ensures.value more)

pub returns-in-None : goal.returns-in-None
returns-in-None c = adds_none c.args.names.now (as_property c.args.entry.now) c.args.lists.now.items c.in-None.ensures.value
