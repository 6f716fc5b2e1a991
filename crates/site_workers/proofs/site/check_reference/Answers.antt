use Rattle.std.proofs.Common.{[], sym}
use Rattle.site_config.specs.Entries.{as_properties}
use Rattle.site_workers.proofs.ChainLemmas.{unknown_chain}
use Rattle.site_workers.proofs.WayLemmas.{number_none}
use Rattle.site_workers.proofs.site.check_reference.Goals as goal

pub returns-in-None-clause-ok : goal.returns-in-None-clause-ok
returns-in-None-clause-ok c =
    let ps = as_properties c.args.given.now.entries.now in
    ([], unknown_chain ps c.args.listing.now.name.now (number_none ps c.args.given.now.names.now c.args.listing.now.name.now c.args.given.now.known (sym c.in-None.ensures)))
