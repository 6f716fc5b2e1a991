use Rattle.std.proofs.lemmas.Result.{err_from_is_err_and}
use Rattle.site_config.specs.Entries.{as_properties}
use Rattle.site_workers.specs.Listings.{as_listing}
use Rattle.site_workers.specs.Site.{IsNoAjp13}
use Rattle.site_workers.proofs.ChainLemmas.{not_broken}
use Rattle.site_workers.proofs.site.check_ajp13.Goals as goal

pub returns-in_err-row-clause-other : goal.returns-in_err-row-clause-other
returns-in_err-row-clause-other c =
    let ps = as_properties c.args.given.now.entries.now in
    let p = err_from_is_err_and c.from_residual.result c.from_residual.ensures.1 in
    rw (p.1, p.2) (not_broken ps c.args.listing.now.name.now c.requires.traced.chained.0 (IsNoAjp13 ps (as_listing c.args.listing.now)) _ c.requires.traced.chained.1 c.in_err-row.ensures.broken)
