use Rattle.std.proofs.Common.{arith}
use Rattle.std.proofs.lemmas.Result.{err_from_is_err_and}
use Rattle.site_config.specs.Entries.{as_properties}
use Rattle.site_workers.specs.Listings.{as_listings}
use Rattle.site_workers.specs.Site.{IsAjp13, IsNoAjp13, IsTraced}
use Rattle.site_workers.proofs.CheckLemmas.{checked_ends, checked_more, checked_starts, checked_stops, each_at}
use Rattle.site_workers.proofs.members.check_types.Goals as goal

pub loop-listing-init : goal.loop-listing-init
loop-listing-init c =
    let ps = as_properties c.args.given.now.entries.now in
    record { rows_are = c.requires.rows; checked = checked_starts (IsAjp13 ps) (IsNoAjp13 ps) (as_listings c.args.members.now) }

pub loop-listing-preserved : goal.loop-listing-preserved
loop-listing-preserved c =
    let ps = as_properties c.args.given.now.entries.now in
    record {
      rows_are = c.in_ok-check_ajp13.ensures.rows;
      checked = checked_more (IsAjp13 ps) (IsNoAjp13 ps) c.args.members.now c.loop-listing.listing-index _ c.loop-listing-test.true c.in_ok-check_ajp13.ensures.ok c.loop-listing.invariant.checked;
    }

pub returns-in_err-check_ajp13-clause-other : goal.returns-in_err-check_ajp13-clause-other
returns-in_err-check_ajp13-clause-other c =
    let ps = as_properties c.args.given.now.entries.now in
    let p = err_from_is_err_and c.from_residual.result c.from_residual.ensures.1 in
    rw (p.1, p.2) (checked_stops (IsAjp13 ps) (IsNoAjp13 ps) c.args.members.now c.loop-listing.listing-index _ _ c.loop-listing-test.true c.in_err-check_ajp13.ensures.other c.loop-listing.invariant.checked)

pub returns-clause-ok : goal.returns-clause-ok
returns-clause-ok c =
    let ps = as_properties c.args.given.now.entries.now in
    checked_ends (IsAjp13 ps) (IsNoAjp13 ps) c.args.members.now c.loop-listing.listing-index c.loop-listing-test.false c.loop-listing.invariant.checked

pub check_ajp13-requires-clause-traced : goal.check_ajp13-requires-clause-traced
check_ajp13-requires-clause-traced c = each_at (IsTraced (as_properties c.args.given.now.entries.now)) c.args.members.now c.loop-listing.listing-index _ (omega arith) c.requires.traced
