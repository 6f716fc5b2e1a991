use Rattle.std.proofs.lemmas.Result.{err_from_is_err_and}
use Rattle.site_config.specs.Entries.{as_properties}
use Rattle.site_workers.specs.Site.{no_workers}
use Rattle.site_workers.proofs.WorkerLemmas.{building_ends, building_more, building_starts, building_stops}
use Rattle.site_workers.proofs.workers.add_workers.Goals as goal

pub loop-listing-preserved : goal.loop-listing-preserved
loop-listing-preserved c = record {
  rows_are = c.in_ok-add_worker.ensures.rows;
  building = building_more (as_properties c.args.given.now.entries.now) c.args.given.now.maintain c.args.listings.now no_workers c.loop-listing.draft c.add_worker.new.draft c.loop-listing.listing-index _ c.loop-listing-test.true c.in_ok-add_worker.ensures.ok c.loop-listing.invariant.building;
}

pub loop-listing-init : goal.loop-listing-init
loop-listing-init c = record {
  rows_are = c.requires.rows;
  building = rw c.new-draft.ensures (building_starts (as_properties c.args.given.now.entries.now) c.args.given.now.maintain c.args.listings.now no_workers);
}

pub returns-in_err-add_worker-clause-refused : goal.returns-in_err-add_worker-clause-refused
returns-in_err-add_worker-clause-refused c =
    let p = err_from_is_err_and c.from_residual.result c.from_residual.ensures.1 in
    rw (p.1, p.2) (building_stops (as_properties c.args.given.now.entries.now) c.args.given.now.maintain c.args.listings.now no_workers c.loop-listing.draft c.loop-listing.listing-index _ _ c.loop-listing-test.true c.in_err-add_worker.ensures.refused c.loop-listing.invariant.building)

pub returns-clause-ok : goal.returns-clause-ok
returns-clause-ok c =
    building_ends (as_properties c.args.given.now.entries.now) c.args.given.now.maintain c.args.listings.now no_workers c.loop-listing.draft c.loop-listing.listing-index c.loop-listing-test.false c.loop-listing.invariant.building
