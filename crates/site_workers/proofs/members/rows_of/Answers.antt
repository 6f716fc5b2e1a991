use Rattle.std.proofs.Common.{arith}
use Rattle.std.proofs.lemmas.Result.{err_from_is_err_and}
use Rattle.site_config.specs.Entries.{as_properties}
use Rattle.site_workers.specs.Site.{IsTraced}
use Rattle.site_workers.proofs.CheckLemmas.{each_at}
use Rattle.site_workers.proofs.ChainLemmas.{only_memory}
use Rattle.site_workers.proofs.BuiltLemmas.{force_more}
use Rattle.site_workers.proofs.members.rows_of.Goals as goal

pub force_of-requires-clause-given : goal.force_of-requires-clause-given
force_of-requires-clause-given c = (each_at (IsTraced (as_properties c.args.given.now.entries.now)) c.args.members.now c.loop-listing.listing-index _ (omega arith) c.requires.traced).known

pub returns-in_err-force_of-clause-memory : goal.returns-in_err-force_of-clause-memory
returns-in_err-force_of-clause-memory c =
    let ps = as_properties c.args.given.now.entries.now in
    let chained = (each_at (IsTraced ps) c.args.members.now c.loop-listing.listing-index _ (omega arith) c.requires.traced).chained in
    let p = err_from_is_err_and c.from_residual.result c.from_residual.ensures.1 in
    rw (p.1, p.2) (only_memory ps _ chained.0 _ chained.1 c.in_err-force_of.ensures.broken)

pub loop-listing-preserved : goal.loop-listing-preserved
loop-listing-preserved c = record {
  rows_are = c.in_ok-force_of.ensures.rows;
  force = rw c.in_ok-push.ensures.items (force_more (as_properties c.args.given.now.entries.now) c.args.members.now c.loop-listing.out.items c.loop-listing.listing-index _ c.in_ok-force_of.field-0 (omega arith) c.loop-listing.invariant.force c.in_ok-force_of.ensures.force);
}
