use Rattle.std.proofs.Common.{length, subst}
use Rattle.site_config.specs.declared.values.WorkerKind.{WorkerKind}
use Rattle.site_config.specs.declared.values.WorkerKind.TheVariants as kind
use Rattle.site_config.specs.Entries.{as_properties}
use Rattle.site_workers.specs.Listings.{as_listing}
use Rattle.site_workers.specs.Rows.{property_at}
use Rattle.site_workers.specs.Site.{AddsKind, RefusesListing, RefusesKind}
use Rattle.site_workers.proofs.CheckLemmas.{refuses_kind}
use Rattle.site_workers.proofs.WorkerLemmas.{adds_kind, on_ok, wider_refused}
use Rattle.site_workers.proofs.workers.add_worker.Goals as goal

pub returns-in-Ajp13-clause-ok : goal.returns-in-Ajp13-clause-ok
returns-in-Ajp13-clause-ok c =
    let ps = as_properties c.args.given.now.entries.now in
    let l = as_listing c.args.listing.now in
    let row = c.in_ok-row.row in
    on_ok c.add_direct.result _ _ c.add_direct.ensures.ok (λ added.
    adds_kind ps c.args.given.now.maintain l row c.args.draft.now c.add_direct.new.draft c.in_ok-check_known.ensures.ok c.in_ok-row.ensures.force (subst (λ (k : WorkerKind). AddsKind ps c.args.given.now.maintain l (property_at ps row) k c.args.draft.now c.add_direct.new.draft) c.in-Ajp13.ensures added))

pub returns-in-Lb-clause-ok : goal.returns-in-Lb-clause-ok
returns-in-Lb-clause-ok c =
    let ps = as_properties c.args.given.now.entries.now in
    let l = as_listing c.args.listing.now in
    let row = c.in_ok-row.row in
    on_ok c.add_lb.result _ _ c.add_lb.ensures.ok (λ added.
    adds_kind ps c.args.given.now.maintain l row c.args.draft.now c.add_lb.new.draft c.in_ok-check_known.ensures.ok c.in_ok-row.ensures.force (subst (λ (k : WorkerKind). AddsKind ps c.args.given.now.maintain l (property_at ps row) k c.args.draft.now c.add_lb.new.draft) c.in-Lb.ensures added))

pub returns-in_ok-add_status-in-Status-clause-ok : goal.returns-in_ok-add_status-in-Status-clause-ok
returns-in_ok-add_status-in-Status-clause-ok c =
    let ps = as_properties c.args.given.now.entries.now in
    let l = as_listing c.args.listing.now in
    let row = c.in_ok-row.row in
    adds_kind ps c.args.given.now.maintain l row c.args.draft.now c.add_status.new.draft c.in_ok-check_known.ensures.ok c.in_ok-row.ensures.force (subst (λ (k : WorkerKind). AddsKind ps c.args.given.now.maintain l (property_at ps row) k c.args.draft.now c.add_status.new.draft) c.in-Status.ensures c.in_ok-add_status-in-Status.ensures)

pub returns-in-Ajp13-clause-refused : goal.returns-in-Ajp13-clause-refused
returns-in-Ajp13-clause-refused c =
    let ps = as_properties c.args.given.now.entries.now in
    let l = as_listing c.args.listing.now in
    let row = c.in_ok-row.row in
    let count = length c.args.draft.now.lbs in
    wider_refused c.add_direct.result (RefusesKind ps count l (property_at ps row) kind.Ajp13) (RefusesListing ps count l) c.add_direct.ensures.refused (λ r refused.
    refuses_kind ps count l row r c.in_ok-check_known.ensures.ok c.in_ok-row.ensures.force (subst (λ (k : WorkerKind). RefusesKind ps count l (property_at ps row) k r) c.in-Ajp13.ensures refused))

pub returns-in-Lb-clause-refused : goal.returns-in-Lb-clause-refused
returns-in-Lb-clause-refused c =
    let ps = as_properties c.args.given.now.entries.now in
    let l = as_listing c.args.listing.now in
    let row = c.in_ok-row.row in
    let count = length c.args.draft.now.lbs in
    wider_refused c.add_lb.result (RefusesKind ps count l (property_at ps row) kind.Lb) (RefusesListing ps count l) c.add_lb.ensures.refused (λ r refused.
    refuses_kind ps count l row r c.in_ok-check_known.ensures.ok c.in_ok-row.ensures.force (subst (λ (k : WorkerKind). RefusesKind ps count l (property_at ps row) k r) c.in-Lb.ensures refused))

pub add_direct-requires-clause-traced : goal.add_direct-requires-clause-traced
add_direct-requires-clause-traced c = record {
  known = c.in_ok-check_known.ensures.ok;
  chained = (c.in_ok-row.ensures.force.0, c.in_ok-row.ensures.force.1);
}
