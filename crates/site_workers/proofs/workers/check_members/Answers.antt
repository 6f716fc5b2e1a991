use Rattle.std.proofs.Common.{◌<◌, ◌≤◌, refl, inl, inr}
use Rattle.std.proofs.lemmas.Result.{err_from_is_err_and}
use Rattle.site_config.specs.Entries.{as_properties}
use Rattle.site_workers.specs.Books.{RefusesMembers}
use Rattle.site_workers.specs.Listings.{as_listing, as_listings}
use Rattle.site_workers.specs.Site.{Breaks, Chained, FirstBad, IsAjp13, IsNoAjp13, IsUnknown, Known}
use Rattle.site_workers.proofs.CheckLemmas.{each_traced}
use Rattle.site_workers.proofs.WorkerLemmas.{on_ok, wider_refusal, wider_refused}
use Rattle.site_workers.proofs.workers.check_members.Goals as goal

pub returns-in_err-check_references-clause-refused :
    goal.returns-in_err-check_references-clause-refused
returns-in_err-check_references-clause-refused c =
    let ps = as_properties c.args.given.now.entries.now in
    let ms = as_listings c.args.members.now in
    let p = err_from_is_err_and c.from_residual.result c.from_residual.ensures.1 in
    rw (p.1, p.2) (wider_refusal (FirstBad (Chained ps) (Breaks ps) ms) (RefusesMembers ps c.args.count (as_listing c.args.listing.now) ms) _ c.in_err-check_references.ensures.broken (λ r h. inl h))

pub returns-in_err-check_members_known-clause-refused :
    goal.returns-in_err-check_members_known-clause-refused
returns-in_err-check_members_known-clause-refused c =
    let ps = as_properties c.args.given.now.entries.now in
    let ms = as_listings c.args.members.now in
    let p = err_from_is_err_and c.from_residual-in_err-check_members_known.result c.from_residual-in_err-check_members_known.ensures.1 in
    rw (p.1, p.2) (wider_refusal (FirstBad (Known ps) (IsUnknown ps) ms) (RefusesMembers ps c.args.count (as_listing c.args.listing.now) ms) _ c.in_err-check_members_known.ensures.unknown
    (λ r h. inr (inl (c.in_ok-check_references.ensures.ok, h))))

pub returns-then-count-ge-MAX_BALANCERS-clause-refused :
    goal.returns-then-count-ge-MAX_BALANCERS-clause-refused
returns-then-count-ge-MAX_BALANCERS-clause-refused c =
    let full : 1024 ≤ c.args.count = c.if-count-ge-MAX_BALANCERS.true in
    rw c.refused.ensures (inr (inr (inl (c.in_ok-check_references.ensures.ok, c.in_ok-check_members_known.ensures.ok, full, refl))))

pub returns-clause-pass : goal.returns-clause-pass
returns-clause-pass c =
    on_ok c.check_types.result _ _ c.check_types.ensures.ok (λ ajp13. record {
      chained = c.in_ok-check_references.ensures.ok;
      known = c.in_ok-check_members_known.ensures.ok;
      room = c.if-count-ge-MAX_BALANCERS.false;
      ajp13 = ajp13;
    })

pub returns-clause-refused : goal.returns-clause-refused
returns-clause-refused c =
    let ps = as_properties c.args.given.now.entries.now in
    let ms = as_listings c.args.members.now in
    let room : c.args.count < 1024 = c.if-count-ge-MAX_BALANCERS.false in
    wider_refused c.check_types.result (FirstBad (IsAjp13 ps) (IsNoAjp13 ps) ms) (RefusesMembers ps c.args.count (as_listing c.args.listing.now) ms) c.check_types.ensures.other
    (λ r h. inr (inr (inr (c.in_ok-check_references.ensures.ok, c.in_ok-check_members_known.ensures.ok, room, h))))

pub check_types-requires-clause-traced : goal.check_types-requires-clause-traced
check_types-requires-clause-traced c =
    each_traced (as_properties c.args.given.now.entries.now) (as_listings c.args.members.now) c.in_ok-check_members_known.ensures.ok c.in_ok-check_references.ensures.ok
