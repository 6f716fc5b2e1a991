use Rattle.std.proofs.Common.{◌≡◌, length}
use Rattle.std.proofs.lemmas.Result.{err_from_is_err_and}
use Rattle.site_config.specs.declared.directive.Directive.TheVariants as directive
use Rattle.site_config.specs.Entries.{as_properties}
use Rattle.site_workers.specs.Books.{Pass, RefusesMembers}
use Rattle.site_workers.specs.Lists.{firsts, members_in}
use Rattle.site_workers.specs.Listings.{as_listing, as_listings}
use Rattle.site_workers.specs.Rows.{property_at}
use Rattle.site_workers.specs.Site.{RefusesBook, RefusesLb, line_in}
use Rattle.site_workers.proofs.CheckLemmas.{each_traced}
use Rattle.site_workers.proofs.LbLemmas.{members_refused, passed_added, passed_refused}
use Rattle.site_workers.proofs.WorkerLemmas.{wider_refusal}
use Rattle.site_workers.proofs.workers.add_lb.Goals as goal

pub balanced-requires : goal.balanced-requires
balanced-requires c = record {
  rows = c.in_ok-check_members.ensures.rows;
  traced = each_traced _ _ c.in_ok-check_members.ensures.pass.known c.in_ok-check_members.ensures.pass.chained;
}

pub returns-in_err-check_members-clause-refused : goal.returns-in_err-check_members-clause-refused
returns-in_err-check_members-clause-refused c =
    let ps = as_properties c.args.given.now.entries.now in
    let v = property_at ps c.args.row.now in
    let l = as_listing c.args.listing.now in
    let ms = as_listings c.members_in-members.result.now in
    let all = members_in ps (v directive.BalanceWorkers) in
    let are : ms ≡ firsts all = c.members_in-members.ensures in
    let count = length c.args.draft.now.lbs in
    let p = err_from_is_err_and c.from_residual.result c.from_residual.ensures.1 in
    rw (p.1, p.2) (wider_refusal (RefusesMembers ps count l ms) (RefusesLb ps count l v all) _ (rw c.len.ensures at c.in_err-check_members.ensures.refused) (members_refused ps count l v ms all are))

pub returns-in_err-lb-clause-refused : goal.returns-in_err-lb-clause-refused
returns-in_err-lb-clause-refused c =
    let ps = as_properties c.args.given.now.entries.now in
    let v = property_at ps c.args.row.now in
    let l = as_listing c.args.listing.now in
    let ms = as_listings c.members_in-members.result.now in
    let all = members_in ps (v directive.BalanceWorkers) in
    let are : ms ≡ firsts all = c.members_in-members.ensures in
    let count = length c.args.draft.now.lbs in
    let pass : Pass ps count ms = rw c.len.ensures at c.in_ok-check_members.ensures.pass in
    let p = err_from_is_err_and c.from_residual-in_err-lb.result c.from_residual-in_err-lb.ensures.1 in
    rw (p.1, p.2) (wider_refusal (RefusesBook ps (line_in (v directive.Kind)) ms) (RefusesLb ps count l v all) _ c.in_err-lb.ensures.refused (passed_refused ps count l v ms all are pass))

pub returns-clause-rows : goal.returns-clause-rows
returns-clause-rows c = c.in_ok-lb.ensures.rows

pub returns-clause-ok : goal.returns-clause-ok
returns-clause-ok c =
    let ps = as_properties c.args.given.now.entries.now in
    let ms = as_listings c.members_in-members.result.now in
    let pass : Pass ps (length c.args.draft.now.lbs) ms = rw c.len.ensures at c.in_ok-check_members.ensures.pass in
    passed_added ps c.args.given.now.maintain (as_listing c.args.listing.now) (property_at ps c.args.row.now) ms c.args.draft.now _ c.in_ok-lb.lb c.members_in-members.ensures pass c.in_ok-lb.ensures.lb c.in_ok-put_lb.ensures
