use Rattle.std.proofs.Common.{◌≤◌, length, arith}
use Rattle.std.proofs.lemmas.List.{length-map}
use Rattle.site_config.specs.declared.directive.Directive.TheVariants as directive
use Rattle.site_config.specs.Entries.{as_properties}
use Rattle.site_workers.specs.Listings.{as_listings}
use Rattle.site_workers.specs.Rows.{property_at}
use Rattle.site_workers.specs.Site.{line_in}
use Rattle.site_workers.proofs.LbLemmas.{listed_lb, listed_wide}
use Rattle.site_workers.proofs.WorkerLemmas.{ok_anyway}
use Rattle.site_workers.proofs.books.lb_of.Goals as goal

pub lb_with-requires : goal.lb_with-requires
lb_with-requires c = record {
  some = omega (arith, c.requires.some, c.in_ok-made.ensures.count.0);
  few = omega (arith, c.requires.few, c.in_ok-made.ensures.count.0);
  within = c.in_ok-made.ensures.ranges;
  paired = omega (arith, c.in_ok-made.ensures.count.0, c.in_ok-made.ensures.count.1);
}

pub returns-clause-rows : goal.returns-clause-rows
returns-clause-rows c = ok_anyway c.lb_with.result _ c.in_ok-made.ensures.rows

pub returns-clause-lb : goal.returns-clause-lb
returns-clause-lb c =
    let ps = as_properties c.args.given.now.entries.now in
    listed_lb ps (property_at ps c.args.row.now) c.args.given.now.maintain c.args.listing.now.name.now (as_listings c.args.members.now) c.in_ok-made.made.configs.items c.in_ok-made.made.ends.items c.lb_with.result
    c.in_ok-made.ensures.members c.lb_with.ensures.lb

pub returns-clause-wide : goal.returns-clause-wide
returns-clause-wide c =
    let ps = as_properties c.args.given.now.entries.now in
    let members = c.args.members.now in
    let some : 1 ≤ length (as_listings members) = rw length-map c.requires.some in
    let few : length (as_listings members) ≤ 64 = rw length-map c.requires.few in
    listed_wide ps (line_in (property_at ps c.args.row.now directive.Kind)) (as_listings members) c.in_ok-made.made.configs.items c.in_ok-made.made.ends.items c.lb_with.result some few
    c.in_ok-made.ensures.members c.lb_with.ensures.wide
