use Rattle.std.proofs.Common.{◌≡◌, ◌<◌, Some, length, arith, sym, ◌∙◌, ap}
use Rattle.site_config.specs.declared.directive.Directive.TheVariants as directive
use Rattle.site_config.specs.Entries.{as_property, as_properties}
use Rattle.site_workers.specs.Lists.{firsts}
use Rattle.site_workers.specs.Listings.{as_listings}
use Rattle.site_workers.specs.Numbers.{number_of}
use Rattle.site_workers.specs.Rows.{property_at}
use Rattle.site_workers.proofs.MemberListLemmas.{in_force_are, listed_at, none_given}
use Rattle.site_workers.proofs.WayLemmas.{number_none, row_within}
use Rattle.site_workers.proofs.member_lists.members_in.Goals as goal

-- a worker without a directive lists nobody
pub returns-in_default-find : goal.returns-in_default-find
returns-in_default-find c =
    let ps = as_properties c.args.given.now.entries.now in
    let owner = c.owner_of.result.now in
    let none = none_given ps owner (number_none ps c.args.given.now.names.now owner c.args.given.now.known (sym c.in_default-find.ensures)) in
    in_force_are ps (property_at ps c.args.row.now directive.BalanceWorkers) (as_property c.in-Some.entry) owner (as_listings c.args.given.now.nobody.now) c.in-Some.ensures c.owner_of.ensures
    (ap as_listings c.args.given.now.empty ∙ sym (ap firsts none))

pub returns-in-Some-get : goal.returns-in-Some-get
returns-in-Some-get c =
    let ps = as_properties c.args.given.now.entries.now in
    let owner = c.owner_of.result.now in
    let num : number_of owner c.args.given.now.names.now ≡ Some c.in-Some-find.number = sym c.in-Some-find.ensures in
    let found = c.in-Some-get.ensures.lookup in
    let at = listed_at c.args.given.now.lists.now c.in-Some-find.number c.in-Some-get.list.now found.3.0 found.1 in
    rw c.as_slice.ensures (in_force_are ps (property_at ps c.args.row.now directive.BalanceWorkers) (as_property c.in-Some.entry) owner (as_listings c.in-Some-get.list.now) c.in-Some.ensures c.owner_of.ensures
    (c.args.given.now.members.each owner c.in-Some-find.number c.in-Some-get.list.now num at))

-- each worker has a list
pub returns-in-None : goal.returns-in-None
returns-in-None c =
    let owner = c.owner_of.result.now in
    let num : number_of owner c.args.given.now.names.now ≡ Some c.in-Some-find.number = sym c.in-Some-find.ensures in
    let within : c.in-Some-find.number < length c.args.given.now.lists.now = row_within c.args.given.now.names.now c.args.given.now.lists.now owner c.in-Some-find.number c.args.given.now.members num in
    absurd (omega (arith, within, c.in-None.ensures))
