use Rattle.std.proofs.Common.{◌≡◌, ℕ, List, length, map, arith, Bor}
use Rattle.std.proofs.lemmas.List.{length-map}
use Rattle.site_config.specs.Entries.{as_properties}
use Rattle.site_workers.specs.Built.{HaveForce, routes_at}
use Rattle.site_workers.specs.Listings.{as_listings}
use Rattle.site_workers.proofs.BuiltLemmas.{force_lengths, route_lengths, made_members, made_ranges, made_count}
use Rattle.site_workers.proofs.members.members_of.Goals as goal

pub routes_of-requires : goal.routes_of-requires
routes_of-requires c = rw c.as_slice-own.ensures.value (force_lengths (as_properties c.args.given.now.entries.now) c.args.members.now c.in_ok-rows_in_force.rows_in_force.items c.in_ok-rows_in_force.ensures.force)

pub built-requires-clause-rows : goal.built-requires-clause-rows
built-requires-clause-rows c = rw c.as_slice-own.ensures.value (force_lengths (as_properties c.args.given.now.entries.now) c.args.members.now c.in_ok-rows_in_force.rows_in_force.items c.in_ok-rows_in_force.ensures.force)

pub built-requires-clause-routes : goal.built-requires-clause-routes
built-requires-clause-routes c =
    let own = c.as_slice-own.result.now in
    let found = map (λ (r : Bor (List ℕ)). r.now) c.as_slice-routes.result.now in
    let same : length own ≡ length c.args.members.now = rw c.as_slice-own.ensures.value (force_lengths (as_properties c.args.given.now.entries.now) c.args.members.now c.in_ok-rows_in_force.rows_in_force.items c.in_ok-rows_in_force.ensures.force) in
    let are : found ≡ routes_at (as_properties c.args.given.now.entries.now) (as_listings c.args.members.now) own = rw c.as_slice-routes.ensures.value c.in_ok-routes_in_force.ensures in
    let count = route_lengths (as_properties c.args.given.now.entries.now) c.args.members.now own found same are in
    let mapped = length-map c.as_slice-routes.result.now (λ (r : Bor (List ℕ)). r.now) in
    omega arith

pub returns-clause-members : goal.returns-clause-members
returns-clause-members c =
    let ps = as_properties c.args.given.now.entries.now in
    let ls = as_listings c.args.members.now in
    let own = c.as_slice-own.result.now in
    let found = map (λ (r : Bor (List ℕ)). r.now) c.as_slice-routes.result.now in
    let force : HaveForce ps ls own = rw c.as_slice-own.ensures.value c.in_ok-rows_in_force.ensures.force in
    let are : found ≡ routes_at ps ls own = rw c.as_slice-routes.ensures.value c.in_ok-routes_in_force.ensures in
    let b = c.in_ok-built.field-0 in
    made_members ps found ls own b.configs.items b.ends.items force are c.in_ok-built.ensures

pub returns-clause-ranges : goal.returns-clause-ranges
returns-clause-ranges c =
    let ps = as_properties c.args.given.now.entries.now in
    let ls = as_listings c.args.members.now in
    let own = c.as_slice-own.result.now in
    let found = map (λ (r : Bor (List ℕ)). r.now) c.as_slice-routes.result.now in
    let force : HaveForce ps ls own = rw c.as_slice-own.ensures.value c.in_ok-rows_in_force.ensures.force in
    let are : found ≡ routes_at ps ls own = rw c.as_slice-routes.ensures.value c.in_ok-routes_in_force.ensures in
    let b = c.in_ok-built.field-0 in
    made_ranges ps found ls own b.configs.items b.ends.items force are c.in_ok-built.ensures

pub returns-clause-count : goal.returns-clause-count
returns-clause-count c =
    let ps = as_properties c.args.given.now.entries.now in
    let ls = as_listings c.args.members.now in
    let own = c.as_slice-own.result.now in
    let found = map (λ (r : Bor (List ℕ)). r.now) c.as_slice-routes.result.now in
    let b = c.in_ok-built.field-0 in
    made_count ps found c.args.members.now own b.configs.items b.ends.items c.in_ok-built.ensures
