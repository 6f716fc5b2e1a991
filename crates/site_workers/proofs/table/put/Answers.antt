use Rattle.std.proofs.Common.{◌≡◌, arith, sym, Some, ◌∙◌}
use Rattle.std.proofs.lemmas.Option.{slice_get_within}
use Rattle.site_workers.specs.Numbers.{number_of}
use Rattle.site_config.specs.Directives.{worker_part, directive_of}
use Rattle.site_workers.specs.Rows.{row_with}
use Rattle.site_workers.proofs.RowLemmas.{number_of-named, adjusted_set}
use Rattle.site_workers.proofs.table.put.Goals as goal

pub returns : goal.returns
returns c =
    let gives = c.in-Some.ensures.some in
    let parts : worker_part c.args.entry.now.key.now ≡ Some (c.in-Some.name.now, gives.0) = gives.1 in
    let found : number_of c.in-Some.name.now c.args.names.now ≡ Some c.in-Some-find.number = sym c.in-Some-find.ensures in
    let given : directive_of gives.0 ≡ Some c.in-Some-given.directive = gives.2 ∙ c.in-Some-given.is in
    let within = slice_get_within c.args.names.now c.in-Some-find.number c.in-Some.name.now (number_of-named c.in-Some.name.now c.args.names.now c.in-Some-find.number found) in
    rw (c.with_place.ensures, c.index-row.ensures, parts, found, given) (adjusted_set (row_with c.in-Some-given.directive c.args.place) c.args.rows.now.items c.in-Some-find.number _ (omega arith))

pub index-row-requires : goal.index-row-requires
index-row-requires c =
    let found : number_of c.in-Some.name.now c.args.names.now ≡ Some c.in-Some-find.number = sym c.in-Some-find.ensures in
    let within = slice_get_within c.args.names.now c.in-Some-find.number c.in-Some.name.now (number_of-named c.in-Some.name.now c.args.names.now c.in-Some-find.number found) in
    omega arith

pub index_mut-requires : goal.index_mut-requires
index_mut-requires c =
    let found : number_of c.in-Some.name.now c.args.names.now ≡ Some c.in-Some-find.number = sym c.in-Some-find.ensures in
    let within = slice_get_within c.args.names.now c.in-Some-find.number c.in-Some.name.now (number_of-named c.in-Some.name.now c.args.names.now c.in-Some-find.number found) in
    omega arith
