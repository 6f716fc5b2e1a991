use Rattle.std.proofs.Common.{◌≡◌, ◌<◌, ◌∷◌, ℕ, List, length, map, reverse, arith, sym, ◌∙◌, subst, Some, Option, Bor, refl}
use Rattle.std.proofs.lemmas.Option.{slice_get_read}
use Rattle.std.specs.List.{slice_get}
use Rattle.site_workers.specs.declared.row.Row.{Row}
use Rattle.site_config.specs.Entries.{as_properties}
use Rattle.site_workers.specs.Numbers.{number_of}
use Rattle.site_workers.specs.Ways.{IsWay, Inherits, row_of_target}
use Rattle.site_workers.proofs.RowLemmas.{adjusted_set}
use Rattle.site_workers.proofs.WayLemmas.{row_within, path_more, way_back}
use Rattle.site_workers.proofs.reference.resolve.Goals as goal

pub index-requires : goal.index-requires
index-requires c =
    let num : number_of c.in-Some.name.now c.args.given.now.names.now ≡ Some c.unwrap-number.result = sym c.find.ensures ∙ c.unwrap-number.ensures in
    let within = row_within c.args.given.now.names.now c.loop-name.rows.items c.in-Some.name.now c.unwrap-number.result c.loop-name.invariant.rows_are num in
    omega arith

pub index_mut-requires : goal.index_mut-requires
index_mut-requires c =
    let num : number_of c.in-Some.name.now c.args.given.now.names.now ≡ Some c.unwrap-number.result = sym c.find.ensures ∙ c.unwrap-number.ensures in
    let within = row_within c.args.given.now.names.now c.loop-name.rows.items c.in-Some.name.now c.unwrap-number.result c.loop-name.invariant.rows_are num in
    omega arith

pub loop-name-preserved : goal.loop-name-preserved
loop-name-preserved c =
    let ps = as_properties c.args.given.now.entries.now in
    let names = c.args.given.now.names.now in
    let rows = c.loop-name.rows.items in
    let i = c.unwrap-number.result in
    let row = c.index.result.now in
    let past = reverse (map (λ (n : Bor (List ℕ)). n.now) c.pop.new.self.items) in
    let num : number_of c.in-Some.name.now names ≡ Some i = sym c.find.ensures ∙ c.unwrap-number.ensures in
    let within : i < length rows = row_within names rows c.in-Some.name.now i c.loop-name.invariant.rows_are num in
    let got : slice_get rows i ≡ Some row = slice_get_read rows (length rows) i row refl within c.index.ensures in
    let whole : reverse (map (λ (n : Bor (List ℕ)). n.now) c.loop-name.path.items) ≡ c.in-Some.name.now ∷ past = rw c.in-Some.ensures.items (path_more c.pop.new.self.items c.in-Some.name) in
    let way : IsWay ps c.args.start.now names rows (c.in-Some.name.now ∷ past) = subst (IsWay ps c.args.start.now names rows) whole c.loop-name.invariant in
    let from : c.target_row-from.result ≡ row_of_target ps names rows row = rw (← c.as_slice.ensures.value) c.target_row-from.ensures in
    let inherits : Inherits row (row_of_target ps names rows row) c.whole_row.result = subst (λ (o : Option Row). Inherits row o c.whole_row.result) from c.whole_row.ensures in
    rw (adjusted_set (λ (old : Row). c.whole_row.result) rows i row within) (way_back ps c.args.start.now names rows past c.in-Some.name.now i row c.whole_row.result c.args.given.now.known way num got inherits)
