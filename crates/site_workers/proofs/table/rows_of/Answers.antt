use Rattle.std.proofs.Common.{◌≡◌, ◌+◌, ◌<◌, ℕ, List, length, get_or, arith, sym, subst}
use Rattle.std.proofs.lemmas.List.{length-map, get_or-map}
use Rattle.site_config.specs.Entries.{as_property, as_properties}
use Rattle.site_workers.specs.Rows.{AreRows, HasOwn, rows_after}
use Rattle.site_config.specs.declared.property_line.PropertyLine.{PropertyLine}
use Rattle.site_workers.specs.declared.row.Row.{Row}
use Rattle.site_workers.proofs.RowLemmas.{rows_step}
use Rattle.site_workers.proofs.table.rows_of.Goals as goal

-- one entry more
one_more : (es : List PropertyLine) (i : ℕ) (d : PropertyLine) (names : List (List ℕ)) (rows : List Row) → i < length es → AreRows (HasOwn (as_properties es) i) names rows → AreRows (HasOwn (as_properties es) (i + 1)) names (rows_after names (as_property (get_or es i d)) i rows)
one_more es i d names rows within h =
    rows_step (as_properties es) i (as_property (get_or es i d)) names rows (rw length-map within) (sym (get_or-map as_property es i d (as_property (get_or es i d)) within)) h

pub loop-i-preserved : goal.loop-i-preserved
loop-i-preserved c =
    let es = c.args.entries.now in
    let i = c.loop-i.i in
    let item = c.index-entries-i.result in
    rw c.put.ensures
    (subst (λ (x : PropertyLine). AreRows (HasOwn (as_properties es) (i + 1)) c.args.names.now (rows_after c.args.names.now (as_property x) i c.loop-i.rows.items)) (sym c.index-entries-i.is)
    (one_more es i item c.args.names.now c.loop-i.rows.items (omega arith) c.loop-i.invariant))

pub returns : goal.returns
returns c =
    let end : c.loop-i.i ≡ length c.args.entries.now = omega arith in
    subst (λ (n : ℕ). AreRows (HasOwn (as_properties c.args.entries.now) n) c.args.names.now c.loop-i.rows.items) end c.loop-i.invariant
