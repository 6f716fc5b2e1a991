use Rattle.std.proofs.Common.{◌≡◌, ◌+◌, ◌<◌, ℕ, List, length, take, get_or, arith, sym, subst}
use Rattle.std.proofs.lemmas.List.{length-map, take-map, get_or-map}
use Rattle.site_config.specs.Entries.{as_property, as_properties}
use Rattle.site_config.specs.Directives.{worker_part}
use Rattle.site_workers.specs.Table.{IsNameOfGiven, names_with}
use Rattle.site_config.specs.declared.property_line.PropertyLine.{PropertyLine}
use Rattle.site_config.specs.declared.property.Property.{Property}
use Rattle.site_workers.proofs.TableLemmas.{known_step}
use Rattle.site_workers.proofs.table.names_of.Goals as goal

-- one entry more
known : (es : List PropertyLine) (i : ℕ) (d : PropertyLine) (names : List (List ℕ)) → i < length es → IsNameOfGiven (as_properties (take i es)) names → IsNameOfGiven (as_properties (take (i + 1) es)) (names_with (worker_part (get_or es i d).key.now) names)
known es i d names within h =
    let ps = as_properties es in
    let at : as_property (get_or es i d) ≡ get_or ps i (as_property (get_or es i d)) = sym (get_or-map as_property es i d (as_property (get_or es i d)) within) in
    let so_far : IsNameOfGiven (take i ps) names = subst (λ (xs : List Property). IsNameOfGiven xs names) (sym (take-map as_property i es)) h in
    subst (λ (xs : List Property). IsNameOfGiven xs (names_with (worker_part (get_or es i d).key.now) names)) (take-map as_property (i + 1) es) (known_step ps i (as_property (get_or es i d)) names (rw length-map within) at so_far)

pub loop-entry-preserved : goal.loop-entry-preserved
loop-entry-preserved c =
    let es = c.args.entries.now in
    let i = c.loop-entry.entry-index in
    let item = c.entry-item.result in
    rw c.in_ok-add_worker.ensures
    (subst (λ (x : PropertyLine). IsNameOfGiven (as_properties (take (i + 1) es)) (names_with (worker_part x.key.now) c.loop-entry.names)) (sym c.entry-item.is)
    (known es i item c.loop-entry.names (omega arith) c.loop-entry.invariant))
