-- The two passes of a new table that gave two numbers, and their place.
use Rattle.std.proofs.Common.{◌≡◌, ℕ, ◌+◌, List, [], ◌∷◌, ◌++◌, length, refl, sym, ap, ◌∙◌, subst, arith, length-append}
use mathlib.Core.Option.{some}
use lib.ListN.{get_elem?}
use Rattle.atomic_table.specs.Seated.{TableId}
use Rattle.atomic_table.proofs.Lists.{at_last, at_longer}
use Rattle.lb_passes.specs.declared.pass_view.Origin.{Origin}
use Rattle.lb_passes.specs.Closing.{AreAllPasses}
use Rattle.lb_passes.specs.Passes.{AreNewPasses, IsNewPass}
use Rattle.lb_passes.specs.Placed.{AreBack, IsUnused, origin_in, table_in_passes}
use Rattle.lb_passes.specs.declared.pass.Pass.{Pass}
use Rattle.lb_passes.proofs.PlacedLaws.{all_back, new_origin, new_table, new_unused}

-- The pass of a place has its number.
new_at : (o : Origin) (table : TableId) (given k n : ℕ) (passes : List Pass) (p : Pass) → AreNewPasses o table 2 passes → given ≡ 2 → k ≡ n
    → get_elem? passes k ≡ some p → IsUnused table o given p × (p.number ≡ n)
new_at o table given k n passes p are two is at =
    let new : IsNewPass o table 2 k p = are.each k p at in
    (subst (λ (m : ℕ). IsUnused table o m p) (sym two) (new_unused o table 2 k p new), new.number ∙ is)

-- The last pass of the list.
pub second_off : (o : Origin) (table : TableId) (given : ℕ) (passes mid : List Pass) (q : Pass) → AreNewPasses o table 2 passes → given ≡ 2
    → passes ≡ mid ++ q ∷ [] → IsUnused table o given q × (q.number ≡ 1)
second_off o table given passes mid q are two last =
    let many : length passes ≡ length mid + 1 = ap (λ (ps : List Pass). length ps) last ∙ length-append mid (q ∷ []) in
    new_at o table given (length mid) 1 passes q are two (omega (arith, many, are.many))
    (subst (λ (ps : List Pass). get_elem? ps (length mid) ≡ some q) (sym last) (at_last mid q (length mid) refl))

-- The one before it.
pub first_off : (o : Origin) (table : TableId) (given : ℕ) (passes mid rest : List Pass) (p q : Pass) → AreNewPasses o table 2 passes → given ≡ 2
    → passes ≡ mid ++ q ∷ [] → mid ≡ rest ++ p ∷ [] → IsUnused table o given p × (p.number ≡ 0)
first_off o table given passes mid rest p q are two last before =
    let many : length passes ≡ length mid + 1 = ap (λ (ps : List Pass). length ps) last ∙ length-append mid (q ∷ []) in
    let fewer : length mid ≡ length rest + 1 = ap (λ (ps : List Pass). length ps) before ∙ length-append rest (p ∷ []) in
    new_at o table given (length rest) 0 passes p are two (omega (arith, many, fewer, are.many))
    (subst (λ (ps : List Pass). get_elem? ps (length rest) ≡ some p) (sym last)
    (at_longer mid (q ∷ []) (length rest) p
    (subst (λ (ps : List Pass). get_elem? ps (length rest) ≡ some p) (sym before) (at_last rest p (length rest) refl))))

-- The passes of a new table belong where the first one does.
pub belong : (o : Origin) (table : TableId) (passes : List Pass) → AreNewPasses o table 2 passes
    → AreNewPasses (origin_in passes) (table_in_passes passes) 2 passes
belong o table passes are =
    subst (λ (from : Origin). AreNewPasses from (table_in_passes passes) 2 passes) (sym (new_origin o table 2 passes (omega arith) are))
    (subst (λ (t : TableId). AreNewPasses o t 2 passes) (sym (new_table o table 2 passes (omega arith) are)) are)

pub place_of : (o : Origin) (table : TableId) (passes : List Pass) → AreNewPasses o table 2 passes → table ≡ table_in_passes passes
place_of o table passes are = sym (new_table o table 2 passes (omega arith) are)

-- Once both are back there, they are all passes of the table.
pub both_back : (o : Origin) (table : TableId) (passes back : List Pass) → AreNewPasses o table 2 passes
    → AreBack (table_in_passes passes) (origin_in passes) 2 back → AreAllPasses table back
both_back o table passes back are came =
    subst (λ (t : TableId). AreAllPasses t back) (new_table o table 2 passes (omega arith) are)
    (all_back (table_in_passes passes) (origin_in passes) 2 back (omega arith) came)
