-- Each slot keeps its number, and has what its thread made, through the slice.
use Rattle.std.proofs.Common.{◌∙◌, ℕ, List, ap, map, subst, sym}
use Rattle.lb_passes.specs.Placed.{AreFrom}
use Rattle.drill.proofs.CountLaws.{made_lent, made_numbered}
use Rattle.drill.proofs.PassLaws.{numbers_lent, written_back}
use Rattle.drill.proofs.pass_slots.serve_each.Goals as goal

pub returns-clause-numbers : goal.returns-clause-numbers
returns-clause-numbers g c =
    numbers_lent _ _ _ _ _ c.as_mut_slice.ensures.value
    (written_back c.args.slots.now.len c.serve_slots.new.slots _ (sym c.as_mut_slice.ensures.len ∙ sym c.serve_slots.ensures.len))
    c.serve_slots.ensures.len c.serve_slots.ensures.numbers

pub returns-clause-made : goal.returns-clause-made
returns-clause-made g c =
    let lent : AreFrom 0 (map (λ s. s.number) c.as_mut_slice.result.now) =
    subst (λ (ns : List ℕ). AreFrom 0 ns) (sym (ap (λ xs. map (λ s. s.number) xs) c.as_mut_slice.ensures.value)) c.requires.numbers
    in
    made_lent c.args.site.now c.args.plan c.args.slots.now.items _ c.serve_slots.new.slots _ (λ s. s.desk.desk.desk.receipts)
    (λ s. (s.desk.desk.desk.receipts, s.made)) c.as_mut_slice.ensures.value
    (written_back c.args.slots.now.len c.serve_slots.new.slots _ (sym c.as_mut_slice.ensures.len ∙ sym c.serve_slots.ensures.len))
    c.serve_slots.ensures.len c.requires.fresh
    (made_numbered c.args.site.now c.args.plan c.as_mut_slice.result.now c.serve_slots.new.slots (λ s. s.desk.desk.desk.receipts)
    (λ s. (s.desk.desk.desk.receipts, s.made)) (λ s. s.number) lent c.serve_slots.ensures.made)
