-- The result of each thread stands in the list, through the slice.
use Rattle.std.proofs.Common.{◌∙◌, sym}
use Rattle.drill.proofs.CountLaws.{made_lent}
use Rattle.drill.proofs.PassLaws.{written_back}
use Rattle.drill.proofs.slots.serve_each.Goals as goal

pub returns-clause-made : goal.returns-clause-made
returns-clause-made g c =
    made_lent c.args.site.now c.args.plan c.args.slots.now.items _ c.serve_slots.new.slots _ (λ s. s.desk.desk.receipts) (λ s. (s.desk.desk.receipts, s.made))
    c.as_mut_slice.ensures.value
    (written_back c.args.slots.now.len c.serve_slots.new.slots _ (sym c.as_mut_slice.ensures.len ∙ sym c.serve_slots.ensures.len))
    c.serve_slots.ensures.len c.requires.fresh c.serve_slots.ensures.made
