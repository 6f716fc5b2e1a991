-- The new slot's desk has no receipt.
use Rattle.std.proofs.Common.{◌≡◌, [], ap}
use Rattle.std.proofs.lemmas.List.Elements.{All-push, All-same}
use Rattle.lb_book.specs.Desks.{DeskState}
use Rattle.drill.proofs.slots.put_slot.Goals as goal

pub returns-clause-fresh : goal.returns-clause-fresh
returns-clause-fresh g c =
    All-same (λ s. s.desk.desk.receipts ≡ []) _ _ c.push_reserved.ensures.items
    (All-push (λ s. s.desk.desk.receipts ≡ []) c.args.slots.now.items _ c.requires.fresh (ap (λ (d : DeskState). d.receipts) c.new-3.ensures.desk))
