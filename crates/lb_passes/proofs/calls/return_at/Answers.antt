-- A receipt more, and a ticket fewer.
use Rattle.std.proofs.Common.{◌∷◌, [], ap, arith, length, length-append, ℕ, List}
use Rattle.lb_book.proofs.PlainLaws.{without-length}
use Rattle.lb_book.specs.PlainDesks.{receipt_of}
use Rattle.lb_book.specs.declared.receipt.Receipt.{Receipt}
use Rattle.lb_passes.proofs.calls.return_at.Goals as goal

pub invariant_of-lists : goal.invariant_of-lists
invariant_of-lists g c =
    let back = c.return_in.ensures.back in
    let fewer = without-length c.args.lists.now.held.items (c.args.on.lb, c.args.back.ticket) c.requires.held in
    let more = ap (λ (xs : List Receipt). length xs) back.receipts in
    let held = ap (λ (xs : List (ℕ × ℕ)). length xs) c.take_out.ensures in
    record { roomy = omega (arith, fewer, more, held, length-append c.args.lists.now.receipts.items (receipt_of c.args.on back.entry ∷ []), c.args.lists.now.roomy, c.return_in.ensures.room) }
