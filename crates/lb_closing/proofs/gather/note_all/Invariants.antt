-- The receipts so far are noted.
use Rattle.std.proofs.Common.{◌≡◌, ◌++◌, take}
use Rattle.lb_closing.specs.Closings.{noted}
use Rattle.lb_closing.proofs.gather.note_all.Given as goal

abbrev pub invariant-loop-receipt : goal.invariant-loop-receipt
invariant-loop-receipt g l = l.list.items ≡ l.initial.list.items ++ noted (take l.receipt-index l.fn.receipts)
