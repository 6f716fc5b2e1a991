-- There is a pass for each number so far.
use Rattle.std.proofs.Common.{◌≤◌}
use Rattle.std.specs.Prelude.{vec_capacity}
use Rattle.lb_passes.specs.Passes.{AreNewPasses, origin_of}
use Rattle.lb_passes.proofs.pass_book.deal.Given as goal

abbrev pub invariant-loop-number : goal.invariant-loop-number
invariant-loop-number l = (l.passes ≤ vec_capacity l.list) × AreNewPasses (origin_of l.book.table.shared.key.book.value l.book.cut_at) l.book.table.shared.table_id l.number l.list.items
