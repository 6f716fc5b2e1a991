use Rattle.std.proofs.Common.{arith}
use Rattle.drill.proofs.CountLaws.{counts_left}
use Rattle.drill.proofs.SlotLaws.{as_many, some_left}
use Rattle.drill.proofs.slots.serve_all.Goals as goal

pub returns-clause-parts : goal.returns-clause-parts
returns-clause-parts g c =
    as_many c.left_in.result _ _ _ c.left_in.ensures.parts (omega (arith, c.in_ok-slots.ensures.count, c.serve_each.ensures.len))

pub returns-clause-some : goal.returns-clause-some
returns-clause-some g c =
    some_left c.left_in.result _ _ c.left_in.ensures.count
    (omega (arith, c.in_ok-slots.ensures.count, c.serve_each.ensures.len, c.args.plan.some_threads))

pub returns-clause-counted : goal.returns-clause-counted
returns-clause-counted g c =
    counts_left _ _ c.args.site.now c.args.plan _ _ c.serve_each.new.slots.items c.left_in.result
    (omega (arith, c.in_ok-slots.ensures.count, c.serve_each.ensures.len, c.serve_each.new.slots.ok.0))
    c.serve_each.ensures.made c.left_in.ensures.receipts c.left_in.ensures.bodies
