-- Each pass gets its number from the first one.
use Rattle.std.proofs.Common.{◌<◌, length, arith, refl, rules}
use Rattle.atomic_table.proofs.Lists.{at_index}
use Rattle.lb_passes.proofs.PassLaws.{caller_new, deal_step, giver_new}
use Rattle.lb_passes.proofs.pass_book.deal.Goals as goal

pub next_pass-pass-requires-clause-of : goal.next_pass-pass-requires-clause-of
next_pass-pass-requires-clause-of c =
    let are = c.loop-number.invariant.1 in
    let some_there : 0 < length c.loop-number.list.items = omega (arith, are.many, c.loop-number.auto.number) in
    (are.each 0 c.index_mut.result.now (at_index c.loop-number.list.items 0 c.index_mut.result.now some_there c.index_mut.ensures.value)).of

pub next_pass-pass-requires-clause-root : goal.next_pass-pass-requires-clause-root
next_pass-pass-requires-clause-root c =
    let are = c.loop-number.invariant.1 in
    let some_there : 0 < length c.loop-number.list.items = omega (arith, are.many, c.loop-number.auto.number) in
    (are.each 0 c.index_mut.result.now (at_index c.loop-number.list.items 0 c.index_mut.result.now some_there c.index_mut.ensures.value)).number

pub next_pass-pass-requires-clause-next : goal.next_pass-pass-requires-clause-next
next_pass-pass-requires-clause-next c =
    let are = c.loop-number.invariant.1 in
    let some_there : 0 < length c.loop-number.list.items = omega (arith, are.many, c.loop-number.auto.number) in
    (are.each 0 c.index_mut.result.now (at_index c.loop-number.list.items 0 c.index_mut.result.now some_there c.index_mut.ensures.value)).root refl

pub loop-number-preserved : goal.loop-number-preserved
loop-number-preserved c =
    let are = c.loop-number.invariant.1 in
    let some_there : 0 < length c.loop-number.list.items = omega (arith, are.many, c.loop-number.auto.number) in
    let first = are.each 0 c.index_mut.result.now (at_index c.loop-number.list.items 0 c.index_mut.result.now some_there c.index_mut.ensures.value) in
    let e = c.next_pass-pass.ensures in (
      search rules,
      deal_step _ _ _ c.loop-number.list.items c.push.new.self.items c.next_pass-pass.new.first c.next_pass-pass.result are (search rules)
          (giver_new _ _ _ c.index_mut.result.now c.next_pass-pass.new.first first e.of.0 e.number.0 e.first)
          (caller_new _ _ _ c.index_mut.result.now c.next_pass-pass.result c.loop-number.auto.number first e.of.1 e.number.1 e.next),
    )
