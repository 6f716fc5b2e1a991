-- One turn, in which a command was asked for.
use Rattle.std.proofs.Common.{◌∙◌, ◌-◌, rules, sym}
use Rattle.lb_passes.proofs.AskLaws.{many_of, told_gained, turn_gained}
use Rattle.lb_passes.proofs.CallLaws.{command_gained, commands_of, refuses_of}
use Rattle.lb_passes.proofs.GainLaws.{taken_one}
use Rattle.lb_passes.proofs.holds.command_in.Goals as goal

pub slot_mut-requires : goal.slot_mut-requires
slot_mut-requires g c =
    let came = c.take_turn.ensures.came in
    (c.take_turn.ensures.of ∙ c.requires.own.of, (came.1.book, taken_one _ _ came.0 came.1 c.args.pass.now.idle))

pub end_turn-requires-clause-told : goal.end_turn-requires-clause-told
end_turn-requires-clause-told g c =
    let came = c.take_turn.ensures.came in
    let e = c.command_after-done.ensures in
    let gained = command_gained c.args.pass.now.seat.me.0 c.slot_mut.result.now c.command_after-done.new.book c.args.receipts.now.items
    c.command_after-done.new.receipts.items c.args.on c.args.command.now c.command_after-done.result e.ok e.err in
    told_gained c.args.pass.now.seat.me c.take_turn.new.seat.me came.0 came.1 c.args.pass.now.idle _ _ c.slot_mut.ensures.value _ _ _ _ _ gained
    (c.requires.own.caller ∙ sym c.args.pass.now.numbered) (c.len.result - c.len-had.result)
    (many_of c.command_after-done.new.receipts.items c.args.receipts.now.items _ _ (search rules) (search rules))

pub returns-clause-ok : goal.returns-clause-ok
returns-clause-ok g c =
    let came = c.take_turn.ensures.came in
    let e = c.command_after-done.ensures in
    let gained = command_gained c.args.pass.now.seat.me.0 c.slot_mut.result.now c.command_after-done.new.book c.args.receipts.now.items
    c.command_after-done.new.receipts.items c.args.on c.args.command.now c.command_after-done.result e.ok e.err in
    let turn = turn_gained c.args.pass.now.seat.me c.take_turn.new.seat.me came.0 came.1 c.args.pass.now.idle _ _ c.slot_mut.ensures.value _ _ _ _ _ gained
    (c.requires.own.caller ∙ sym c.args.pass.now.numbered) (c.len.result - c.len-had.result)
    (many_of c.command_after-done.new.receipts.items c.args.receipts.now.items _ _ (search rules) (search rules))
    c.end_turn.new.seat.me c.end_turn.ensures.ended in
    commands_of _ _ _ _ _ _ c.args.on c.args.command.now c.command_after-done.result turn e.ok e.named

pub returns-clause-err : goal.returns-clause-err
returns-clause-err g c =
    let came = c.take_turn.ensures.came in
    let e = c.command_after-done.ensures in
    let gained = command_gained c.args.pass.now.seat.me.0 c.slot_mut.result.now c.command_after-done.new.book c.args.receipts.now.items
    c.command_after-done.new.receipts.items c.args.on c.args.command.now c.command_after-done.result e.ok e.err in
    let turn = turn_gained c.args.pass.now.seat.me c.take_turn.new.seat.me came.0 came.1 c.args.pass.now.idle _ _ c.slot_mut.ensures.value _ _ _ _ _ gained
    (c.requires.own.caller ∙ sym c.args.pass.now.numbered) (c.len.result - c.len-had.result)
    (many_of c.command_after-done.new.receipts.items c.args.receipts.now.items _ _ (search rules) (search rules))
    c.end_turn.new.seat.me c.end_turn.ensures.ended in
    refuses_of _ _ _ _ _ _ c.args.on c.args.command.now c.command_after-done.result turn e.err
