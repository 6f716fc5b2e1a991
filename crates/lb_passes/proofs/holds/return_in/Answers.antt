-- One turn, in which a ticket came back.
use Rattle.std.proofs.Common.{◌∙◌, sym, true≢false}
use Rattle.lb_passes.proofs.AskLaws.{told_gained, turn_gained}
use Rattle.lb_passes.proofs.CallLaws.{return_gained, return_one, taken_out}
use Rattle.lb_passes.proofs.GainLaws.{taken_of, taken_one}
use Rattle.lb_passes.proofs.holds.return_in.Goals as goal

pub slot_mut-requires : goal.slot_mut-requires
slot_mut-requires g c =
    let came = c.take_turn.ensures.came in
    (c.take_turn.ensures.of ∙ c.requires.own.of, (came.1.book, taken_one _ _ came.0 came.1 c.args.pass.now.idle))

pub unreachable-requires : goal.unreachable-requires
unreachable-requires g c =
    let came = c.take_turn.ensures.came in
    let taken = taken_of c.args.pass.now.seat.me c.take_turn.new.seat.me came.0 came.1 c.args.pass.now.idle c.slot_mut.result.now c.slot_mut.ensures.value in
    let out = taken_out c.args.pass.now.seat.me.0 c.slot_mut.result.now c.args.back.ticket taken c.requires.out.made c.requires.out.still in
    true≢false (sym (c.in_default.ensures.found.1 out))

pub end_turn-requires-clause-told : goal.end_turn-requires-clause-told
end_turn-requires-clause-told g c =
    let came = c.take_turn.ensures.came in
    let gained = return_gained c.args.pass.now.seat.me.0 c.slot_mut.result.now c.return_ticket-returned.new.self c.args.receipts.now.items c.note.new.receipts.items
    c.args.on c.args.back.ticket c.args.back.outcome c.in-Ok.entry c.note.ensures.added c.in-Ok.ensures.ok c.in-Ok.ensures.next c.requires.out.made in
    told_gained c.args.pass.now.seat.me c.take_turn.new.seat.me came.0 came.1 c.args.pass.now.idle _ _ c.slot_mut.ensures.value _ _ _ _ _ gained
    (c.requires.own.caller ∙ sym c.args.pass.now.numbered) 1 (return_one _ _ _ c.note.ensures.added)

pub returns-clause-back : goal.returns-clause-back
returns-clause-back g c =
    let came = c.take_turn.ensures.came in
    let gained = return_gained c.args.pass.now.seat.me.0 c.slot_mut.result.now c.return_ticket-returned.new.self c.args.receipts.now.items c.note.new.receipts.items
    c.args.on c.args.back.ticket c.args.back.outcome c.in-Ok.entry c.note.ensures.added c.in-Ok.ensures.ok c.in-Ok.ensures.next c.requires.out.made in
    record {
      book = c.slot_mut.result.now;
      new = c.return_ticket-returned.new.self;
      entry = c.in-Ok.entry;
      turn =
          turn_gained c.args.pass.now.seat.me c.take_turn.new.seat.me came.0 came.1 c.args.pass.now.idle _ _ c.slot_mut.ensures.value _ _ _ _ _ gained
          (c.requires.own.caller ∙ sym c.args.pass.now.numbered) 1 (return_one _ _ _ c.note.ensures.added) c.end_turn.new.seat.me c.end_turn.ensures.ended;
      receipts = c.note.ensures.added;
      adds = c.in-Ok.ensures.ok;
      done = c.in-Ok.ensures.done;
      next = c.in-Ok.ensures.next;
    }
