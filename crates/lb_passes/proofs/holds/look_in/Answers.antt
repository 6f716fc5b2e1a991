-- One turn, in which nothing was added.
use Rattle.std.proofs.Common.{◌∙◌, [], refl}
use Rattle.lb_passes.proofs.AskLaws.{told_gained, turn_gained}
use Rattle.lb_passes.proofs.CallLaws.{none_gained}
use Rattle.lb_passes.proofs.GainLaws.{taken_one}
use Rattle.lb_passes.proofs.holds.look_in.Goals as goal

pub slot_mut-requires : goal.slot_mut-requires
slot_mut-requires g c =
    let came = c.take_turn.ensures.came in
    (c.take_turn.ensures.of ∙ c.requires.of, (came.1.book, taken_one _ _ came.0 came.1 c.args.pass.now.idle))

pub end_turn-requires-clause-told : goal.end_turn-requires-clause-told
end_turn-requires-clause-told g c =
    let came = c.take_turn.ensures.came in
    told_gained c.args.pass.now.seat.me c.take_turn.new.seat.me came.0 came.1 c.args.pass.now.idle c.slot_mut.result.now c.slot_mut.result.now c.slot_mut.ensures.value
    [] [] 0 c.args.pass.now.seat.me.0.number 0 (none_gained c.args.pass.now.seat.me.0 c.slot_mut.result.now) refl 0 refl

pub returns-clause-looks : goal.returns-clause-looks
returns-clause-looks g c =
    let came = c.take_turn.ensures.came in
    record {
      book = c.slot_mut.result.now;
      turn =
          turn_gained c.args.pass.now.seat.me c.take_turn.new.seat.me came.0 came.1 c.args.pass.now.idle c.slot_mut.result.now c.slot_mut.result.now c.slot_mut.ensures.value
          [] [] 0 c.args.pass.now.seat.me.0.number 0 (none_gained c.args.pass.now.seat.me.0 c.slot_mut.result.now) refl 0 refl c.end_turn.new.seat.me c.end_turn.ensures.ended;
      present = c.view-view.ensures.present;
    }
