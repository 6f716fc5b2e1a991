use Rattle.std.proofs.Common.{◌≡◌, ◌∙◌, ap, length, sym}
use Rattle.std.proofs.lemmas.List.Elements.{All-same}
use Rattle.jk_server.specs.Parts.{WorkerIsOver}
use Rattle.jk_server.proofs.SlotLaws.{room_so}
use Rattle.jk_server.proofs.workers.empty_slots.Goals as goal

pub empty_each-requires-clause-over : goal.empty_each-requires-clause-over
empty_each-requires-clause-over g c = λ κs within.
    let all : c.into_iter-slots.result.rest.items ≡ c.args.slots.items = cc in
    All-same (λ s. WorkerIsOver s) _ _ all c.requires.over

pub empty_each-requires-clause-room : goal.empty_each-requires-clause-room
empty_each-requires-clause-room g c = λ κs within.
    let all : c.into_iter-slots.result.rest.items ≡ c.args.slots.items = cc in
    room_so _ _ _ (ap length all ∙ sym c.args.slots.ok.0) c.requires.room

pub returns : goal.returns
returns g c =
    let all : c.into_iter-slots.result.rest.items ≡ c.args.slots.items = cc in
    rw (← all) c.empty_each.ensures
