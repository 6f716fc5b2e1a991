use Rattle.std.proofs.Common.{◌≡◌, ap, length, arith}
use Rattle.std.proofs.lemmas.List.Elements.{All-same}
use Rattle.jk_server.proofs.workers.fill_slots.Goals as goal

pub put_slots-requires-clause-room : goal.put_slots-requires-clause-room
put_slots-requires-clause-room g c = λ κs within.
    let all : c.into_iter-gears.result.rest.items ≡ c.args.gears.items = cc in
    omega (arith, ap length all, c.args.gears.ok.0, c.requires.room)

pub put_slots-requires-clause-idle : goal.put_slots-requires-clause-idle
put_slots-requires-clause-idle g c = λ κs within.
    let all : c.into_iter-gears.result.rest.items ≡ c.args.gears.items = cc in
    All-same (λ x. g.T.Tape.is_idle x.tape) _ _ all c.requires.idle

pub returns : goal.returns
returns g c = record {
  starts =
      let all : c.into_iter-gears.result.rest.items ≡ c.args.gears.items = cc in
      rw (← all) c.put_slots.ensures.starts;
}
