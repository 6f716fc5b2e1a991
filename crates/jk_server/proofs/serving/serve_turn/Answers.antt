use Rattle.std.proofs.Common.{inl, refl, Some}
use Rattle.exchange.proofs.AwaitLaws.{awaits_none}
use Rattle.jk_server.proofs.RunLaws.{closes, fails, lacks, rests_next, room_left, turns}
use Rattle.jk_server.proofs.serving.serve_turn.Goals as goal

pub returns-in-Some : goal.returns-in-Some
returns-in-Some g c = record {
  turned = λ first s way. turns {L = g.row.L.Denot} _ _ _ _ _ _ _ _ _ _ _ _ _ (Some c.in-Some.end) way c.in-Client.ensures.arrives (inl c.in-Some.ensures.served);
  dials = c.in-Some.ensures.dials;
  fit = c.in-Some.ensures.fit;
  parts = c.in-Some.ensures.parts;
}

pub returns : goal.returns
returns g c =
    let next = rests_next _ _ _ _ _ _ _ _ c.in-None.ensures c.go_on.ensures in
    record {
      turned = λ first s way. turns {L = g.row.L.Denot} _ _ _ _ _ _ _ _ _ _ _ _ _ c.go_on.result way c.in-Client.ensures.arrives next.served;
      dials = next.dials;
      fit = next.fit;
      parts = next.parts;
    }

pub returns-in-Closed : goal.returns-in-Closed
returns-in-Closed g c = record {
  turned = λ first s way. closes {L = g.row.L.Denot} _ _ _ _ _ _ _ _ _ way c.in-Closed.ensures.arrives (c.in-Closed.ensures.steady refl);
  dials = awaits_none _ _ _ _ _ refl;
  fit = c.requires.ready.fit;
  parts = refl;
}

pub returns-in-Fault : goal.returns-in-Fault
returns-in-Fault g c = record {
  turned = λ first s way. fails {L = g.row.L.Denot} _ _ _ _ _ _ _ _ _ way c.in-Fault.ensures.arrives;
  dials = awaits_none _ _ _ _ _ refl;
  fit = c.requires.ready.fit;
  parts = refl;
}

pub returns-in-NoMemory : goal.returns-in-NoMemory
returns-in-NoMemory g c = record {
  turned = λ first s way. lacks {L = g.row.L.Denot} _ _ _ _ _ _ _ _ _ way c.in-NoMemory.ensures.arrives (c.in-NoMemory.ensures.wanted refl);
  dials = awaits_none _ _ _ _ _ refl;
  fit = c.requires.ready.fit;
  parts = refl;
}

pub serve_client-requires-clause-ready : goal.serve_client-requires-clause-ready
serve_client-requires-clause-ready g c = c.requires.ready

pub serve_client-requires-clause-room : goal.serve_client-requires-clause-room
serve_client-requires-clause-room g c = room_left _ _ c.in-Client.ensures.room

pub go_on-requires-clause-idle : goal.go_on-requires-clause-idle
go_on-requires-clause-idle g c = c.serve_client.ensures.fit.idle

pub go_on-requires-clause-none_held : goal.go_on-requires-clause-none_held
go_on-requires-clause-none_held g c = c.serve_client.ensures.fit.none_held
