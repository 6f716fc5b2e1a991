use Rattle.std.proofs.Common.{◌∙◌}
use Rattle.exchange.proofs.AwaitLaws.{awaits_twice}
use Rattle.jk_server.proofs.RunLaws.{turns_again, turns_first}
use Rattle.jk_server.proofs.serving.serve_part.Goals as goal

pub clients-init : goal.clients-init
clients-init g c = turns_first _ _ _ _ _ c.requires.ready.fit c.requires.ready.logged

pub clients-preserved : goal.clients-preserved
clients-preserved g c = turns_again _ _ _ _ _ _ _ c.in-None-serve_turn.ensures c.saturating_add-sessions.ensures c.clients.invariant

pub serve_turn-requires : goal.serve_turn-requires
serve_turn-requires g c = record { ready = record { fit = c.clients.invariant.fit; logged = c.clients.invariant.way.logged } }

pub returns-in-Some-serve_turn : goal.returns-in-Some-serve_turn
returns-in-Some-serve_turn g c = record {
  served = c.in-Some-serve_turn.ensures.turned _ _ c.clients.invariant.way;
  dials = awaits_twice _ _ _ _ _ _ c.clients.invariant.dials c.in-Some-serve_turn.ensures.dials;
  fit = c.in-Some-serve_turn.ensures.fit;
  parts = c.in-Some-serve_turn.ensures.parts ∙ c.clients.invariant.parts;
}
