-- The session over what was lent, or none where memory was wanted for its inbox.
use Rattle.std.proofs.Common.{inl, inr, refl, rules, sym}
use Rattle.exchange.proofs.AwaitLaws.{awaits_none}
use Rattle.client_session.proofs.WayLaws.{holds_of_each, never_began, no_parts}
use Rattle.status_worker.proofs.DeskLaws.{none_met, untouched}
use Rattle.jk_server.proofs.client.serve_visit.Goals as goal

pub returns-in_default-clause-session : goal.returns-in_default-clause-session
returns-in_default-clause-session g c = record {
  ran = never_began _ _ _ (g.met.Y.RowSink.gains_nothing _);
  parts = no_parts _ _ refl;
  each = holds_of_each _ _;
  fault = search rules;
  met = none_met _;
  kept = untouched _ _;
  ready = c.requires.ready;
  idle_only = search rules;
  awaits = record { requests = inl (refl, refl) };
  dials = awaits_none _ _ _ _ _ refl;
}

pub returns-clause-session : goal.returns-clause-session
returns-clause-session g c =
    let e = c.serve_session-end.ensures in
    let desk = c.desk-1.given.1 (sym e.session.kept.same.0) in
    record {
      ran = rw desk e.session.session;
      parts = rw desk e.session.parts;
      each = e.each;
      fault = e.session.fault;
      met = rw desk e.session.met;
      kept = rw desk e.session.kept.kept;
      ready = rw desk e.session.kept.ready;
      idle_only = e.idle_only;
      awaits = record { requests = inr (rw desk e.awaits) };
      dials = e.dials;
    }
