use Rattle.std.proofs.Common.{◌≡◌, ◌≤◌}
use Rattle.ajp_wire.specs.Moments.{link_at}
use Rattle.ajp_container.proofs.TurnLaws.{TalkSoFar}
use Rattle.ajp_container.proofs.serving.serve_ajp.Given as goal

-- the turns so far are over
abbrev pub invariant-turns : goal.invariant-turns
invariant-turns g l = record {
  so_far : TalkSoFar l.app
      (link_at g.L.Meanings l.initial.link)
      (link_at g.L.Meanings l.link) l.requests;
  few : l.requests ≤ l.counter;
  same : g.L.Meanings.beside l.link ≡ g.L.Meanings.beside l.initial.link;
}
