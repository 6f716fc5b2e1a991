use Rattle.ajp_wire.specs.Moments.{link_at}
use Rattle.std.proofs.Common.{◌≡◌, ◌≤◌, ◌-◌}
use Rattle.ajp_talk.proofs.DrainLaws.{Draining}
use Rattle.ajp_talk.proofs.drain.drain.Given as goal

-- chunks came, and nothing else
abbrev pub invariant-loop-keep : goal.invariant-loop-keep
invariant-loop-keep g l = record {
  draining : Draining l.plan
      (link_at g.L.Meanings l.initial.line)
      (link_at g.L.Meanings l.line)
      (link_at g.C.Meanings l.initial.client)
      (link_at g.C.Meanings l.client)
      l.initial.course l.course;
  incoming : g.C.Meanings.incoming l.client ≡ g.C.Meanings.incoming l.initial.client;
  line_beside : g.L.Meanings.beside l.line ≡ g.L.Meanings.beside l.initial.line;
  client_beside : g.C.Meanings.beside l.client ≡ g.C.Meanings.beside l.initial.client;
  line_faults : g.L.Meanings.faults l.initial.line ≤ g.L.Meanings.faults l.line;
  client_faults : g.C.Meanings.faults l.initial.client ≤ g.C.Meanings.faults l.client;
}

abbrev pub decreases-loop-keep : goal.decreases-loop-keep
decreases-loop-keep g l = l.plan.most - l.course.received
