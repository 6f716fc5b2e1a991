use Rattle.std.proofs.Common.{◌≡◌, ◌-◌, ◌^◌, length}
use Rattle.ajp_wire.specs.Moments.{link_at}
use Rattle.ajp_container.proofs.BodyLaws.{AsksOn}
use Rattle.ajp_container.proofs.body.add_rest.Given as goal

-- what was asked for so far, and that no answer was the empty body packet
abbrev pub invariant-asks : goal.invariant-asks
invariant-asks g l = record {
  asked : AsksOn l.app l.forward l.initial.body l.body
      (link_at g.L.Meanings l.initial.link)
      (link_at g.L.Meanings l.link);
  same : g.L.Meanings.beside l.link ≡ g.L.Meanings.beside l.initial.link;
}

abbrev pub decreases-asks : goal.decreases-asks
decreases-asks g l = 2 ^ 64 - length l.body
