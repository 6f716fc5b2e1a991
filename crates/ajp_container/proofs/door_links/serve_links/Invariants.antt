-- The links so far were served, and the worker goes on.
use Rattle.jk_io.specs.Doors.{side}
use Rattle.ajp_container.proofs.ServingLaws.{IsUnderWay}
use Rattle.ajp_container.proofs.door_links.serve_links.Given as goal

abbrev pub invariant-links : goal.invariant-links
invariant-links g l =
    IsUnderWay l.app g.D.L.Meanings (side g.D.Door.coming g.D.Door.left g.D.Door.faults l.initial.door)
    (side g.D.Door.coming g.D.Door.left g.D.Door.faults l.door) l.links
