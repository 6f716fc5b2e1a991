use Rattle.waiting_room.specs.Longest.{LongestIn}
use Rattle.waiting_room.proofs.places.Places.longest_in.Given as goal

-- who has waited longest at the places so far
abbrev pub invariant-loop-at : goal.invariant-loop-at
invariant-loop-at g l = LongestIn l.phase l.self.places l.at l.best
