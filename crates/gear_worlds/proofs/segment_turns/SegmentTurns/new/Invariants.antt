-- Each round makes one place.
use Rattle.std.proofs.Common.{◌≡◌, vec_len}
use Rattle.gear_worlds.proofs.segment_turns.SegmentTurns.new.Given as goal

abbrev pub invariant-loop : goal.invariant-loop
invariant-loop l = vec_len l.places ≡ l.counter
