use Rattle.std.specs.Prelude.{◌≡◌, ◌≤◌, length, take}
use Rattle.waiting_room.proofs.door.look_at.Given as goal

-- no fewer bytes than before are there, the same ones first
abbrev pub invariant-loop : goal.invariant-loop
invariant-loop l = record {
  more : l.initial.count ≤ l.count;
  within : l.count ≤ length l.buffer;
  same : length l.buffer ≡ length l.initial.buffer;
  kept : take l.initial.count l.buffer ≡ take l.initial.count l.initial.buffer;
}
