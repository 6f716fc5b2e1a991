use Rattle.std.proofs.Common.{◌≡◌, ◌≤◌, ◌<◌, ◌-◌, [], Some, length, take}
use Rattle.http_front.specs.Body.{place_behind, data_from}
use Rattle.http_front.specs.Falls.{framing_left, exact_left}
use Rattle.http_front.proofs.walk.step_framing.Given as goal

-- the bytes so far are framing of the body
abbrev pub invariant-loop-used : goal.invariant-loop-used
invariant-loop-used l = record {
  within : l.used ≤ length l.bytes;
  own : place_behind (take l.used l.bytes) l.fn.start ≡ Some l.place;
  brings : (data_from (take l.used l.bytes) l.fn.start).bytes ≡ [];
  falls : framing_left l.place < framing_left l.fn.start;
  chunked : exact_left l.place ≡ 0;
}

abbrev pub decreases-loop-used : goal.decreases-loop-used
decreases-loop-used l = length l.bytes - l.used
