use Rattle.std.proofs.Common.{◌≡◌, ◌≤◌, ◌==◌, None, false, length, drop}
use Rattle.std.specs.List.{list_any}
use Rattle.http_front.specs.Host.{split_port}
use Rattle.http_front.proofs.hosts.split_port.Given as goal

-- after this place stands neither a colon nor a bracket
abbrev pub invariant-loop-at : goal.invariant-loop-at
invariant-loop-at l = record {
  within : l.at ≤ length l.host;
  none : split_port (drop l.at l.host) ≡ None;
  open_end : list_any (λ c. c == 93) (drop l.at l.host) ≡ false;
}

abbrev pub decreases-loop-at : goal.decreases-loop-at
decreases-loop-at l = l.at
