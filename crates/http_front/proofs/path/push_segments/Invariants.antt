use Rattle.std.proofs.Common.{◌≡◌, ◌++◌, length, map}
use Rattle.std.specs.List.{list_any}
use Rattle.http_front.specs.Path.{joined, segments, clean_segment, is_dots}
use Rattle.http_front.proofs.path.push_segments.Given as goal

-- what is clean so far and what is left make the whole
abbrev pub invariant-loop-at : goal.invariant-loop-at
invariant-loop-at l = record {
  joined : l.clean.items ++ joined l.rest ≡ l.initial.clean.items ++ joined l.path;
  dots : list_any is_dots (map clean_segment (segments l.rest)) ≡ list_any is_dots (map clean_segment (segments l.path));
}

abbrev pub decreases-loop-at : goal.decreases-loop-at
decreases-loop-at l = length l.rest
