use Rattle.std.proofs.Common.{◌≡◌, ℕ, ◌<◌, ◌≤◌, length, get_or, None}
use Rattle.site_workers.specs.Given.{or_else}
use Rattle.site_workers.proofs.reference.inherited.Given as goal

-- below i the places are inherited, and from i on they are the row's own
abbrev pub invariant-loop-i : goal.invariant-loop-i
invariant-loop-i l = record {
  wide : length l.places ≡ 36;
  done : (k : ℕ) → k < l.i → get_or l.places k None ≡ or_else (get_or l.own k None) (get_or l.from k None);
  rest : (k : ℕ) → l.i ≤ k → get_or l.places k None ≡ get_or l.own k None;
}
