use Rattle.std.proofs.Common.{length, ◌-◌, ◌≡◌, ◌≤◌, take}
use Rattle.jk_io.specs.Told.{appended, prepended}
use Rattle.jk_io.proofs.reading.fill.Given as goal

-- the front before `count` came from the source
abbrev pub invariant-loop-count : goal.invariant-loop-count
invariant-loop-count g l = record {
  within : l.count ≤ length l.buf;
  gave : g.S.Meanings.incoming l.initial.source ≡ prepended (take l.count l.buf) (g.S.Meanings.incoming l.source);
  got : g.S.Meanings.received l.source ≡ appended (g.S.Meanings.received l.initial.source) (take l.count l.buf);
  sent : g.S.Meanings.sent l.source ≡ g.S.Meanings.sent l.initial.source;
  beside : g.S.Meanings.beside l.source ≡ g.S.Meanings.beside l.initial.source;
  steady : g.S.Meanings.faults l.source ≡ g.S.Meanings.faults l.initial.source;
}

abbrev pub decreases-loop-count : goal.decreases-loop-count
decreases-loop-count g l = length l.initial.buf - l.count
