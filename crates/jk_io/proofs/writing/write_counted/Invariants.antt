use Rattle.std.proofs.Common.{length, ◌-◌, ◌+◌, ◌≡◌, ◌≤◌, take}
use Rattle.jk_io.specs.Told.{appended}
use Rattle.jk_io.proofs.writing.write_counted.Given as goal

-- the front before `at` was taken and counted
abbrev pub invariant-loop-at : goal.invariant-loop-at
invariant-loop-at g l = record {
  within : l.at ≤ length l.piece;
  counted : l.written ≡ l.initial.written + l.at;
  put : g.S.Meanings.sent l.sink ≡ appended (g.S.Meanings.sent l.initial.sink) (take l.at l.piece);
  incoming : g.S.Meanings.incoming l.sink ≡ g.S.Meanings.incoming l.initial.sink;
  received : g.S.Meanings.received l.sink ≡ g.S.Meanings.received l.initial.sink;
  beside : g.S.Meanings.beside l.sink ≡ g.S.Meanings.beside l.initial.sink;
  steady : g.S.Meanings.faults l.sink ≡ g.S.Meanings.faults l.initial.sink;
}

abbrev pub decreases-loop-at : goal.decreases-loop-at
decreases-loop-at g l = length l.piece - l.at
