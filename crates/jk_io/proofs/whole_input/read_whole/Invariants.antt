use Rattle.std.proofs.Common.{length, ◌-◌, ◌<◌, ◌≡◌, ◌≤◌}
use Rattle.jk_io.specs.declared.whole_input.TheConstants.{MAX_INPUT_BYTES}
use Rattle.jk_io.specs.Inputs.{HasRead}
use Rattle.jk_io.proofs.whole_input.read_whole.Given as goal

-- the text so far was read
abbrev pub invariant-loop-text : goal.invariant-loop-text
invariant-loop-text g l = record {
  read : HasRead (g.S.Meanings.incoming l.initial.source) (g.S.Meanings.received l.initial.source) l.text
      (g.S.Meanings.incoming l.source) (g.S.Meanings.received l.source);
  short : length l.text ≤ MAX_INPUT_BYTES;
  chunk : 0 < length l.chunk.items;
  sent : g.S.Meanings.sent l.source ≡ g.S.Meanings.sent l.initial.source;
  beside : g.S.Meanings.beside l.source ≡ g.S.Meanings.beside l.initial.source;
  steady : g.S.Meanings.faults l.source ≡ g.S.Meanings.faults l.initial.source;
}

abbrev pub decreases-loop-text : goal.decreases-loop-text
decreases-loop-text g l = MAX_INPUT_BYTES - length l.text
