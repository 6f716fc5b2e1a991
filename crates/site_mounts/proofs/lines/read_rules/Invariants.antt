use Rattle.std.proofs.Common.{◌≡◌, ◌+◌, ◌*◌, ◌≤◌, ◌++◌, length}
use Rattle.site_config.specs.Lines.{lines}
use Rattle.site_mounts.specs.Lines.{read_lines, read_text, with_rules}
use Rattle.site_mounts.specs.MapNotes.{map_notes, notes_from}
use Rattle.site_mounts.proofs.lines.read_rules.Given as goal

-- the rules and the notes so far, in front of those that the rest gives
abbrev pub invariant-loop-line : goal.invariant-loop-line
invariant-loop-line l = record {
  numbers : l.number + length l.rest ≤ length l.text;
  count : length l.read.rules.items ≤ 2 * l.number;
  read : with_rules l.read.rules.items (read_lines l.config (l.number + 1) (lines l.rest)) ≡ read_text l.config l.text;
  noted : l.read.notes.items ++ notes_from l.config (l.number + 1) (lines l.rest) ≡ map_notes l.config l.text;
}

abbrev pub decreases-loop-line : goal.decreases-loop-line
decreases-loop-line l = length l.rest
