use Rattle.std.proofs.Common.{◌≡◌, ◌+◌, ◌≤◌, length, vec_len}
use Rattle.site_config.specs.Entries.{as_properties}
use Rattle.site_config.specs.Lines.{lines}
use Rattle.site_config.specs.Properties.{read_lines, read_text, with_properties}
use Rattle.site_config.proofs.first_pass.read_entries.Given as goal

-- the properties so far, in front of those that the rest gives
abbrev pub invariant-loop-line : goal.invariant-loop-line
invariant-loop-line l = record {
  few : vec_len l.entries ≤ l.number;
  count : l.number + length l.rest ≤ length l.text;
  read : with_properties (as_properties l.entries.items) (read_lines l.values (l.number + 1) (lines l.rest)) ≡ read_text l.values l.text;
}

abbrev pub decreases-loop-line : goal.decreases-loop-line
decreases-loop-line l = length l.rest
