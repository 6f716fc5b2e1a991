use Rattle.std.proofs.Common.{◌≡◌, ◌≤◌, ◌+◌, Some, length}
use Rattle.jk_io.specs.Told.{appended}
use Rattle.site_config.specs.Lines.{lines}
use Rattle.remarks.specs.Firsts.{as_first}
use Rattle.remarks.specs.Refused.{first_wrong, refused_from, refused_lines, wrong_by}
use Rattle.remarks.proofs.refused.put_refused.Given as goal

-- what was said, in front of what is said of the lines that are left, where the first refused one is one of these or was passed
abbrev pub invariant-loop-line : goal.invariant-loop-line
invariant-loop-line g l = record {
  count : l.number + length l.rest ≤ length l.file.text.now;
  steady : l.out.faults ≡ l.fn.out.faults;
  first : l.number + 1 ≤ l.first.line → first_wrong (wrong_by l.judge) (l.number + 1) (lines l.rest) ≡ Some (as_first l.first);
  said : appended l.out.said (refused_from (wrong_by l.judge) l.file.name.now (l.number + 1) (lines l.rest))
      ≡ appended l.fn.out.said (refused_lines (wrong_by l.judge) l.file.name.now l.file.text.now);
}

abbrev pub decreases-loop-line : goal.decreases-loop-line
decreases-loop-line g l = length l.rest
