use Rattle.std.proofs.Common.{◌≡◌, take}
use Rattle.jk_io.specs.Told.{appended}
use Rattle.remarks.specs.Notices.{notices}
use Rattle.remarks.proofs.notices.put_notices.Given as goal

-- the notices so far
abbrev pub invariant-loop-note : goal.invariant-loop-note
invariant-loop-note g l = record {
  steady : l.out.faults ≡ l.fn.out.faults;
  said : l.out.said ≡ appended l.fn.out.said (notices l.file (take l.note-index l.notes));
}
