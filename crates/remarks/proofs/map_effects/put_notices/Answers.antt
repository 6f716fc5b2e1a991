use Rattle.std.proofs.Common.{rules}
use Rattle.remarks.specs.MapNotices.{map_notice}
use Rattle.remarks.proofs.AddedLemmas.{failed}
use Rattle.remarks.proofs.NoticeLemmas.{note_cut}
use Rattle.remarks.proofs.map_effects.put_notices.Goals as goal

pub returns-in_err-put_buffered : goal.returns-in_err-put_buffered
returns-in_err-put_buffered g c = record {
  added =
      failed c.from_residual.result _ c.args.out.now.said c.put_buffered.new.out.said _ c.from_residual.ensures.1
      (note_cut (map_notice c.args.file.now) c.args.notes.now c.loop-note.note-index c.note-item.result c.args.out.now.said c.loop-note.out.said c.put_buffered.new.out.said c.loop-note-test.true c.note-item.is c.loop-note.invariant.said c.in_err-put_buffered.ensures.added);
  cause = search rules;
  steady = search rules;
}
