-- The Maintain that was due, and then the command.
use Rattle.std.proofs.Common.{refl}
use Rattle.lb_book.proofs.PlainLaws.{gains_last}
use Rattle.lb_book.proofs.holds.command_after.Goals as goal

pub returns-clause-ok : goal.returns-clause-ok
returns-clause-ok c = (
  c.in_ok-entry.entry,
  c.in_ok-entry.ensures.ok.asked,
  c.in_ok-entry.ensures.done,
  gains_last _ _ _ _ _ _ _ _ _ _ _ c.in-Ok.ensures.due c.in_ok-entry.ensures.ok c.in_ok-entry.ensures.next c.note.ensures.added (λ t. refl),
)
