-- The Maintain that was due, and then the Select.
use Rattle.std.proofs.Common.{refl}
use Rattle.lb_book.proofs.PlainLaws.{gains_last, picks_due}
use Rattle.lb_book.proofs.holds.select_after.Goals as goal

pub returns-clause-ok : goal.returns-clause-ok
returns-clause-ok c =
    gains_last _ _ _ _ _ _ _ _ _ _ _ c.in_ok-maintain_first.ensures.due c.in_ok-picked.ensures.ok c.in_ok-picked.ensures.next c.note.ensures.added (λ t. refl)

pub returns-clause-picks : goal.returns-clause-picks
returns-clause-picks c =
    picks_due _ _ _ _ _ _ _ _ _ _ _ c.in_ok-maintain_first.ensures.due c.in_ok-picked.ensures.ok c.in_ok-picked.ensures.sound c.in_ok-picked.ensures.pick
