-- The note of the talk is the one that the caller knows.
use Rattle.std.proofs.Common.{take, true, ap, ◌∙◌}
use Rattle.jk_io.specs.declared.reaching.Beside.{Beside}
use Rattle.jk_io.proofs.TalkLaws.{note_of_talk}
use Rattle.jk_io.proofs.ToldLaws.{one_more}
use Rattle.check_rows.proofs.callers.ask.Goals as goal

pub returns-in-Ok-clause-talk : goal.returns-in-Ok-clause-talk
returns-in-Ok-clause-talk g c =
    let e = c.in-Ok.ensures in
    let begun = c.in_ok-begin.ensures in (
      _,
      c.first_with-asked.ensures.0,
      c.first_with-asked.ensures.1,
      one_more _ _ _ _ (ap (λ (b : Beside). b.talks) e.same ∙ begun.ok)
          (c.finish.ensures.noted _
          (note_of_talk _ _ _ _ _ _ _ c.args.piece.now (take c.in-Ok.n c.say.new.buf) true begun.begun e.same begun.nothing_yet e.sent e.got)),
    )
