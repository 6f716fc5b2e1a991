use Rattle.std.proofs.Common.{List, Option, OnErr, ℕ, ap, subst, ◌∙◌}
use Rattle.jk_io.specs.Told.{appended}
use Rattle.remarks.specs.Added.{IsFrontOfText, RemarkOutState}
use Rattle.remarks.proofs.AddedLemmas.{sink_front}
use Rattle.remarks.proofs.remark_out.RemarkOut.finish.Goals as goal

pub returns-clause-front : goal.returns-clause-front
returns-clause-front g c =
    subst (λ (whole : Option (List ℕ)). OnErr c.write_all-written.result (IsFrontOfText whole (g.O.Meanings.sent c.write_all-written.new.sink)))
    (ap (appended (g.O.Meanings.sent c.self.inside.sink)) c.as_slice.ensures ∙ ap (λ (out : RemarkOutState). out.said) c.self.view_is)
    (sink_front c.write_all-written.result _ _ _ c.write_all-written.ensures.front)
