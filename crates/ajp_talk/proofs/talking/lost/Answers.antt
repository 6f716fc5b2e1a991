-- The link is closed at once, or what came was dropped.
use Rattle.std.proofs.Common.{refl, inl, inr, true, false}
use Rattle.ajp_talk.proofs.SendingLaws.{keeps-same}
use Rattle.ajp_talk.proofs.talking.lost.Goals as goal

pub returns-then-plan-clause-ended : goal.returns-then-plan-clause-ended
returns-then-plan-clause-ended g c = inl (c.if-plan.true, c.gone.ensures, refl, refl)

pub returns-in-Ok-clause-ended : goal.returns-in-Ok-clause-ended
returns-in-Ok-clause-ended g c = inr (c.if-plan.false, (c.in-Ok.keep, false, c.in-Ok.ensures.drained, c.gone-in-Ok.ensures))

pub returns-in-Err-clause-ended : goal.returns-in-Err-clause-ended
returns-in-Err-clause-ended g c = inr (c.if-plan.false, (false, true, c.in-Err.ensures.drained, c.gone-in-Err.ensures))

pub returns-then-plan-clause-keeps : goal.returns-then-plan-clause-keeps
returns-then-plan-clause-keeps g c = (keeps-same g.L.Meanings c.args.line.now, keeps-same g.C.Meanings c.args.client.now)
