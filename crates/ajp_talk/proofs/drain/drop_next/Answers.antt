-- A message came, or none.
use Rattle.std.proofs.Common.{refl, inl, inr}
use Rattle.ajp_talk.proofs.SendingLaws.{keeps-same}
use Rattle.ajp_talk.proofs.drain.drop_next.Goals as goal

pub returns-in-Ok-clause-dropped : goal.returns-in-Ok-clause-dropped
returns-in-Ok-clause-dropped g c =
    inl (record { message = c.in-Ok.message; count = c.receive.new.count; heard = c.in-Ok.ensures.heard; acts = c.drop_message.ensures.dropped })

pub returns-in-Err-clause-dropped : goal.returns-in-Err-clause-dropped
returns-in-Err-clause-dropped g c =
    inr (record { why = c.in-Err.why; count = c.receive.new.count; want = record {}; unheard = c.in-Err.ensures.unheard; closes = c.rest_without.ensures; course = refl; client = refl })

pub returns-in-Ok-clause-keeps : goal.returns-in-Ok-clause-keeps
returns-in-Ok-clause-keeps g c = (c.receive.ensures.keeps, c.drop_message.ensures.keeps)

pub returns-in-Err-clause-keeps : goal.returns-in-Err-clause-keeps
returns-in-Err-clause-keeps g c = (c.receive.ensures.keeps, keeps-same g.C.Meanings c.args.client.now)
