-- The redirect, where it serves, has a place left.
use Rattle.std.proofs.Common.{◌∙◌, sym}
use Rattle.lb_rules.proofs.PlaceLaws.{place_room}
use Rattle.lb_rules.proofs.choice.redirected.Goals as goal

pub returns-in-Some-clause-room : goal.returns-in-Some-clause-room
returns-in-Some-clause-room c =
    place_room c.args.rows.now c.args.ask.now c.in-Some.member _ (c.requires.within c.in-Some.member c.in-Some.is)
    (sym c.serves.ensures ∙ c.if-serves.true)
