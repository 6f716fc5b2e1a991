-- A member that serves has a place left.
use Rattle.std.proofs.Common.{◌<◌, ◌∙◌, ℕ, sym, subst}
use Rattle.lb_rules.proofs.PlaceLaws.{home_there, place_room}
use Rattle.lb_rules.proofs.choice.routed.Goals as goal

pub returns-then-serves-clause-room : goal.returns-then-serves-clause-room
returns-then-serves-clause-room c =
    let there = home_there c.args.config.now c.args.ask.now c.in_ok-member.member (sym c.home_of.ensures ∙ c.in_ok-member.was) in
    let within = subst (λ (n : ℕ). c.in_ok-member.member < n) (sym c.requires.whole) there in
    place_room c.args.rows.now c.args.ask.now c.in_ok-member.member _ within (sym c.serves.ensures ∙ c.if-serves.true)
