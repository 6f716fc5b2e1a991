use Rattle.std.proofs.Common.{reverse, sym}
use Rattle.std.proofs.lemmas.List.{length-reverse}
use Rattle.lb_rules.proofs.SpotLaws.{no_spot, unmade_is_not_out, unmade_is_not_returned}
use Rattle.lb_rules.proofs.TableLaws.{spot_placed, spot_out, spot_back}
use Rattle.lb_rules.proofs.tickets.locate.Goals as goal

pub returns-in_default-clause-returned : goal.returns-in_default-clause-returned
returns-in_default-clause-returned c = λ v legal.
    unmade_is_not_returned v c.args.opening.now (reverse c.args.entries.now) c.args.ticket legal
    (no_spot v c.args.opening.now c.args.entries.now c.args.ticket legal c.in_default.ensures.none)

pub returns-in_default-clause-stray : goal.returns-in_default-clause-stray
returns-in_default-clause-stray c = λ v legal.
    unmade_is_not_out c.args.opening.now (reverse c.args.entries.now) c.args.ticket
    (no_spot v c.args.opening.now c.args.entries.now c.args.ticket legal c.in_default.ensures.none)

pub returned_at-requires : goal.returned_at-requires
returned_at-requires c =
    spot_placed c.args.opening.now (reverse c.args.entries.now) c.args.entries.now c.args.kept.now c.args.early.now c.args.ticket
    c.in-Some.member c.in-Some.spot (sym (length-reverse c.args.entries.now)) c.requires.returns c.in-Some.ensures.found

pub returns-in-None-clause-out : goal.returns-in-None-clause-out
returns-in-None-clause-out c = λ v legal.
    spot_out v c.args.opening.now c.args.entries.now c.args.kept.now c.args.early.now c.args.ticket c.in-Some.member c.in-Some.spot
    legal c.requires.returns c.in-Some.ensures.found c.in-None.ensures

pub returns-in-Some-returned_at-clause-stray : goal.returns-in-Some-returned_at-clause-stray
returns-in-Some-returned_at-clause-stray c = λ v legal.
    (spot_back c.args.opening.now c.args.entries.now c.args.kept.now c.args.early.now c.args.ticket c.in-Some.member
    c.in-Some-returned_at.number c.in-Some.spot c.requires.returns c.in-Some.ensures.found c.in-Some-returned_at.ensures).1
