-- A round: the desk answered, talks were held on the member, and its lease went back.
use Rattle.std.proofs.Common.{◌≡◌, ℕ, Option, IfSome, refl, sym, ap, subst, arith}
use Rattle.lb_book.proofs.DeskLaws.{held_made}
use Rattle.lb_book.specs.Desks.{pair_of}
use Rattle.exchange.specs.Means.{around_of}
use Rattle.exchange.specs.Requests.{errand_of}
use Rattle.exchange.proofs.AwaitLaws.{awaits_none}
use Rattle.exchange.proofs.DeskLaws.{after_none}
use Rattle.exchange.proofs.KeepingLaws.{sides_untouched, spent_desk, spent_held}
use Rattle.exchange.proofs.RoundLaws.{no_lease, none_held, told_at_most, went_back}
use Rattle.exchange.proofs.rounds.one_round.Goals as goal

pub chosen-requires-clause-lb : goal.chosen-requires-clause-lb
chosen-requires-clause-lb g c = c.requires.may.lb

pub chosen-requires-clause-caller : goal.chosen-requires-clause-caller
chosen-requires-clause-caller g c = c.requires.may.caller

pub target_of-to-requires : goal.target_of-to-requires
target_of-to-requires g c = omega (arith, c.in-Ok.ensures.ok.answered.5, c.requires.may.desk_size)

pub run_talks-ran-requires-clause-may : goal.run_talks-ran-requires-clause-may
run_talks-ran-requires-clause-may g c = record {
  idle = c.requires.may.idle;
  known = rw (c.target_of-to.ensures.member, c.requires.may.reach_size) (omega (arith, c.in-Ok.ensures.ok.answered.5, c.requires.may.desk_size));
  taken = c.requires.first.taken;
  going = c.requires.first.going;
}

pub run_talks-ran-requires-clause-short : goal.run_talks-ran-requires-clause-short
run_talks-ran-requires-clause-short g c = c.requires.first.short _ _ c.target_of-to.ensures.endpoint

pub give_back-requires-clause-caller : goal.give_back-requires-clause-caller
give_back-requires-clause-caller g c =
    subst (λ (told : Option ℕ). IfSome told (λ k. c.args.request.now.session ≡ k)) (sym c.chosen.ensures.kept.caller) c.requires.may.caller

pub give_back-requires-clause-held : goal.give_back-requires-clause-held
give_back-requires-clause-held g c = held_made _ _ _ _ c.in-Ok.ensures.ok.answered.4 (ap pair_of c.in-Ok.ensures.ok.answered.3)

pub give_back-requires-clause-bytes : goal.give_back-requires-clause-bytes
give_back-requires-clause-bytes g c =
    told_at_most (errand_of c.args.request.now) c.args.first.now c.target_of-to.result.member c.target_of-to.result.config.now c.target_of-to.result.endpoint.now c.args.fresh
    (around_of g.R.Meanings g.C.Meanings c.args.means.now.sides) (around_of g.R.Meanings g.C.Meanings c.run_talks-ran.new.sides)
    c.run_talks-ran.result c.run_talks-ran.ensures.ran

pub returns-clause-step : goal.returns-clause-step
returns-clause-step g c =
    let back = rw c.target_of-to.ensures.member at c.give_back.ensures.back in
    went_back g.B.Desk.note _ _ _ _ _ c.now-at.result c.now-back_at.result c.args.ask.now c.in-Ok.chosen.0 c.in-Ok.chosen.1
    c.target_of-to.result.config.now c.target_of-to.result.endpoint.now c.run_talks-ran.result _ _ back.stray c.give_back.result
    (record {
      ask_is = c.requires.ask;
      asked_at = c.now-at.ensures;
      chose = c.in-Ok.ensures.ok;
      configured = c.target_of-to.ensures.config;
      reached = c.target_of-to.ensures.endpoint;
      talked = rw c.target_of-to.ensures.member at c.run_talks-ran.ensures.ran;
      handed_at = c.now-back_at.ensures;
      back = back.back;
      fulls = back.fulls;
      let_go = back.held;
    }) back.follows

pub returns-clause-kept : goal.returns-clause-kept
returns-clause-kept g c =
    let back = rw c.target_of-to.ensures.member at c.give_back.ensures.back in
    record {
      held = spent_held g.B.Desk.note _ _ _ _ _ _ _ _ _ _ _ _ _ _ c.in-Ok.ensures.ok back;
      kept = spent_desk g.B.Desk.note _ _ _ _ _ _ _ _ _ _ _ _ _ _ c.chosen.ensures.kept c.in-Ok.ensures.ok c.give_back.ensures.kept back;
      desk = refl;
      clock = refl;
      sides = c.run_talks-ran.ensures.kept;
    }

pub returns-in-Err-clause-step : goal.returns-in-Err-clause-step
returns-in-Err-clause-step g c =
    no_lease g.B.Desk.note g.B.Desk.numbers _ _ _ _ _ c.now-at.result c.args.ask.now _ c.requires.ask c.now-at.ensures refl c.in-Err.ensures.err

pub returns-in-Err-clause-kept : goal.returns-in-Err-clause-kept
returns-in-Err-clause-kept g c = record {
  held = none_held g.B.Desk.note g.B.Desk.numbers _ _ _ _ _ _ _ c.in-Err.ensures.err;
  kept = after_none g.B.Desk.note g.B.Desk.numbers _ _ _ _ _ _ _ c.chosen.ensures.kept c.in-Err.ensures.err;
  desk = refl;
  clock = refl;
  sides = sides_untouched _ _ _ c.requires.may.idle;
}

pub returns-clause-awaits : goal.returns-clause-awaits
returns-clause-awaits g c = λ lbs stands. c.run_talks-ran.ensures.awaits (rw c.target_of-to.ensures.member c.target_of-to.ensures.endpoint) lbs stands

pub returns-in-Err-clause-awaits : goal.returns-in-Err-clause-awaits
returns-in-Err-clause-awaits g c = λ lbs stands. awaits_none _ _ _ _ _ refl
