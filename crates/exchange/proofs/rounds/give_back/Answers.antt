-- The ticket came back, or was a stray.
use Rattle.std.proofs.Common.{refl, None, Some}
use Rattle.exchange.proofs.rounds.give_back.Goals as goal

pub hand_back-requires-clause-bytes : goal.hand_back-requires-clause-bytes
hand_back-requires-clause-bytes g c = rw c.outcome_of.ensures c.requires.bytes

pub returns-in-Ok-clause-back : goal.returns-in-Ok-clause-back
returns-in-Ok-clause-back g c = record {
  stray = None;
  back = rw c.outcome_of.ensures at c.in-Ok.ensures.ok;
  fulls = c.hand_back.ensures.same.0;
  wides = c.hand_back.ensures.same.1;
  held = c.hand_back.ensures.held;
  follows = c.verdict_of.ensures;
}

pub returns-in-Err-clause-back : goal.returns-in-Err-clause-back
returns-in-Err-clause-back g c = record {
  stray = Some c.in-Err.stray;
  back = c.in-Err.ensures.err;
  fulls = c.hand_back.ensures.same.0;
  wides = c.hand_back.ensures.same.1;
  held = c.hand_back.ensures.held;
  follows = refl;
}
