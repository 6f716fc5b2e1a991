use Rattle.std.proofs.Common.{reverse}
use Rattle.lb_model.proofs.BoundFacts.{busy_within, trial_out}
use Rattle.lb_model.proofs.OutFacts.{legal_room}
use Rattle.lb_model.proofs.laws.history_is_bounded.Goals as goal

pub returns-clause-busy : goal.returns-clause-busy
returns-clause-busy c =
    busy_within c.args.rules c.args.opening.now (reverse c.args.past.now) c.args.member c.requires.legal c.requires.member

pub returns-clause-trial : goal.returns-clause-trial
returns-clause-trial c = λ t is.
    trial_out c.args.rules c.args.opening.now (reverse c.args.past.now) c.args.member t c.requires.legal c.requires.member is

pub returns-clause-room : goal.returns-clause-room
returns-clause-room c = legal_room c.args.rules c.args.opening.now (reverse c.args.past.now) c.requires.legal
