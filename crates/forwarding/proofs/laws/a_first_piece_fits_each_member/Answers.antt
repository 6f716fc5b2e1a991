-- By induction over the members.
use Rattle.forwarding.proofs.FirstPieceLaws.{nothing_greater, within_each, within_length}
use Rattle.forwarding.proofs.laws.a_first_piece_fits_each_member.Goals as goal

pub returns-clause-within : goal.returns-clause-within
returns-clause-within c = within_length

pub returns-clause-fits : goal.returns-clause-fits
returns-clause-fits c = within_each

pub returns-clause-reached : goal.returns-clause-reached
returns-clause-reached c = nothing_greater
