-- The first desk and the others are all.
use Rattle.std.proofs.Common.{◌≡◌}
use Rattle.lb_closing.proofs.ListLaws.{all_of, if_refused, map_of, noted_of, sum_of}
use Rattle.lb_closing.proofs.gather.gather.Goals as goal

pub returns-in_err-all-clause-parts : goal.returns-in_err-all-clause-parts
returns-in_err-all-clause-parts g c = if_refused c.from_residual.result _ _ c.from_residual.ensures.1

pub returns-in_err-all-clause-amount : goal.returns-in_err-all-clause-amount
returns-in_err-all-clause-amount g c = if_refused c.from_residual.result _ _ c.from_residual.ensures.1

pub returns-in_err-all-clause-cuts : goal.returns-in_err-all-clause-cuts
returns-in_err-all-clause-cuts g c = if_refused c.from_residual.result _ _ c.from_residual.ensures.1

pub returns-in_err-all-clause-noted : goal.returns-in_err-all-clause-noted
returns-in_err-all-clause-noted g c = if_refused c.from_residual.result _ _ c.from_residual.ensures.1

pub returns-in_err-all-clause-shelves : goal.returns-in_err-all-clause-shelves
returns-in_err-all-clause-shelves g c = if_refused c.from_residual.result _ _ c.from_residual.ensures.1

pub returns-in_err-all-clause-seats : goal.returns-in_err-all-clause-seats
returns-in_err-all-clause-seats g c = if_refused c.from_residual.result _ _ c.from_residual.ensures.1

pub returns-in_err-all-clause-forgot : goal.returns-in_err-all-clause-forgot
returns-in_err-all-clause-forgot g c = if_refused c.from_residual.result _ _ c.from_residual.ensures.1

pub returns-in_err-take_all-clause-parts : goal.returns-in_err-take_all-clause-parts
returns-in_err-take_all-clause-parts g c = if_refused c.from_residual-in_err-take_all.result _ _ c.from_residual-in_err-take_all.ensures.1

pub returns-in_err-take_all-clause-amount : goal.returns-in_err-take_all-clause-amount
returns-in_err-take_all-clause-amount g c = if_refused c.from_residual-in_err-take_all.result _ _ c.from_residual-in_err-take_all.ensures.1

pub returns-in_err-take_all-clause-cuts : goal.returns-in_err-take_all-clause-cuts
returns-in_err-take_all-clause-cuts g c = if_refused c.from_residual-in_err-take_all.result _ _ c.from_residual-in_err-take_all.ensures.1

pub returns-in_err-take_all-clause-noted : goal.returns-in_err-take_all-clause-noted
returns-in_err-take_all-clause-noted g c = if_refused c.from_residual-in_err-take_all.result _ _ c.from_residual-in_err-take_all.ensures.1

pub returns-in_err-take_all-clause-shelves : goal.returns-in_err-take_all-clause-shelves
returns-in_err-take_all-clause-shelves g c = if_refused c.from_residual-in_err-take_all.result _ _ c.from_residual-in_err-take_all.ensures.1

pub returns-in_err-take_all-clause-seats : goal.returns-in_err-take_all-clause-seats
returns-in_err-take_all-clause-seats g c = if_refused c.from_residual-in_err-take_all.result _ _ c.from_residual-in_err-take_all.ensures.1

pub returns-in_err-take_all-clause-forgot : goal.returns-in_err-take_all-clause-forgot
returns-in_err-take_all-clause-forgot g c = if_refused c.from_residual-in_err-take_all.result _ _ c.from_residual-in_err-take_all.ensures.1

pub returns-clause-parts : goal.returns-clause-parts
returns-clause-parts g c = sum_of _ _ _ _ _ _ c.split_first-first.ensures c.in_ok-all.ensures.parts c.in_ok-take_all.ensures.parts

pub returns-clause-amount : goal.returns-clause-amount
returns-clause-amount g c = sum_of _ _ _ _ _ _ c.split_first-first.ensures c.in_ok-all.ensures.amount c.in_ok-take_all.ensures.amount

pub returns-clause-cuts : goal.returns-clause-cuts
returns-clause-cuts g c = sum_of _ _ _ _ _ _ c.split_first-first.ensures c.in_ok-all.ensures.cuts c.in_ok-take_all.ensures.cuts

pub returns-clause-noted : goal.returns-clause-noted
returns-clause-noted g c = noted_of _ _ _ _ _ _ c.split_first-first.ensures c.in_ok-all.ensures.noted c.in_ok-take_all.ensures.noted

pub returns-clause-shelves : goal.returns-clause-shelves
returns-clause-shelves g c = map_of _ _ _ _ _ _ c.split_first-first.ensures c.in_ok-all.ensures.shelves c.in_ok-take_all.ensures.shelves

pub returns-clause-seats : goal.returns-clause-seats
returns-clause-seats g c = map_of _ _ _ _ _ _ c.split_first-first.ensures c.in_ok-all.ensures.seats c.in_ok-take_all.ensures.seats

pub returns-clause-forgot : goal.returns-clause-forgot
returns-clause-forgot g c = all_of (λ x. x.forgotten ≡ 0) _ _ _ _ _ c.split_first-first.ensures c.in_ok-all.ensures.forgot c.in_ok-take_all.ensures.forgot
