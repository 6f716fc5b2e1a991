-- The client that came is the one whose link was left.
use Rattle.jk_io.proofs.ToldLaws.{one_more, one_came}
use Rattle.check_rows.proofs.callers.pass_on.Goals as goal

pub returns-in-Some-clause-passed : goal.returns-in-Some-clause-passed
returns-in-Some-clause-passed g c =
    let came = rw c.in-Some.is at c.in_ok-link.ensures.client in
    λ _. ((c.in-Some.link, c.in-Some._peer), one_came _ _ _ _ came c.leave.ensures.same.0, one_more _ _ _ _ c.in_ok-link.ensures.same c.leave.ensures.left)
