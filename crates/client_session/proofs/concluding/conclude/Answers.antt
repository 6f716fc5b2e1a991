-- An own answer of the exchange is told with its status.
use Rattle.std.proofs.Common.{ℕ, ap, ◌∙◌}
use Rattle.http_out.specs.Own.{status_of}
use Rattle.client_session.specs.Concluding.{own_settled}
use Rattle.client_session.proofs.OwnLaws.{status_at}
use Rattle.client_session.proofs.concluding.conclude.Goals as goal

pub returns-in-Own : goal.returns-in-Own
returns-in-Own c =
    let some = rw c.in-Own.is at c.requires in
    rw c.in-Own.is
    (c.answered_own.ensures
    ∙ ap (λ (k : ℕ). own_settled c.args.row.asked k c.args.head_only) (ap status_of c.with_status.ensures ∙ status_at c.in-Own.status some))
