-- An own answer is told with its status.
use Rattle.std.proofs.Common.{◌≡◌, ℕ, IsSome, ap, ◌∙◌, subst, rules, arith}
use Rattle.http_out.specs.Own.{own_of, status_of}
use Rattle.client_session.specs.Concluding.{IsKnownStop, own_settled}
use Rattle.client_session.specs.declared.ending.SessionStop.TheVariants as stop
use Rattle.client_session.specs.declared.ending.Why.TheVariants as why
use Rattle.client_session.proofs.OwnLaws.{status_at}
use Rattle.client_session.proofs.concluding.conclude_stop.Goals as goal

pub returns-in-Closed-Own : goal.returns-in-Closed-Own
returns-in-Closed-Own c =
    let is : c.args.stop ≡ stop.Closed (why.Own c.in-Closed-Own.status) = first_of (search rules, grind arith, cc) in
    let some : IsSome (own_of c.in-Closed-Own.status) = subst IsKnownStop is c.requires in
    rw is
    (c.answered_own.ensures
    ∙ ap (λ (k : ℕ). own_settled c.args.row.asked k c.args.head_only) (ap status_of c.with_status.ensures ∙ status_at c.in-Closed-Own.status some))
