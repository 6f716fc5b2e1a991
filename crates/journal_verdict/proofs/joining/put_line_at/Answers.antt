use Rattle.std.proofs.Common.{arith, ap, length}
use Rattle.journal_verdict.proofs.JoinFacts.{balancer_put, from_put, lease_put, member_put, on_ok}
use Rattle.journal_verdict.proofs.joining.put_line_at.Goals as goal

pub returns-then-place-eq0 : goal.returns-then-place-eq0
returns-then-place-eq0 c = λ v.
    on_ok c.put_balancer.result
    (λ is. balancer_put v c.args.name.now c.args.opening.now c.args.place c.balancer_values.result c.args.out.now c.put_balancer.new.out c.if-place-eq0.true
    c.balancer_values.ensures c.requires.empty is)
    c.put_balancer.ensures

pub returns-then-place-members : goal.returns-then-place-members
returns-then-place-members c = λ v.
    on_ok c.put_member_line.result
    (λ is. member_put v c.args.name.now c.args.opening.now c.args.place c.as_slice-members.result.now c.as_slice.result.now c.index-members-at.result c.index-as_slice-at.result
    c.args.out.now c.put_member_line.new.out c.as_slice-members.ensures c.as_slice.ensures c.requires.valid.rows.count (omega arith) (omega arith)
    c.index-members-at.is c.index-as_slice-at.is c.requires.empty is)
    (c.put_member_line.ensures v)

pub returns-then-at-tickets : goal.returns-then-at-tickets
returns-then-at-tickets c = λ v.
    on_ok c.put_lease.result
    (λ is. lease_put v c.args.name.now c.args.opening.now c.args.place _ c.as_slice-tickets.result.now (0, 0) c.args.out.now c.put_lease.new.out
    c.as_slice-tickets.ensures c.requires.valid.rows.count (omega (arith, ap length c.as_slice-members.ensures)) c.if-at-tickets.true c.requires.empty is)
    c.put_lease.ensures

pub returns : goal.returns
returns c = λ v.
    on_ok c.put_beginning.result
    (λ is. from_put v c.args.name.now c.args.opening.now c.args.place c.beginning.result c.args.out.now c.put_beginning.new.out c.requires.valid.rows.count
    (omega (arith, ap length c.as_slice-members.ensures, ap length c.as_slice-tickets.ensures)) c.beginning.ensures c.requires.empty is)
    c.put_beginning.ensures
