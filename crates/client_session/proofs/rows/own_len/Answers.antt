use Rattle.std.proofs.Common.{List, ℕ, ap, length}
use Rattle.client_session.proofs.OwnLaws.{body_at, own_there}
use Rattle.client_session.proofs.rows.own_len.Goals as goal

pub own_body-requires : goal.own_body-requires
own_body-requires c = own_there c.args.own _ c.status.ensures

pub returns : goal.returns
returns c = rw c.if-head_only.false (ap (λ (bytes : List ℕ). length bytes) (body_at c.args.own _ _ c.status.ensures c.own_body.ensures))
