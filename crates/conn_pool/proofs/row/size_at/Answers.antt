-- The size is that of the member, within the row of its balancer.
use Rattle.std.proofs.Common.{◌≡◌, ◌<◌, Some, subst, arith}
use Rattle.std.specs.Prelude.{slice_get, vec_len}
use Rattle.conn_pool.proofs.RowLaws.{member_at, row_at, item_at}
use Rattle.conn_pool.proofs.row.size_at.Goals as goal

pub index-requires : goal.index-requires
index-requires g c =
    let row = c.index-rows-lb.result in
    let within = member_at (λ r. r.sizes.items) c.args.rows.now c.args.lb c.args.member row c.requires c.index-rows-lb.is in
    let P : _ → Type 0 = λ r. c.args.member < vec_len r.sizes in
    subst P c.index-rows-lb.is (omega (arith, within, row.sizes.ok))

pub returns : goal.returns
returns g c =
    let row = c.index-rows-lb.result in
    let within = member_at (λ r. r.sizes.items) c.args.rows.now c.args.lb c.args.member row c.requires c.index-rows-lb.is in
    let found = rw (← c.index-rows-lb.is) at c.index.ensures in
    row_at (λ r. slice_get r.sizes.items c.args.member ≡ Some c.index.result.now) c.args.rows.now c.args.lb row c.index-rows-lb.is
    (item_at row.sizes.items c.args.member c.index.result.now (omega (arith, within, row.sizes.ok)) found)
