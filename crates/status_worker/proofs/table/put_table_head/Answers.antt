-- Four pieces, one after the other.
use Rattle.std.proofs.Common.{ℕ, List, ◌++◌, codes, ap, ◌∙◌}
use Rattle.status_worker.specs.Table.{change_column, columns}
use Rattle.status_worker.proofs.PutLaws.{put_four}
use Rattle.status_worker.proofs.table.put_table_head.Goals as goal

pub returns : goal.returns
returns c =
    put_four c.extend-4.result c.args.out.now c.extend.new.self c.extend-2.new.self c.extend-3.new.self c.extend-4.new.self
    (codes "<table>\n<tr>") columns (change_column c.args.may_change) (codes "</tr>\n")
    c.in_ok-extend.ensures.ok c.in_ok-extend-2.ensures.ok
    (c.in_ok-extend-3.ensures.ok ∙ ap (λ (t : List ℕ). c.extend-2.new.self ++ t) c.change_column.ensures) c.extend-4.ensures.ok
