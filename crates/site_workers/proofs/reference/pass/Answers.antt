use Rattle.std.proofs.Common.{arith}
use Rattle.site_workers.specs.Ways.{passed_row}
use Rattle.site_workers.proofs.RowLemmas.{adjusted_set}
use Rattle.site_workers.proofs.reference.pass.Goals as goal

pub returns : goal.returns
returns c =
    let rows = c.args.rows.now.items in
    rw (c.passed.ensures, c.index-row.ensures) (adjusted_set passed_row rows c.args.number _ (omega arith))
