use Rattle.std.proofs.Common.{◌≡◌, length}
use Rattle.lb_model.specs.Ranges.{AreInRange}
use Rattle.site_workers.proofs.BookLemmas.{one_book}
use Rattle.site_workers.proofs.books.direct.Goals as goal

pub unreachable-requires : goal.unreachable-requires
unreachable-requires c =
    let one : length c.from_vec-configs.result ≡ 1 = rw c.from_vec-configs.ensures c.in_ok-members.ensures.count.0 in
    let within : AreInRange c.from_vec-configs.result = rw c.from_vec-configs.ensures c.in_ok-members.ensures.ranges in
    one_book c.args.given.now.maintain c.from_vec-configs.result _ one within c.args.given.now.period c.in-Err.ensures.refused
