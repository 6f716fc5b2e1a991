use Rattle.lb_model.specs.Ranges.{IsPeriod}
use Rattle.site_config.specs.Entries.{as_properties}
use Rattle.site_workers.specs.Rows.{property_at}
use Rattle.site_workers.proofs.LbLemmas.{is_book, is_too_wide}
use Rattle.site_workers.proofs.books.book_of.Goals as goal

pub returns-clause-book : goal.returns-clause-book
returns-clause-book c =
    is_book (property_at (as_properties c.args.given.now.entries.now) c.args.row.now) c.args.given.now.maintain c.args.members c.method.result c.truth_or.result c.truth_or-2.result c.number_or-recover.result c.new.result
    c.method.ensures c.truth_or.ensures c.truth_or-2.ensures c.number_or-recover.ensures.value c.new.ensures.flags c.new.ensures.times c.new.ensures.members

pub returns-clause-wide : goal.returns-clause-wide
returns-clause-wide c =
    let recover : IsPeriod c.number_or-recover.result = record { above = c.number_or-recover.ensures.low; below = c.number_or-recover.ensures.high } in
    is_too_wide c.args.given.now.maintain c.number_or-recover.result c.args.members c.new.result c.requires.some c.requires.few c.requires.within c.args.given.now.period recover c.new.ensures.refused
