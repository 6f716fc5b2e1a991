use Rattle.site_reports.proofs.StartLaws.{starts_more}
use Rattle.site_reports.proofs.books.books_of.Goals as goal

pub loop-lb-preserved : goal.loop-lb-preserved
loop-lb-preserved c =
    starts_more c.args.lbs.now c.args.at c.args.first c.loop-lb.lb-index _ _ c.lb-item.result _ _ c.loop-lb-test.true c.lb-item.is
    c.loop-lb.invariant c.in_ok-copy.ensures.ok c.in_ok-start.ensures.start c.in_ok-push.ensures.items
