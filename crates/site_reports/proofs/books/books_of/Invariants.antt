use Rattle.std.proofs.Common.{take}
use Rattle.site_reports.specs.Starts.{AreStarts}
use Rattle.site_reports.proofs.books.books_of.Given as goal

abbrev pub invariant-loop-lb : goal.invariant-loop-lb
invariant-loop-lb l = AreStarts (take l.lb-index l.lbs) l.at l.first l.books.items
