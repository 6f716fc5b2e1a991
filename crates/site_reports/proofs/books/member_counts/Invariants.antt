use Rattle.std.proofs.Common.{◌≡◌, length, map, take}
use Rattle.site_reports.proofs.books.member_counts.Given as goal

abbrev pub invariant-loop-lb : goal.invariant-loop-lb
invariant-loop-lb l = l.counts.items ≡ map (λ lb. length lb.book.members) (take l.lb-index l.lbs)
