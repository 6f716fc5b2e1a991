-- The balancer has the book that it is given, and its members are reached as those that it is given.
use Rattle.std.proofs.Common.{rules}
use Rattle.drill.proofs.site.balancer_with.Goals as goal

pub returns-clause-balancer : goal.returns-clause-balancer
returns-clause-balancer c = record {
  name_is = search rules;
  balances = c.requires.book;
  ends = λ m e is. let same = c.ends.view_is in c.requires.each m e cc;
  cookie = search rules;
  path = search rules;
}
