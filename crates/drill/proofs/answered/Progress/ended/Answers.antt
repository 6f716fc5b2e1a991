use Rattle.std.proofs.Common.{refl}
use Rattle.drill.proofs.AnsweredLaws.{back_next, none_back}
use Rattle.drill.proofs.answered.Progress.ended.Goals as goal

pub returns-then-gives_back-clause-some : goal.returns-then-gives_back-clause-some
returns-then-gives_back-clause-some c xs so = back_next xs c.args.entry c.args.self.whole c.args.ticket so (c.if-gives_back.ensures.0 refl)

pub returns-else-gives_back-clause-none : goal.returns-else-gives_back-clause-none
returns-else-gives_back-clause-none c xs ys n so all =
    none_back xs ys c.args.entry c.args.self.whole c.args.ticket n so (λ back. let wrong = c.if-gives_back.ensures.1 back in cc) all
