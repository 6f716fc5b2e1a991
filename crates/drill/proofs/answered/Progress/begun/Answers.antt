use Rattle.drill.proofs.AnsweredLaws.{none_chosen}
use Rattle.drill.proofs.answered.Progress.begun.Goals as goal

pub returns-in-None-clause-none : goal.returns-in-None-clause-none
returns-in-None-clause-none c xs ys n so all = none_chosen xs ys c.args.entry c.args.self.whole n so c.in-None.ensures.none all
