use Rattle.std.proofs.Common.{reverse}
use Rattle.lb_book.proofs.AlikeLaws.{pick_after_cut}
use Rattle.lb_book.proofs.picks.a_cut_changes_no_later_pick.Goals as goal

pub returns : goal.returns
returns c = λ answer.
    pick_after_cut c.args.rules c.args.opening.now (reverse c.args.past.now) c.args.ending.now (reverse c.args.later.now) c.args.ask.now answer
    c.requires.legal c.requires.cut c.requires.later
