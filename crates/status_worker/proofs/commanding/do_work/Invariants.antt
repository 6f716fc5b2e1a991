-- The commands before this one were done.
use Rattle.std.proofs.Common.{take}
use Rattle.lb_book.specs.Desks.{MeetsNone}
use Rattle.status_worker.specs.Commands.{DoesAll}
use Rattle.status_worker.specs.Desks.{KeepsTickets, desk_side}
use Rattle.status_worker.proofs.commanding.do_work.Given as goal

abbrev pub invariant-loop-command : goal.invariant-loop-command
invariant-loop-command g l = record {
  done : DoesAll l.session l.lb (take l.command-index l.command-items)
      (desk_side g.B.Desk.state g.K.Clock.answers l.fn.desk l.fn.clock) (desk_side g.B.Desk.state g.K.Clock.answers l.desk l.clock);
  kept : KeepsTickets l.session (g.B.Desk.state l.fn.desk) (g.B.Desk.state l.desk);
  met : MeetsNone (g.B.Desk.state l.fn.desk) (g.B.Desk.state l.desk);
}
