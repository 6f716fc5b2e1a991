use Rattle.std.proofs.Common.{◌≡◌}
use Rattle.status_worker.specs.BookCommands.{resets}
use Rattle.status_worker.proofs.book_commands.resets.Given as goal

abbrev pub invariant-loop-member : goal.invariant-loop-member
invariant-loop-member l = l.commands.items ≡ resets l.member
