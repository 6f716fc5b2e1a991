use Rattle.std.proofs.Common.{◌≡◌, ◌++◌, take}
use Rattle.plain_commands.specs.DryLines.{sent_in}
use Rattle.plain_commands.proofs.session.lines.put_sent.Given as goal

abbrev pub invariant-loop-talk : goal.invariant-loop-talk
invariant-loop-talk l = l.out ≡ l.fn.out ++ sent_in (take l.talk-index l.talks)
