-- The step that the words say has few bytes.
use Rattle.play_script.proofs.StepLaws.{step_by_small}
use Rattle.play_script.proofs.step.step_of.Goals as goal

pub returns-clause-small : goal.returns-clause-small
returns-clause-small c = rw c.step_by.ensures (step_by_small c.args.names.now c.in_ok-verb.verb c.next.new.self)
