-- A moment is read without the names.
use Rattle.play_script.proofs.step.step_by.Goals as goal

pub returns-in-At : goal.returns-in-At
returns-in-At c = rw c.in-At.is (c.moment_of.ensures c.args.names.now)
