-- A reset and a recovery leave out what an update changes.
use Rattle.status_worker.proofs.meaning.command_by.Goals as goal

pub returns-in-Reset : goal.returns-in-Reset
returns-in-Reset c = rw c.in-Reset.is (c.reset_by.ensures c.args.texts.change)

pub returns-in-Recover : goal.returns-in-Recover
returns-in-Recover c = rw c.in-Recover.is (c.recover_by.ensures c.args.texts.change)
