use Rattle.std.proofs.Common.{◌≡◌, refl}
use Rattle.jkd.proofs.ProcessLaws.{ends_process, serves_process}
use Rattle.jkd.proofs.outside.do_outside.Goals as goal

pub returns-clause-serves : goal.returns-clause-serves
returns-clause-serves g c =
    serves_process _ _ c.args.asked.now _ _ _ _ _ _ c.run_jkd-run.ensures.serves c.run_jkd-run.ensures.refused refl
    (rw (c.new-files.ensures.0, c.files_of.ensures, c.new-out.ensures, c.new-world.ensures.0) refl) (rw c.into_world.ensures refl)

pub returns-clause-plain : goal.returns-clause-plain
returns-clause-plain g c =
    ends_process c.args.asked.now _ _ _ _ _ _ _ c.run_jkd-run.ensures.plain
    (rw (c.new-files.ensures.0, c.files_of.ensures, c.new-input.ensures.0, c.new.ensures.1, c.new-out.ensures) refl) refl
