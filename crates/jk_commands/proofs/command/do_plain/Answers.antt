use Rattle.std.proofs.Common.{refl}
use Rattle.jk_commands.proofs.CommandLaws.{files_read, plain_five, plain_none, plain_six, plain_two}
use Rattle.jk_commands.proofs.command.do_plain.Goals as goal

pub returns-clause-plain : goal.returns-clause-plain
returns-clause-plain g c = record { by = c.run_plain.result.end; numbered = refl; said = c.run_plain.ensures.ends }

pub returns-clause-files : goal.returns-clause-files
returns-clause-files g c = files_read _ _ c.run_plain.ensures.files

pub returns-clause-no_command : goal.returns-clause-no_command
returns-clause-no_command g c = (λ two. plain_two _ _ _ _ _ c.run_plain.ensures.ends two, λ none. plain_none _ _ _ _ _ c.run_plain.ensures.ends none)

pub returns-clause-nothing : goal.returns-clause-nothing
returns-clause-nothing g c two =
    let kept = c.run_plain.ensures.nothing (plain_two _ _ _ _ _ c.run_plain.ensures.ends two) in
    (kept.0, kept.1)

pub returns-clause-no_words : goal.returns-clause-no_words
returns-clause-no_words g c two =
    let kept = c.run_plain.ensures.nothing (plain_two _ _ _ _ _ c.run_plain.ensures.ends two) in
    rw kept.2 refl

pub returns-clause-output_fault : goal.returns-clause-output_fault
returns-clause-output_fault g c five = plain_five _ _ _ _ _ c.run_plain.ensures.ends five

pub returns-clause-wanting : goal.returns-clause-wanting
returns-clause-wanting g c six = plain_six _ _ _ _ _ c.run_plain.ensures.ends six
