use Rattle.plain_commands.proofs.play.run_over.Goals as goal

pub returns : goal.returns
returns c = rw (c.names.ensures, c.new-text.ensures) at c.in_ok-ending.ensures
