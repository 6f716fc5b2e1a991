use Rattle.plain_commands.proofs.session.log_report.of_site.Given as goal

abbrev pub ghosts-with_reach : goal.ghosts-with_reach
ghosts-with_reach a = record { reply = a.reply.now }
