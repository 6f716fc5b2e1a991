use Rattle.plain_commands.proofs.SessionLemmas.{with_words}
use Rattle.plain_commands.proofs.session.report.tell_end.Goals as goal

pub returns : goal.returns
returns g c =
    with_words _ _ c.args.reach.now.book.talks c.args.client.now.sent c.lines_of.result c.in_ok-words.ensures (rw (c.talks.ensures, c.sent.ensures, c.as_slice.ensures) at c.lines_of.ensures)
