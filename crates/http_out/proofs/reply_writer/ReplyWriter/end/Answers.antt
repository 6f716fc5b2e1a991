use Rattle.std.proofs.Common.{◌∙◌, sym}
use Rattle.http_out.proofs.WriterLaws.{end_step}
use Rattle.http_out.proofs.reply_writer.ReplyWriter.end.Goals as goal

pub returns-clause-step : goal.returns-clause-step
returns-clause-step g c =
    rw (← c.self.view_is, c.in-Some.is, c.write_closing.ensures.spent)
    (end_step c.self.inside.kind c.in-Some.framing c.self.inside.text c.self.inside.passage c.write_closing.new.passage c.self.inside.ended
    _ _ c.write_closing.result (sym c.is_complete.ensures ∙ c.if-not-is_complete.false) c.if-self.false c.write_closing.ensures.sent)
