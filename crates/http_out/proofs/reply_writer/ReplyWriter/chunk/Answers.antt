use Rattle.std.proofs.Common.{◌∙◌, sym}
use Rattle.http_out.proofs.WriterLaws.{chunk_step, open-from_step}
use Rattle.http_out.proofs.reply_writer.ReplyWriter.chunk.Goals as goal

pub returns-clause-step : goal.returns-clause-step
returns-clause-step g c =
    rw (← c.self.view_is, c.in-Some.is, c.write_piece.ensures.spent, c.spent.ensures)
    (chunk_step c.self.inside.kind c.in-Some.framing c.self.inside.text c.args.bytes.now c.self.inside.passage c.write_piece.new.passage
    c.self.inside.ended _ _ c.write_piece.result (sym c.is_beyond.ensures ∙ c.if-is_beyond.false) c.if-self.false
    (sym c.passes.ensures ∙ c.if-not-passes.false) c.write_piece.ensures.sent)

pub returns-clause-goes_on : goal.returns-clause-goes_on
returns-clause-goes_on g c = open-from_step c.args.self.now _ c.args.bytes.now _ _ c.write_piece.result c.requires (returns-clause-step g c)
