use Rattle.lb_model.specs.declared.journal.Call.TheVariants as call
use Rattle.journal_verdict.specs.declared.ruling.Ruling.TheVariants as ruling
use Rattle.journal_verdict.proofs.JudgeFacts.{not_true, refused_so, ruled_answer}
use Rattle.journal_verdict.proofs.judging.rule_return.Goals as goal

pub return_ticket-requires : goal.return_ticket-requires
return_ticket-requires c = c.requires.turn.kept.bytes c.args.ticket c.args.outcome c.requires.call

pub returns-in-Ok : goal.returns-in-Ok
returns-in-Ok c =
    ruled_answer c.args.book.now c.return_ticket.new.self c.args.entry.now c.in-Ok.entry (call.Return c.args.ticket c.args.outcome) c.requires.call c.requires.turn
    c.in-Ok.ensures.ok c.in-Ok.ensures.next

pub returns-in-Err : goal.returns-in-Err
returns-in-Err c =
    refused_so c.args.book.now c.args.entry.now (call.Return c.args.ticket c.args.outcome) ruling.Stray c.requires.call
    (not_true _ c.in-Err.ensures.found.1)
