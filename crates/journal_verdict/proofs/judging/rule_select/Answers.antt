use Rattle.std.proofs.Common.{◌+◌, ◌^◌, ◌<◌, arith}
use Rattle.lb_book.specs.Journal.{next_number, tickets_out}
use Rattle.lb_model.specs.declared.journal.Call.TheVariants as call
use Rattle.journal_verdict.specs.declared.ruling.Ruling.TheVariants as ruling
use Rattle.journal_verdict.proofs.JudgeFacts.{refused_so, ruled_answer}
use Rattle.journal_verdict.proofs.judging.rule_select.Goals as goal

pub select-requires : goal.select-requires
select-requires c =
    let kept = c.requires.turn.kept in
    λ one. (kept.disabled c.args.ask.now one c.requires.call, kept.stopped c.args.ask.now one c.requires.call)

pub returns-in-Ok : goal.returns-in-Ok
returns-in-Ok c =
    ruled_answer c.args.book.now c.select.new.self c.args.entry.now c.in-Ok.picked.entry (call.Select c.args.ask.now) c.requires.call c.requires.turn
    c.in-Ok.ensures.ok c.in-Ok.ensures.next

pub returns-in-Err-Full : goal.returns-in-Err-Full
returns-in-Err-Full c =
    let b = c.args.book.now in
    let told = rw c.in-Err-Full.field-0-is at c.in-Err-Full.ensures.full in
    let full : 2 ^ 48 < next_number b + tickets_out b + 2 = told.0 in
    refused_so b c.args.entry.now (call.Select c.args.ask.now) ruling.Full c.requires.call (tt, omega (arith, c.requires.turn.number, full))
