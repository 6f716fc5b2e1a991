use Rattle.std.proofs.Common.{◌+◌, ◌^◌, ◌<◌, ◌≤◌, arith}
use Rattle.lb_book.specs.Due.{due_moment, entry_moment}
use Rattle.lb_book.specs.Journal.{next_number, tickets_out}
use Rattle.lb_model.specs.declared.journal.Call.TheVariants as call
use Rattle.journal_verdict.specs.declared.ruling.Ruling.TheVariants as ruling
use Rattle.journal_verdict.proofs.JudgeFacts.{refused_so, ruled_answer}
use Rattle.journal_verdict.proofs.judging.rule_maintain.Goals as goal

pub returns-in-Ok-Some : goal.returns-in-Ok-Some
returns-in-Ok-Some c =
    ruled_answer c.args.book.now c.maintain_if_due.new.self c.args.entry.now c.in-Ok-Some.entry call.Maintain c.requires.call c.requires.turn
    (rw c.in-Ok-Some.field-0-is at c.in-Ok-Some.ensures.ok) (rw c.in-Ok-Some.field-0-is at c.in-Ok-Some.ensures.next)

pub returns-in-Ok-None : goal.returns-in-Ok-None
returns-in-Ok-None c =
    let b = c.args.book.now in
    let e = c.args.entry.now in
    let told = rw c.in-Ok-None.field-0-is at c.in-Ok-None.ensures.due in
    let early : entry_moment b e.at < due_moment b = told in
    refused_so b e call.Maintain ruling.NotDue c.requires.call (omega (arith, c.requires.turn.moment, early))

pub returns-in-Err-Full : goal.returns-in-Err-Full
returns-in-Err-Full c =
    let b = c.args.book.now in
    let e = c.args.entry.now in
    let told = rw c.in-Err-Full.field-0-is at c.in-Err-Full.ensures.due in
    let due : due_moment b ≤ entry_moment b e.at = told.0 in
    let full : 2 ^ 48 < next_number b + tickets_out b + 1 = told.1 in
    refused_so b e call.Maintain ruling.Full c.requires.call
    (omega (arith, c.requires.turn.moment, due), omega (arith, c.requires.turn.number, full))
