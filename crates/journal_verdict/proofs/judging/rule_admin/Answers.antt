use Rattle.std.proofs.Common.{◌+◌, ◌^◌, ◌<◌, arith}
use Rattle.lb_book.specs.Journal.{next_number, tickets_out}
use Rattle.lb_model.specs.declared.journal.Call.TheVariants as call
use Rattle.journal_verdict.specs.declared.ruling.Ruling.TheVariants as ruling
use Rattle.journal_verdict.proofs.JudgeFacts.{refused_so, ruled_answer}
use Rattle.journal_verdict.proofs.judging.rule_admin.Goals as goal

pub returns-in-Ok : goal.returns-in-Ok
returns-in-Ok c =
    ruled_answer c.args.book.now c.admin.new.self c.args.entry.now c.in-Ok.entry (call.Admin c.args.command.now) c.requires.call c.requires.turn
    c.in-Ok.ensures.ok c.in-Ok.ensures.next

pub returns-in-Err-UnknownMember : goal.returns-in-Err-UnknownMember
returns-in-Err-UnknownMember c =
    refused_so c.args.book.now c.args.entry.now (call.Admin c.args.command.now) (ruling.Refused 1) c.requires.call
    (rw c.in-Err-UnknownMember.field-0-is at c.in-Err-UnknownMember.ensures.commanded)

pub returns-in-Err-BadValue : goal.returns-in-Err-BadValue
returns-in-Err-BadValue c =
    refused_so c.args.book.now c.args.entry.now (call.Admin c.args.command.now) (ruling.Refused 2) c.requires.call
    (rw c.in-Err-BadValue.field-0-is at c.in-Err-BadValue.ensures.commanded)

pub returns-in-Err-TooWide : goal.returns-in-Err-TooWide
returns-in-Err-TooWide c =
    let wide = rw c.in-Err-TooWide.field-0-is at c.in-Err-TooWide.ensures.commanded in
    refused_so c.args.book.now c.args.entry.now (call.Admin c.args.command.now) (ruling.Refused 3) c.requires.call (wide.0, wide.1, wide.2)

pub returns-in-Err-Full : goal.returns-in-Err-Full
returns-in-Err-Full c =
    let b = c.args.book.now in
    let told = rw c.in-Err-Full.field-0-is at c.in-Err-Full.ensures.commanded in
    let full : 2 ^ 48 < next_number b + tickets_out b + 1 = told.1 in
    refused_so b c.args.entry.now (call.Admin c.args.command.now) ruling.Full c.requires.call
    (told.0, omega (arith, c.requires.turn.number, full))
