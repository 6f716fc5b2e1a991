use Rattle.std.proofs.Common.{◌≡◌, Some, rules}
use Rattle.journal_text.specs.Reading.{rules_at}
use Rattle.journal_text.specs.Readings.{line_of}
use Rattle.journal_text.specs.declared.line.Line.TheVariants as line
use Rattle.journal_verdict.proofs.EntryLaws.{ended_ok, entered_ok}
use Rattle.journal_verdict.proofs.machine.Machine.take_entry.Goals as goal

pub returns-in-Some-Entry-clause-ok : goal.returns-in-Some-Entry-clause-ok
returns-in-Some-Entry-clause-ok c s at =
    let found : Some (line.Entry c.in-Some-Entry.entry) ≡ line_of (rules_at c.args.self.now.reader.place) c.args.text.now = search rules in
    entered_ok c.args.self.now s c.args.text.now c.in-Some.run' c.in-Some-Entry.entry c.take_entry.new.self c.take_entry.result at
    c.requires.among c.in-Some.is found c.take_entry.ensures.ok

pub returns-in-Some-End-clause-ok : goal.returns-in-Some-End-clause-ok
returns-in-Some-End-clause-ok c s at =
    let found : Some (line.End c.in-Some-End.count) ≡ line_of (rules_at c.args.self.now.reader.place) c.args.text.now = search rules in
    ended_ok c.args.self.now s c.args.text.now c.in-Some.run' c.in-Some-End.count c.args.number c.take_end-ended.new.self c.take_end-ended.result at
    c.requires.among c.in-Some.is found c.take_end-ended.ensures
