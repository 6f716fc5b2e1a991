use Rattle.std.proofs.Common.{sym, subst}
use Rattle.journal_text.specs.declared.text_error.TextError.{TextError}
use Rattle.journal_verdict.specs.Checkers.{RefusesLine}
use Rattle.journal_verdict.proofs.CheckerFacts.{advances, ended_few, has_room, held_few}
use Rattle.journal_verdict.proofs.checker.Checker.take.Goals as goal

pub take_line-requires : goal.take_line-requires
take_line-requires c = held_few c.args.self c.requires.taken.0 c.requires.taken.1 c.requires.few

-- a line ends at most one segment, and there is room for the numbers of its lines and entries
pub go_on-requires-clause-few : goal.go_on-requires-clause-few
go_on-requires-clause-few c =
    ended_few c.args.self.reader c.in-Ok.reader c.args.text.now c.requires.taken.1.empty c.in-Ok.ensures.takes

pub go_on-requires-clause-room : goal.go_on-requires-clause-room
go_on-requires-clause-room c = λ ended is.
    has_room c.args.self c.requires.taken.0 c.args.text.now c.in-Ok.reader ended c.requires.taken.1 c.requires.few
    c.in-Ok.ensures.takes is

pub returns-in_ok-go_on-in-Ok-clause-ok : goal.returns-in_ok-go_on-in-Ok-clause-ok
returns-in_ok-go_on-in-Ok-clause-ok c = advances c.args.self c.args.text.now c.in-Ok.reader c.in_ok-go_on-in-Ok.field-0 c.in-Ok.ensures.takes c.in_ok-go_on-in-Ok.ensures

pub returns-in_ok-go_on-in-Ok-clause-number : goal.returns-in_ok-go_on-in-Ok-clause-number
returns-in_ok-go_on-in-Ok-clause-number c = c.in_ok-go_on-in-Ok.ensures.counted

pub returns-in-Err-clause-err : goal.returns-in-Err-clause-err
returns-in-Err-clause-err c = subst (λ (e : TextError). RefusesLine c.args.self c.args.text.now e) (sym c.after.ensures) c.in-Err.ensures.err
