use Rattle.journal_verdict.proofs.CheckerFacts.{goes_on_none, goes_on_some, only_one}
use Rattle.journal_verdict.proofs.checker.Checker.go_on.Goals as goal

pub returns-in_default : goal.returns-in_default
returns-in_default c =
    goes_on_none c.args.reader c.take_segment.new.self c.args.check c.args.some c.args.number c.take_segment.ensures.same
    c.in_default.ensures.none

pub take-requires : goal.take-requires
take-requires c =
    c.requires.room c.in-Some.segment (only_one c.args.reader.done c.take_segment.new.self.done c.in-Some.segment c.in-Some.ensures.some c.requires.few).1

pub returns : goal.returns
returns c =
    goes_on_some c.args.reader c.take_segment.new.self c.in-Some.segment c.args.check _ c.args.some c.args.number
    c.take_segment.ensures.same c.in-Some.ensures.some c.requires.few c.in_ok-take.ensures
