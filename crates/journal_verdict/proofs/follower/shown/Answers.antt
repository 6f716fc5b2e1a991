use Rattle.journal_verdict.proofs.RunLaws.{shown}
use Rattle.journal_verdict.proofs.follower.shown.Goals as goal

pub returns-in_ok-view_of-in-Some : goal.returns-in_ok-view_of-in-Some
returns-in_ok-view_of-in-Some c number part bytes knows =
    shown c.args.machine.now number part bytes c.in-Some.run' c.in_ok-view_of-in-Some.field-0 knows c.in-Some.is c.in_ok-view_of-in-Some.ensures
