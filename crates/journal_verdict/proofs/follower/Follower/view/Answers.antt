use Rattle.std.proofs.Common.{◌≡◌, rules}
use Rattle.journal_verdict.specs.declared.known.Known.TheVariants as known
use Rattle.journal_verdict.proofs.RunLaws.{followed, opened}
use Rattle.journal_verdict.proofs.follower.Follower.view.Goals as goal

pub returns-in-Going-clause-followed : goal.returns-in-Going-clause-followed
returns-in-Going-clause-followed c bytes fed =
    let is : c.args.self.now.known ≡ known.Going c.in-Going.machine c.in-Going.field-1 = search rules in
    followed bytes c.shown.result (opened c.args.self.now c.in-Going.machine c.in-Going.field-1 bytes c.shown.result is fed c.shown.ensures)

pub returns-in-Going-clause-going : goal.returns-in-Going-clause-going
returns-in-Going-clause-going c going bytes fed =
    let is : c.args.self.now.known ≡ known.Going c.in-Going.machine c.in-Going.field-1 = search rules in
    opened c.args.self.now c.in-Going.machine c.in-Going.field-1 bytes c.shown.result is fed c.shown.ensures
