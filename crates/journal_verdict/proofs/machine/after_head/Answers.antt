use Rattle.std.proofs.Common.{◌≡◌, ◌+◌, subst, ◌∙◌, false}
use Rattle.journal_text.specs.declared.reader.Reader.{Reader}
use Rattle.journal_text.specs.Reading.{is_body}
use Rattle.journal_verdict.specs.declared.machine.Machine.{Machine}
use Rattle.journal_verdict.proofs.HeadLaws.{stays}
use Rattle.journal_verdict.proofs.machine.after_head.Goals as goal

pub returns-in_default : goal.returns-in_default
returns-in_default c s =
    let none = rw c.in_default.is at c.take_opening-reader.ensures.none in
    let m : Machine = record c.args.machine.now { reader = c.take_opening-reader.result.0; taken = c.args.machine.now.taken + 1 } in
    stays s c.args.machine.now.reader m (subst (λ (r : Reader). is_body r.place ≡ false) c.replace.ensures.value none.1)
    (none.0 ∙ c.replace.ensures.value) c.requires.shut
