use Rattle.std.proofs.Common.{List, ℕ, Option, subst}
use Rattle.journal_verdict.specs.Machines.{Compares}
use Rattle.journal_verdict.proofs.HeadLaws.{goes_on, goes_wrong}
use Rattle.journal_verdict.proofs.machine.Machine.take_head.Goals as goal

pub returns-in-Some-clause-err : goal.returns-in-Some-clause-err
returns-in-Some-clause-err c s at =
    goes_wrong c.args.self.now s c.args.text.now c.in-Some.ruled c.take_text.new.reader c.args.number c.in_ok-bad_line.field-0 at c.requires.shut
    (c.in_ok-take_text.ensures.taken c.if-not-branch.false)
    (subst (λ (x : Option (List ℕ)). Compares c.args.self.now.run c.args.self.now.taken c.args.text.now x) c.in-Some.is c.in_ok-ruled.ensures)
    c.in_ok-bad_line.ensures

pub returns-clause-ok : goal.returns-clause-ok
returns-clause-ok c s at =
    goes_on c.args.self.now s c.args.text.now c.take_text.new.reader c.after_head.new.machine at c.requires.shut
    (c.in_ok-take_text.ensures.taken c.if-not-branch.false)
    (subst (λ (x : Option (List ℕ)). Compares c.args.self.now.run c.args.self.now.taken c.args.text.now x) c.in_default.is c.in_ok-ruled.ensures)
    (c.in_ok-after_head.ensures s)
