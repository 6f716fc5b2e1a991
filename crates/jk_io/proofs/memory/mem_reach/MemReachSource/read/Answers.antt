-- The reach's read fails exactly where its link's does.
use Rattle.std.proofs.Common.{IsErr, is_err, IsSome, IsErrOf, ap, subst}
use Rattle.jk_io.specs.Memory.{ReadIsToFail}
use Rattle.jk_io.specs.MemReaches.{MemReachState}
use Rattle.jk_io.specs.declared.failures.IoError.TheVariants.{Failed}
use Rattle.jk_io.proofs.memory.mem_reach.MemReachSource.read.Goals as goal

pub returns-clause-told : goal.returns-clause-told
returns-clause-told c =
    let P : MemReachState → Type 0 = λ r. ReadIsToFail r.running.link → IsErr c.read-answer.result in
    subst P c.self.view_is (λ due. ap is_err (c.read-answer.ensures.failed.1 due))

pub returns-clause-failed : goal.returns-clause-failed
returns-clause-failed c =
    let P : MemReachState → Type 0 = λ r. IsSome r.book.begun → IsErrOf c.read-answer.result Failed → ReadIsToFail r.running.link in
    subst P c.self.view_is (λ _ failed. c.read-answer.ensures.failed.0 failed)
