-- The reach's write fails exactly where its link's does.
use Rattle.std.proofs.Common.{IsErr, is_err, IsSome, IsErrOf, ap, subst}
use Rattle.jk_io.specs.Memory.{WriteIsToFail}
use Rattle.jk_io.specs.MemReaches.{MemReachState}
use Rattle.jk_io.specs.declared.failures.IoError.TheVariants.{Failed}
use Rattle.jk_io.proofs.memory.mem_reach.MemReachSink.write.Goals as goal

pub returns-clause-told : goal.returns-clause-told
returns-clause-told c =
    let P : MemReachState → Type 0 = λ r. WriteIsToFail r.running.link → IsErr c.write-answer.result in
    subst P c.self.view_is (λ due. ap is_err (c.write-answer.ensures.failed.1 due))

pub returns-clause-failed : goal.returns-clause-failed
returns-clause-failed c =
    let P : MemReachState → Type 0 = λ r. IsSome r.book.begun → IsErrOf c.write-answer.result Failed → WriteIsToFail r.running.link in
    subst P c.self.view_is (λ _ failed. c.write-answer.ensures.failed.0 failed)
