-- A read is to fail where it was planned or one more is due.
use Rattle.std.proofs.Common.{◌<◌, ◌↔◌, ◌==◌, ℕ, IsTrue, count_by, subst, sym}
use Rattle.std.proofs.lemmas.List.{length-take-le}
use Rattle.jk_io.specs.Memory.{MemLinkState, ReadIsToFail}
use Rattle.jk_io.proofs.MemoryLaws.{fails_where_due}
use Rattle.jk_io.proofs.memory.mem_link.MemLink.read_fails.Goals as goal

pub returns-clause-failed : goal.returns-clause-failed
returns-clause-failed c =
    let link = c.self.inside in
    let Due : ℕ → Type 0 = λ given. IsTrue c.is_due-due.result ↔ (link.reads_failed < count_by (λ n. n == given) link.plan.reads) in
    let due = subst Due (sym (length-take-le link.at link.text c.self.invariant.0)) c.is_due-due.ensures in
    let P : MemLinkState → Type 0 = λ l. IsTrue c.fails_or-fails.result ↔ ReadIsToFail l in
    subst P c.self.view_is (fails_where_due _ _ c.fails_or-fails.result _ c.fails_or-fails.ensures.planned due)
