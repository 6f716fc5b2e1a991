-- A write is to fail where it was planned or one more is due.
use Rattle.std.proofs.Common.{◌<◌, ◌↔◌, ◌==◌, ℕ, IsTrue, count_by, subst}
use Rattle.jk_io.specs.Memory.{MemLinkState, WriteIsToFail}
use Rattle.jk_io.proofs.MemoryLaws.{fails_where_due}
use Rattle.jk_io.proofs.memory.mem_link.MemLink.write_fails.Goals as goal

pub returns-clause-failed : goal.returns-clause-failed
returns-clause-failed c =
    let link = c.self.inside in
    let Due : ℕ → Type 0 = λ taken. IsTrue c.is_due-due.result ↔ (link.writes_failed < count_by (λ n. n == taken) link.plan.writes) in
    let due = subst Due c.len-taken.ensures c.is_due-due.ensures in
    let P : MemLinkState → Type 0 = λ l. IsTrue c.fails_or-fails.result ↔ WriteIsToFail l in
    subst P c.self.view_is (fails_where_due _ _ c.fails_or-fails.result _ c.fails_or-fails.ensures.planned due)
