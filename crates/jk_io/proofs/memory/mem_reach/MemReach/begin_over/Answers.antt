-- The talk's link is the one that was kept last for its member.
use Rattle.std.proofs.Common.{◌≡◌, false, List, ap, subst}
use Rattle.jk_io.specs.MemReaches.{MemReachState, IsLastOf}
use Rattle.jk_io.specs.declared.memory.member_link.MemberLink.{MemberLink}
use Rattle.jk_io.proofs.MemoryLaws.{gives_kept}
use Rattle.jk_io.proofs.memory.mem_reach.MemReach.begin_over.Goals as goal

pub returns-clause-given : goal.returns-clause-given
returns-clause-given c =
    let after = c.begin_over_kept.new.self in
    let e = c.in_ok-begin_over_kept-in-Some.ensures in
    let Last : List MemberLink → Type 0 = λ kept. (c.args.asked.now.fresh ≡ false) × IsLastOf c.args.asked.now.lb c.args.asked.now.member kept c.in-Some.place in
    let last = subst Last c.as_slice.ensures.value c.in-Some.ensures.last in
    let last_before = subst (λ (r : MemReachState). Last r.kept) c.self.view_is last in
    gives_kept _ _ _ c.in-Some.place _ after last_before e.taken e.left (ap (λ (r : MemReachState). r.links) e.same)
