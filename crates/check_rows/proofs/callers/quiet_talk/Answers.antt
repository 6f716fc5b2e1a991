-- The talk's link never fails, so no call of the talk does.
use Rattle.std.proofs.Common.{All, sym, subst, ◌∙◌}
use Rattle.jk_io.specs.Memory.{MemLinkState, NeverFails}
use Rattle.jk_io.specs.declared.memory.member_link.MemberLink.{MemberLink}
use Rattle.check_rows.proofs.QuietLaws.{given_is_quiet, kept_are_quiet}
use Rattle.check_rows.proofs.callers.quiet_talk.Goals as goal

pub returns-clause-quiet : goal.returns-clause-quiet
returns-clause-quiet c =
    let begun = given_is_quiet _ _ _ _ _ _ c.requires.quiet c.in_ok-begin.ensures.given in
    let read = c.read-answer.ensures.same_others in
    let end = c.finish.ensures in
    let never = subst NeverFails (sym read.plan) begun.0 in
    let kept = subst (All (λ (k : MemberLink). NeverFails k.link.plan)) (sym read.links.1) begun.2 in
    record {
      begins = end.same.2 ∙ read.rest.1 ∙ c.begin.ensures.same.1 ∙ c.requires.quiet.begins;
      links = subst (All (λ (l : MemLinkState). NeverFails l.plan)) (sym (end.same.0 ∙ read.links.0)) begun.1;
      kept = kept_are_quiet _ _ _ c.read-answer.new.self.running end.kept end.closed never kept;
    }
