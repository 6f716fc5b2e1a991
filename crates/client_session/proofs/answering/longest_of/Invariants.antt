-- The names of the members so far.
use Rattle.std.proofs.Common.{◌≤◌, length, take}
use Rattle.std.specs.List.{All}
use Rattle.lb_model.specs.declared.member.MemberConfig.{MemberConfig}
use Rattle.client_session.proofs.answering.longest_of.Given as goal

abbrev pub invariant-loop-member : goal.invariant-loop-member
invariant-loop-member l = All (λ (m : MemberConfig). length m.name ≤ l.longest) (take l.member-index l.members)
