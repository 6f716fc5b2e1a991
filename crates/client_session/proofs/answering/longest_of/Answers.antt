-- The longest name so far is at least as long as each of them.
use Rattle.std.proofs.Common.{◌≡◌, ◌≤◌, ◌<◌, ◌+◌, ℕ, List, length, take, get_or, sym, subst, arith}
use Rattle.std.specs.List.{All}
use Rattle.std.proofs.lemmas.List.{take_all}
use Rattle.std.proofs.lemmas.List.Elements.{All-push}
use Rattle.lb_model.specs.declared.member.MemberConfig.{MemberConfig}
use Rattle.status_worker.proofs.CommandLaws.{next_taken}
use Rattle.client_session.proofs.answering.longest_of.Goals.{then-longest-len, else-longest-len}
use Rattle.client_session.proofs.answering.longest_of.Goals as goal

abbrev AreWithin : ℕ → List MemberConfig → Type 0
AreWithin longest members = All (λ (m : MemberConfig). length m.name ≤ longest) members

longer : (before now : ℕ) (members : List MemberConfig) → before ≤ now → AreWithin before members → AreWithin now members
longer before now members more within = λ k d there. omega (arith, within k d there, more)

one_more : (members : List MemberConfig) (i : ℕ) (m : MemberConfig) (before now : ℕ) → i < length members → m ≡ get_or members i m
    → AreWithin before (take i members) → before ≤ now → length m.name ≤ now → AreWithin now (take (i + 1) members)
one_more members i m before now there is within more fits =
    subst (AreWithin now) (sym (next_taken members i m there is))
    (All-push (λ (x : MemberConfig). length x.name ≤ now) (take i members) m (longer before now (take i members) more within) fits)

pub loop-member-preserved : goal.loop-member-preserved
loop-member-preserved c =
    elim c.if-longest-len.branch [
      | then-longest-len w ↦
          one_more c.args.members.now c.loop-member.member-index c.member-item.result c.loop-member.longest c.if-longest-len.longest c.loop-member-test.true c.member-item.is
          c.loop-member.invariant (omega (arith, w.if-longest-len.true, w.longest-is, w.len-longest.ensures, c.len.ensures)) (omega (arith, w.longest-is, w.len-longest.ensures))
      | else-longest-len w ↦
          one_more c.args.members.now c.loop-member.member-index c.member-item.result c.loop-member.longest c.if-longest-len.longest c.loop-member-test.true c.member-item.is
          c.loop-member.invariant (omega (arith, w.longest-is)) (omega (arith, w.if-longest-len.false, w.longest-is, c.len.ensures))
    ]

pub returns : goal.returns
returns c =
    subst (AreWithin c.loop-member.longest) (take_all c.loop-member.member-index c.args.members.now (omega (arith, c.loop-member-test.false)))
    c.loop-member.invariant
