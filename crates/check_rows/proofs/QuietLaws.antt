-- Over a reach in memory of which no call is to fail none fails.
use Rattle.std.proofs.Common.{◌≡◌, ℕ, suc, ◌<◌, ◌==◌, inl, inr, Bool, true, false, List, [], ◌∷◌, ◌++◌, length, All, Contains, count_by, take, drop, refl, sym, subst, arith}
use Rattle.std.proofs.lemmas.List.Elements.{All-head, All-tail, All-push, All-append, All-take, All-drop, All-get_or}
use Rattle.jk_io.specs.Memory.{MemLinkState, NeverFails, ReadIsToFail, DialledNext}
use Rattle.jk_io.specs.MemReaches.{MemReachState, GivesLink, IsQuiet}
use Rattle.jk_io.specs.declared.memory.member_link.MemberLink.{MemberLink}

-- no call is one of none
pub none_planned : (failing : List ℕ) (call : ℕ) → failing ≡ [] → Contains failing call → ⊥
none_planned failing call none planned =
    let P : List ℕ → Type 0 = λ f. Contains f call in
    let k = subst P none planned in absurd (omega (arith, k.1))

pub reads_on : (link : MemLinkState) → NeverFails link.plan → ReadIsToFail link → ⊥
reads_on link never = elim [
  | inl planned ↦ none_planned link.plan.failing link.calls never.calls planned
  | inr due ↦
      let P : List ℕ → Type 0 = λ reads. link.reads_failed < count_by (λ n. n == length link.received) reads in
      let less = subst P never.reads due in absurd (omega (arith, less))
]

next_is_quiet : (links : List MemLinkState) (link : MemLinkState) (after : List MemLinkState) → DialledNext links link after
    → All (λ l. NeverFails l.plan) links → NeverFails link.plan × All (λ l. NeverFails l.plan) after
next_is_quiet [] link after given quiet = (
  subst (λ l. NeverFails l.plan) (sym given.0) (record { calls = refl; reads = refl; writes = refl }),
  subst (All (λ l. NeverFails l.plan)) (sym given.1) quiet,
)
next_is_quiet (next ∷ later) link after given quiet = (
  subst (λ l. NeverFails l.plan) (sym given.0) (All-head (λ l. NeverFails l.plan) next later quiet),
  subst (All (λ l. NeverFails l.plan)) (sym given.1) (All-tail (λ l. NeverFails l.plan) next later quiet),
)

-- a begin of a quiet reach gives a link that never fails, and the others stay
pub given_is_quiet : (lb member : ℕ) (fresh dialled : Bool) (before after : MemReachState) → IsQuiet before → GivesLink lb member fresh dialled before after
    → NeverFails after.running.link.plan × All (λ l. NeverFails l.plan) after.links × All (λ k. NeverFails k.link.plan) after.kept
given_is_quiet lb member fresh false before after quiet given =
    let Kept : MemberLink → Type 0 = λ k. NeverFails k.link.plan in
    let kept = given.kept refl in
    let last = kept.1 in
    let at = All-get_or Kept before.kept last.place after.running last.last.within quiet.kept in (
      subst Kept (last.taken after.running) at,
      subst (All (λ l. NeverFails l.plan)) (sym kept.2) quiet.links,
      subst (All Kept) (sym last.left)
          (All-append Kept (take last.place before.kept) (drop (suc last.place) before.kept)
          (All-take Kept last.place before.kept quiet.kept) (All-drop Kept (suc last.place) before.kept quiet.kept)),
    )
given_is_quiet lb member fresh true before after quiet given =
    let next = given.next refl in
    let links = next_is_quiet before.links after.running.link after.links next.0 quiet.links in
    (links.0, links.1, subst (All (λ k. NeverFails k.link.plan)) (sym next.1) quiet.kept)

-- the kept links after a talk, whether its link was kept or not
pub kept_are_quiet : (keep : Bool) (before now : List MemberLink) (running : MemberLink) → (keep ≡ true → now ≡ before ++ running ∷ [])
    → (keep ≡ false → now ≡ before) → NeverFails running.link.plan → All (λ k. NeverFails k.link.plan) before
    → All (λ k. NeverFails k.link.plan) now
kept_are_quiet true before now running kept closed never quiet =
    let Kept : MemberLink → Type 0 = λ k. NeverFails k.link.plan in
    subst (All Kept) (sym (kept refl)) (All-push Kept before running quiet never)
kept_are_quiet false before now running kept closed never quiet =
    subst (All (λ k. NeverFails k.link.plan)) (sym (closed refl)) quiet
