-- Where the calls of the objects in memory fail, and whose link a talk gets.
use Rattle.std.proofs.Common.{◌≡◌, ℕ, ◌↔◌, ◌⊎◌, inl, inr, Bool, true, false, ◌==◌, IsTrue, HoldsAt, remove, sym, subst, true≢false}
use Rattle.std.proofs.lemmas.Bool.{and_parts, eqb-true}
use Rattle.jk_io.specs.MemReaches.{MemReachState, IsLastOf, GivesLink, is_of}
use Rattle.jk_io.specs.declared.memory.member_link.MemberLink.{MemberLink}

due_or : (planned due more : Type 0) → (due → more) → planned ⊎ due → planned ⊎ more
due_or planned due more f (inl p) = inl p
due_or planned due more f (inr d) = inr (f d)

-- a call fails exactly where it was planned or one more is due
pub fails_where_due : (planned more : Type 0) (fails due : Bool) → (IsTrue fails ↔ (planned ⊎ IsTrue due)) → (IsTrue due ↔ more)
    → (IsTrue fails ↔ (planned ⊎ more))
fails_where_due planned more fails due is_planned is_due = (
  λ f. due_or planned (IsTrue due) more is_due.0 (is_planned.0 f),
  λ x. is_planned.1 (due_or planned more (IsTrue due) is_due.1 x),
)

-- whose a link is
pub is_of-parts : (lb member : ℕ) (link : MemberLink) → is_of lb member link ≡ true → (link.lb ≡ lb) × (link.member ≡ member)
is_of-parts lb member link is =
    let parts = and_parts (link.lb == lb) (link.member == member) is in
    (eqb-true link.lb lb parts.0, eqb-true link.member member parts.1)

-- a begin took out the kept link at the last place of the member
pub gives_kept : (lb member : ℕ) (fresh : Bool) (place : ℕ) (before after : MemReachState)
    → (fresh ≡ false) × IsLastOf lb member before.kept place
    → HoldsAt (λ link. link ≡ after.running) before.kept place
    → after.kept ≡ remove before.kept place → after.links ≡ before.links
    → GivesLink lb member fresh false before after
gives_kept lb member fresh place before after last taken left links =
    let P : MemberLink → Type 0 = λ link. is_of lb member link ≡ true in record {
      whose = is_of-parts lb member after.running (subst P (taken after.running) (last.1.whose after.running));
      kept = λ e. (last.0, record { place = place; last = last.1; taken = taken; left = left }, links);
      next = λ e. absurd (true≢false (sym e));
      none = λ e. absurd (true≢false (sym e));
    }
