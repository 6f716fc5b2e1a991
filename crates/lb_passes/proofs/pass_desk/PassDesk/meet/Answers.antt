-- The note that was met is seen, and nothing else changes.
use Rattle.std.proofs.Common.{◌≡◌, ◌∙◌, ◌<◌, ℕ, List, length, set, sym, ap, subst}
use mathlib.Core.Option.{some, some-injective}
use lib.ListN.{get_elem?}
use Rattle.lb_passes.specs.Holds.{first_own}
use Rattle.lb_passes.specs.Notes.{Meets, MeetsAt}
use Rattle.lb_passes.specs.PassDesks.{PassDeskState, StayPasses, desk_value, pass_state, view_of}
use Rattle.lb_passes.specs.declared.pass.Pass.{Pass}
use Rattle.lb_passes.proofs.CalledLaws.{got_same}
use Rattle.lb_passes.proofs.GotLaws.{at_place, desk_set, got_all, of_place, sizes_set, stay_set, within_at}
use Rattle.atomic_table.proofs.Lists.{set_else, set_here}
use Rattle.lb_passes.proofs.pass_desk.PassDesk.meet.Goals as goal

pub meet_at-requires-clause-of : goal.meet_at-requires-clause-of
meet_at-requires-clause-of g c =
    let lt = subst (λ (s : PassDeskState). c.args.lb < length s.desk.sizes) (sym c.self.view_is) c.requires.known in
    of_place _ _ _ _ _ _ _ c.self.invariant lt c.index-self-lb.is c.index_mut.ensures.value

pub meet_at-requires-clause-note : goal.meet_at-requires-clause-note
meet_at-requires-clause-note g c =
    let lt = subst (λ (s : PassDeskState). c.args.lb < length s.desk.sizes) (sym c.self.view_is) c.requires.known in
    let at = at_place c.self.inside.passes.items c.args.lb c.index_mut.result.now lt c.index_mut.ensures.value in
    let d = c.self.inside in
    c.requires.of c.index_mut.result.now (subst (λ (s : PassDeskState). get_elem? s.passes c.args.lb ≡ some c.index_mut.result.now) c.self.view_is at)

pub invariant_of-self : goal.invariant_of-self
invariant_of-self g c =
    let lt = subst (λ (s : PassDeskState). c.args.lb < length s.desk.sizes) (sym c.self.view_is) c.requires.known in
    let at = at_place c.self.inside.passes.items c.args.lb c.index_mut.result.now lt c.index_mut.ensures.value in
    let d = c.self.inside in
    let same = ap first_own c.meet_at.ensures.meets.owns in
    desk_set _ _ _ _ _ _ c.index_mut.result.now c.meet_at.new.pass c.self.invariant at c.meet_at.ensures.same.0 c.meet_at.ensures.same.1
    (got_all d.passes.items _ d.lists.held.items (λ x got. got_same d.passes.items c.args.lb c.index_mut.result.now c.meet_at.new.pass x at same got) c.self.invariant.got)

pub returns-clause-same : goal.returns-clause-same
returns-clause-same g c = record {
  desk =
      let lt = subst (λ (s : PassDeskState). c.args.lb < length s.desk.sizes) (sym c.self.view_is) c.requires.known in
      let at = at_place c.self.inside.passes.items c.args.lb c.index_mut.result.now lt c.index_mut.ensures.value in
      let d = c.self.inside in
      ap (λ (ns : List ℕ). pass_state d.number ns d.lists.receipts.items d.lists.held.items d.fulls d.wides)
      (sizes_set d.passes.items c.args.lb c.index_mut.result.now c.meet_at.new.pass at c.meet_at.ensures.meets.origin)
      ∙ ap (λ (s : PassDeskState). s.desk) c.self.view_is;
  stay =
      let lt = subst (λ (s : PassDeskState). c.args.lb < length s.desk.sizes) (sym c.self.view_is) c.requires.known in
      let at = at_place c.self.inside.passes.items c.args.lb c.index_mut.result.now lt c.index_mut.ensures.value in
      let d = c.self.inside in
      let e = c.meet_at.ensures in
      subst (λ (s : PassDeskState). StayPasses s.passes (set d.passes.items c.args.lb c.meet_at.new.pass)) c.self.view_is
      (stay_set d.passes.items c.args.lb c.index_mut.result.now c.meet_at.new.pass at e.same.0 e.same.1 e.meets.origin e.meets.given);
}

pub returns-clause-meets : goal.returns-clause-meets
returns-clause-meets g c =
    let lt = subst (λ (s : PassDeskState). c.args.lb < length s.desk.sizes) (sym c.self.view_is) c.requires.known in
    let at = at_place c.self.inside.passes.items c.args.lb c.index_mut.result.now lt c.index_mut.ensures.value in
    let d = c.self.inside in
    let new = desk_value d.number (set d.passes.items c.args.lb c.meet_at.new.pass) d.lists.receipts.items d.lists.held.items d.fulls d.wides in
    subst (λ (s : PassDeskState). MeetsAt s new c.args.lb c.args.note) c.self.view_is (record {
      others = λ j other. set_else d.passes.items c.args.lb j c.meet_at.new.pass other;
      meets = λ p there. (
        c.meet_at.new.pass,
        set_here d.passes.items c.args.lb c.meet_at.new.pass (within_at d.passes.items c.args.lb c.index_mut.result.now at),
        subst (λ (x : Pass). Meets (view_of x) c.args.note.seat.me.0 (view_of c.meet_at.new.pass)) (some-injective c.index_mut.result.now p (sym at ∙ there)) c.meet_at.ensures.meets,
      );
    })
