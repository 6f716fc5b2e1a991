-- A note changes nothing that a pass knows.
use Rattle.std.proofs.Common.{◌≡◌, ◌∙◌, ◌<◌, ℕ, List, length, map, set, sym, ap, subst}
use mathlib.Core.Option.{some, some-injective}
use lib.ListN.{get_elem?}
use Rattle.lb_passes.specs.declared.pass_view.PassView.{PassView}
use Rattle.atomic_table.specs.Table.{Me}
use Rattle.lb_book.specs.Journal.{Journal}
use Rattle.lb_passes.specs.Holds.{own_in}
use Rattle.lb_passes.specs.Notes.{IsNoteOfPass}
use Rattle.lb_passes.specs.PassDesks.{PassDeskState, StayPasses, pass_state, view_of}
use Rattle.lb_passes.specs.declared.pass.Pass.{Pass}
use Rattle.lb_passes.proofs.CalledLaws.{got_same, views_set}
use Rattle.lb_passes.proofs.GotLaws.{at_place, desk_set, got_all, of_place, sizes_set, stay_set}
use Rattle.lb_passes.proofs.pass_desk.PassDesk.note.Goals as goal

pub note_at-requires : goal.note_at-requires
note_at-requires g c =
    let lt = subst (λ (s : PassDeskState). c.args.lb < length s.desk.sizes) (sym c.self.view_is) c.requires.known in
    record { of = of_place _ _ _ _ _ _ _ c.self.invariant lt c.index-self-lb.is c.index_mut.ensures.value }

pub invariant_of-self : goal.invariant_of-self
invariant_of-self g c =
    let lt = subst (λ (s : PassDeskState). c.args.lb < length s.desk.sizes) (sym c.self.view_is) c.requires.known in
    let at = at_place c.self.inside.passes.items c.args.lb c.index_mut.result.now lt c.index_mut.ensures.value in
    let d = c.self.inside in
    let same = ap (λ (m : Me Journal PassView). own_in m.0) c.note_at.ensures.same.0 in
    desk_set _ _ _ _ _ _ c.index_mut.result.now c.note_at.new.pass c.self.invariant at c.note_at.ensures.same.1 c.note_at.ensures.same.2
    (got_all d.passes.items _ d.lists.held.items (λ x got. got_same d.passes.items c.args.lb c.index_mut.result.now c.note_at.new.pass x at same got) c.self.invariant.got)

pub returns-clause-note : goal.returns-clause-note
returns-clause-note g c = λ p there.
    let lt = subst (λ (s : PassDeskState). c.args.lb < length s.desk.sizes) (sym c.self.view_is) c.requires.known in
    let at = at_place c.self.inside.passes.items c.args.lb c.index_mut.result.now lt c.index_mut.ensures.value in
    let d = c.self.inside in
    let here : get_elem? d.passes.items c.args.lb ≡ some p = subst (λ (s : PassDeskState). get_elem? s.passes c.args.lb ≡ some p) (sym c.self.view_is) there in
    subst (λ (x : Pass). IsNoteOfPass x c.note_at.result) (some-injective c.index_mut.result.now p (sym at ∙ here)) c.note_at.ensures.note

pub returns-clause-same : goal.returns-clause-same
returns-clause-same g c = record {
  desk =
      let lt = subst (λ (s : PassDeskState). c.args.lb < length s.desk.sizes) (sym c.self.view_is) c.requires.known in
      let at = at_place c.self.inside.passes.items c.args.lb c.index_mut.result.now lt c.index_mut.ensures.value in
      let d = c.self.inside in
      ap (λ (ns : List ℕ). pass_state d.number ns d.lists.receipts.items d.lists.held.items d.fulls d.wides)
      (sizes_set d.passes.items c.args.lb c.index_mut.result.now c.note_at.new.pass at (ap (λ (m : Me Journal PassView). m.0.origin) c.note_at.ensures.same.0))
      ∙ ap (λ (s : PassDeskState). s.desk) c.self.view_is;
  stay =
      let lt = subst (λ (s : PassDeskState). c.args.lb < length s.desk.sizes) (sym c.self.view_is) c.requires.known in
      let at = at_place c.self.inside.passes.items c.args.lb c.index_mut.result.now lt c.index_mut.ensures.value in
      let d = c.self.inside in
      let e = c.note_at.ensures.same in
      subst (λ (s : PassDeskState). StayPasses s.passes (set d.passes.items c.args.lb c.note_at.new.pass)) c.self.view_is
      (stay_set d.passes.items c.args.lb c.index_mut.result.now c.note_at.new.pass at e.1 e.2
      (ap (λ (m : Me Journal PassView). m.0.origin) e.0) (ap (λ (m : Me Journal PassView). m.0.given) e.0));
}

pub returns-clause-views : goal.returns-clause-views
returns-clause-views g c =
    let lt = subst (λ (s : PassDeskState). c.args.lb < length s.desk.sizes) (sym c.self.view_is) c.requires.known in
    let at = at_place c.self.inside.passes.items c.args.lb c.index_mut.result.now lt c.index_mut.ensures.value in
    let d = c.self.inside in
    views_set d.passes.items c.args.lb c.index_mut.result.now c.note_at.new.pass at (ap (λ (m : Me Journal PassView). m.0) c.note_at.ensures.same.0)
    ∙ ap (λ (s : PassDeskState). map view_of s.passes) c.self.view_is
