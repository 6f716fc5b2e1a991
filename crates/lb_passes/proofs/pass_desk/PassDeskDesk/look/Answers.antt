-- A look adds nothing, and shows all that is then seen.
use Rattle.std.proofs.Common.{◌∙◌, ◌<◌, ℕ, List, [], length, set, refl, sym, ap, subst}
use Rattle.std.specs.Prelude.{IfOk}
use Rattle.lb_model.specs.declared.journal.Entry.{Entry}
use Rattle.lb_book.specs.Desks.{Shows}
use Rattle.lb_passes.specs.declared.pass_view.PassView.{PassView}
use Rattle.lb_passes.specs.PassDesks.{PassDeskState, SeesAt, SeesMore, StayPasses, desk_value, pass_state, sizes_in, view_of}
use Rattle.lb_passes.proofs.DeskLaws.{desk_shows}
use Rattle.lb_passes.proofs.GotLaws.{at_place, desk_set, gained_none, got_all, got_turn, of_place, sees_more, sees_set, shows_set, size_at, sizes_set, stay_set}
use Rattle.lb_passes.proofs.pass_desk.PassDeskDesk.look.Goals as goal

pub look_in-requires : goal.look_in-requires
look_in-requires g c =
    let lt = subst (λ (s : PassDeskState). c.args.lb < length s.desk.sizes) (sym c.self.view_is) c.requires.known in
    record { of = of_place _ _ _ _ _ _ _ c.self.invariant lt c.index-self-lb.is c.index_mut.ensures.value }

pub invariant_of-self : goal.invariant_of-self
invariant_of-self g c =
    let lt = subst (λ (s : PassDeskState). c.args.lb < length s.desk.sizes) (sym c.self.view_is) c.requires.known in
    let at = at_place c.self.inside.passes.items c.args.lb c.index_mut.result.now lt c.index_mut.ensures.value in
    let turn = c.look_in.ensures.looks.turn in
    desk_set _ _ _ _ _ _ c.index_mut.result.now c.look_in.new.pass c.self.invariant at c.look_in.ensures.seat.of c.look_in.ensures.seat.number
    (got_all c.self.inside.passes.items _ _ (λ x got. got_turn _ _ _ _ _ _ x at turn (λ here. refl) got) c.self.invariant.got)

pub returns-clause-shown : goal.returns-clause-shown
returns-clause-shown g c =
    let lt = subst (λ (s : PassDeskState). c.args.lb < length s.desk.sizes) (sym c.self.view_is) c.requires.known in
    let at = at_place c.self.inside.passes.items c.args.lb c.index_mut.result.now lt c.index_mut.ensures.value in
    subst (λ (s : PassDeskState). IfOk c.look_in.result (λ view. Shows s.desk c.args.lb view)) c.self.view_is
    (desk_shows c.self.inside.number (sizes_in c.self.inside.passes.items) (sizes_in c.self.inside.passes.items) c.args.lb (view_of c.index_mut.result.now)
    (view_of c.look_in.new.pass) (size_at c.self.inside.passes.items c.args.lb c.index_mut.result.now at) c.self.inside.lists.receipts.items c.self.inside.lists.held.items c.self.inside.fulls c.self.inside.wides
    c.look_in.result c.look_in.ensures.looks)

pub returns-clause-same : goal.returns-clause-same
returns-clause-same g c = record {
  desk =
      let lt = subst (λ (s : PassDeskState). c.args.lb < length s.desk.sizes) (sym c.self.view_is) c.requires.known in
      let at = at_place c.self.inside.passes.items c.args.lb c.index_mut.result.now lt c.index_mut.ensures.value in
      let turn = c.look_in.ensures.looks.turn in
      ap (λ (ns : List ℕ). pass_state c.self.inside.number ns c.self.inside.lists.receipts.items c.self.inside.lists.held.items c.self.inside.fulls c.self.inside.wides)
      (sizes_set c.self.inside.passes.items c.args.lb c.index_mut.result.now c.look_in.new.pass at (ap (λ (x : PassView). x.origin) turn.after))
      ∙ ap (λ (s : PassDeskState). s.desk) c.self.view_is;
  stay =
      let lt = subst (λ (s : PassDeskState). c.args.lb < length s.desk.sizes) (sym c.self.view_is) c.requires.known in
      let at = at_place c.self.inside.passes.items c.args.lb c.index_mut.result.now lt c.index_mut.ensures.value in
      let d = c.self.inside in
      let turn = c.look_in.ensures.looks.turn in
      subst (λ (s : PassDeskState). StayPasses s.passes (set d.passes.items c.args.lb c.look_in.new.pass)) c.self.view_is
      (stay_set d.passes.items c.args.lb c.index_mut.result.now c.look_in.new.pass at c.look_in.ensures.seat.of c.look_in.ensures.seat.number
      (ap (λ (x : PassView). x.origin) turn.after) (ap (λ (x : PassView). x.given) turn.after));
}

pub returns-clause-seen : goal.returns-clause-seen
returns-clause-seen g c =
    let lt = subst (λ (s : PassDeskState). c.args.lb < length s.desk.sizes) (sym c.self.view_is) c.requires.known in
    let at = at_place c.self.inside.passes.items c.args.lb c.index_mut.result.now lt c.index_mut.ensures.value in
    let turn = c.look_in.ensures.looks.turn in
    let sees = subst (λ (es : List Entry). SeesMore (view_of c.index_mut.result.now) (view_of c.look_in.new.pass) es) (sym (gained_none c.self.inside.lists.receipts.items))
    (sees_more _ _ _ [] turn) in
    let d = c.self.inside in
    let new = desk_value d.number (set d.passes.items c.args.lb c.look_in.new.pass) d.lists.receipts.items d.lists.held.items d.fulls d.wides in
    subst (λ (s : PassDeskState). SeesAt s new c.args.lb) c.self.view_is
    (sees_set (desk_value d.number d.passes.items d.lists.receipts.items d.lists.held.items d.fulls d.wides) new c.args.lb c.index_mut.result.now c.look_in.new.pass at refl sees)

pub returns-clause-present : goal.returns-clause-present
returns-clause-present g c =
    let lt = subst (λ (s : PassDeskState). c.args.lb < length s.desk.sizes) (sym c.self.view_is) c.requires.known in
    let at = at_place c.self.inside.passes.items c.args.lb c.index_mut.result.now lt c.index_mut.ensures.value in
    let d = c.self.inside in
    shows_set (desk_value d.number (set d.passes.items c.args.lb c.look_in.new.pass) d.lists.receipts.items d.lists.held.items d.fulls d.wides) c.self.inside.passes.items c.args.lb c.index_mut.result.now c.look_in.new.pass c.look_in.result at refl c.look_in.ensures.looks
