-- An ask, in one turn or refused before it.
use Rattle.std.proofs.Common.{◌≡◌, ◌∙◌, ◌<◌, length, set, refl, sym, subst, arith}
use Rattle.std.specs.Prelude.{IfOk, IfErr, IfSome}
use Rattle.lb_book.specs.Desks.{Chooses, KeepsDesk, RefusesChoice}
use Rattle.lb_book.specs.PlainLeases.{note_of}
use Rattle.lb_passes.specs.PassDesks.{MaySee, PassDeskState, StayPasses, desk_value, pass_state, sizes_in, view_of}
use Rattle.lb_passes.proofs.CalledLaws.{choose_given, choose_got, choose_origin, choose_sees}
use Rattle.lb_passes.proofs.DeskLaws.{desk_chooses, desk_denies, keeps_desk}
use Rattle.lb_passes.proofs.GotLaws.{at_place, desk_set, of_place, size_at, sizes_set, stay_set}
use Rattle.lb_passes.proofs.RoomLaws.{ask_fits, fits_set}
use Rattle.lb_passes.specs.Rooms.{AskFits}
use Rattle.lb_passes.specs.declared.pass_view.PassView.{PassView}
use Rattle.lb_passes.proofs.pass_desk.PassDeskDesk.choose.Goals as goal

pub choose_at-done-requires : goal.choose_at-done-requires
choose_at-done-requires g c =
    let lt = subst (λ (s : PassDeskState). c.args.lb < length s.desk.sizes) (sym c.self.view_is) c.requires.known in
    let at = at_place c.self.inside.passes.items c.args.lb c.index_mut.result.now lt c.index_mut.ensures.value in
    record {
      of = of_place _ _ _ _ _ _ _ c.self.invariant lt c.index-self-lb.is c.index_mut.ensures.value;
      caller =
          subst (λ (s : PassDeskState). IfSome s.desk.caller (λ n. c.args.session ≡ n)) (sym c.self.view_is) c.requires.caller
          ∙ sym (c.self.invariant.numbers c.args.lb c.index_mut.result.now at);
    }

pub invariant_of-self : goal.invariant_of-self
invariant_of-self g c =
    let lt = subst (λ (s : PassDeskState). c.args.lb < length s.desk.sizes) (sym c.self.view_is) c.requires.known in
    let at = at_place c.self.inside.passes.items c.args.lb c.index_mut.result.now lt c.index_mut.ensures.value in
    let done = c.choose_at-done in
    desk_set _ _ _ _ _ _ c.index_mut.result.now done.new.pass c.self.invariant at done.ensures.seat.of done.ensures.seat.number
    (choose_got c.self.inside.passes.items c.args.lb c.index_mut.result.now done.new.pass at c.self.inside.lists done.new.lists c.args.session c.args.at c.args.ask.now done.result
    done.ensures.ok done.ensures.err c.self.invariant.got)

pub returns-clause-ok : goal.returns-clause-ok
returns-clause-ok g c =
    let lt = subst (λ (s : PassDeskState). c.args.lb < length s.desk.sizes) (sym c.self.view_is) c.requires.known in
    let at = at_place c.self.inside.passes.items c.args.lb c.index_mut.result.now lt c.index_mut.ensures.value in
    let done = c.choose_at-done in
    let d = c.self.inside in
    let new = pass_state d.number (sizes_in (set d.passes.items c.args.lb done.new.pass)) done.new.lists.receipts.items done.new.lists.held.items c.count_full.new.fulls
    c.self.inside.wides in
    subst (λ (s : PassDeskState). IfOk done.result (λ x. Chooses note_of s.desk new c.args.lb c.args.session c.args.at c.args.ask.now x)) c.self.view_is
    (desk_chooses d.number (sizes_in d.passes.items) (sizes_in (set d.passes.items c.args.lb done.new.pass)) c.args.lb (view_of c.index_mut.result.now) (view_of done.new.pass)
    (size_at d.passes.items c.args.lb c.index_mut.result.now at) d.lists done.new.lists d.fulls c.count_full.new.fulls d.wides c.args.session c.args.at
    c.args.ask.now done.result done.ensures.ok c.count_full.ensures.counted)

pub returns-clause-err : goal.returns-clause-err
returns-clause-err g c =
    let lt = subst (λ (s : PassDeskState). c.args.lb < length s.desk.sizes) (sym c.self.view_is) c.requires.known in
    let at = at_place c.self.inside.passes.items c.args.lb c.index_mut.result.now lt c.index_mut.ensures.value in
    let done = c.choose_at-done in
    let d = c.self.inside in
    let new = pass_state d.number (sizes_in (set d.passes.items c.args.lb done.new.pass)) done.new.lists.receipts.items done.new.lists.held.items c.count_full.new.fulls
    c.self.inside.wides in
    subst (λ (s : PassDeskState). IfErr done.result (λ e. RefusesChoice (λ mark. mark) s.desk new c.args.lb c.args.session c.args.at e)) c.self.view_is
    (desk_denies d.number (sizes_in d.passes.items) (sizes_in (set d.passes.items c.args.lb done.new.pass)) c.args.lb (view_of c.index_mut.result.now) (view_of done.new.pass)
    (size_at d.passes.items c.args.lb c.index_mut.result.now at) d.lists done.new.lists d.fulls c.count_full.new.fulls d.wides c.args.session c.args.at
    done.result done.ensures.err c.count_full.ensures.counted)

pub returns-clause-keeps : goal.returns-clause-keeps
returns-clause-keeps g c = record {
  kept =
      let lt = subst (λ (s : PassDeskState). c.args.lb < length s.desk.sizes) (sym c.self.view_is) c.requires.known in
      let at = at_place c.self.inside.passes.items c.args.lb c.index_mut.result.now lt c.index_mut.ensures.value in
      let done = c.choose_at-done in
      let d = c.self.inside in
      let origin = choose_origin (view_of c.index_mut.result.now) (view_of done.new.pass) d.lists done.new.lists _ c.args.ask.now done.result done.ensures.ok done.ensures.err in
      let new = pass_state d.number (sizes_in (set d.passes.items c.args.lb done.new.pass)) done.new.lists.receipts.items done.new.lists.held.items c.count_full.new.fulls
      c.self.inside.wides in
      subst (λ (s : PassDeskState). KeepsDesk s.desk new) c.self.view_is
      (keeps_desk d.number (sizes_in d.passes.items) _ d.lists.receipts.items _ d.lists.held.items _ d.fulls _ d.wides _
      (sizes_set d.passes.items c.args.lb c.index_mut.result.now done.new.pass at origin) c.count_full.ensures.no_fewer (omega arith));
  stay =
      let lt = subst (λ (s : PassDeskState). c.args.lb < length s.desk.sizes) (sym c.self.view_is) c.requires.known in
      let at = at_place c.self.inside.passes.items c.args.lb c.index_mut.result.now lt c.index_mut.ensures.value in
      let d = c.self.inside in
      let done = c.choose_at-done in
      let v = view_of c.index_mut.result.now in
      let w = view_of done.new.pass in
      subst (λ (s : PassDeskState). StayPasses s.passes (set d.passes.items c.args.lb done.new.pass)) c.self.view_is
      (stay_set d.passes.items c.args.lb c.index_mut.result.now done.new.pass at done.ensures.seat.of done.ensures.seat.number
      (choose_origin v w d.lists done.new.lists _ c.args.ask.now done.result done.ensures.ok done.ensures.err)
      (choose_given v w d.lists done.new.lists _ c.args.ask.now done.result done.ensures.ok done.ensures.err));
}

pub returns-clause-seen : goal.returns-clause-seen
returns-clause-seen g c =
    let lt = subst (λ (s : PassDeskState). c.args.lb < length s.desk.sizes) (sym c.self.view_is) c.requires.known in
    let at = at_place c.self.inside.passes.items c.args.lb c.index_mut.result.now lt c.index_mut.ensures.value in
    let done = c.choose_at-done in
    let d = c.self.inside in
    let new = desk_value d.number (set d.passes.items c.args.lb done.new.pass) done.new.lists.receipts.items done.new.lists.held.items c.count_full.new.fulls
    c.self.inside.wides in
    subst (λ (s : PassDeskState). MaySee s new c.args.lb) c.self.view_is
    (choose_sees (desk_value d.number d.passes.items d.lists.receipts.items d.lists.held.items d.fulls d.wides) new c.args.lb c.index_mut.result.now done.new.pass d.lists done.new.lists _
    c.args.ask.now done.result at refl refl refl done.ensures.ok done.ensures.err)

pub returns-clause-fits : goal.returns-clause-fits
returns-clause-fits g c =
    let lt = subst (λ (s : PassDeskState). c.args.lb < length s.desk.sizes) (sym c.self.view_is) c.requires.known in
    let at = at_place c.self.inside.passes.items c.args.lb c.index_mut.result.now lt c.index_mut.ensures.value in
    let done = c.choose_at-done in
    fits_set c.self.inside.passes.items c.args.lb c.index_mut.result.now done.new.pass (λ (v : PassView). AskFits v done.result) at
    (ask_fits (view_of c.index_mut.result.now) (view_of done.new.pass) c.self.inside.lists done.new.lists _ c.args.ask.now done.result done.ensures.ok done.ensures.err)
