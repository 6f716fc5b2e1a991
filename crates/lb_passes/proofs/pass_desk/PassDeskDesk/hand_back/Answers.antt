-- A ticket that is held is one that its pass got and still has.
use Rattle.std.proofs.Common.{◌≡◌, ◌∙◌, ◌<◌, ℕ, true, false, List, length, set, refl, sym, ap, subst, arith}
use Rattle.std.specs.Prelude.{IfSome}
use mathlib.Core.Option.{some-injective}
use Rattle.atomic_table.proofs.Lists.{at_index}
use Rattle.lb_model.specs.Tickets.{is_returned}
use Rattle.lb_book.specs.Desks.{KeepsDesk, TakesBack, holds, without_last}
use Rattle.lb_book.specs.Histories.{has_made}
use Rattle.lb_passes.specs.declared.pass_view.PassView.{PassView}
use Rattle.lb_passes.specs.Holds.{own_in}
use Rattle.lb_passes.specs.PassDesks.{AreGot, PassDeskState, SeesAt, StayPasses, desk_value, pass_state, sizes_in, view_of}
use Rattle.lb_passes.specs.declared.pass.Pass.{Pass}
use Rattle.lb_passes.specs.declared.pass_book.PassBook.{PassBook}
use Rattle.lb_passes.proofs.CalledLaws.{return_got, turn_sees}
use Rattle.lb_passes.proofs.DeskLaws.{desk_returns, keeps_desk}
use Rattle.lb_passes.proofs.GotLaws.{desk_set, got_found, got_last, size_at, sizes_set, stay_set, within_at}
use Rattle.lb_passes.proofs.pass_desk.PassDeskDesk.hand_back.Goals as goal

had_pair : (lb t lb' t' : ℕ) (held : List (ℕ × ℕ)) → lb' ≡ lb → t' ≡ t → holds held (lb, t) ≡ true → holds held (lb', t') ≡ true
had_pair lb t lb' t' held same same' had =
    subst (λ (n : ℕ). holds held (n, t') ≡ true) (sym same) (subst (λ (n : ℕ). holds held (lb, n) ≡ true) (sym same') had)

pub bounds-self-inside-lb : goal.bounds-self-inside-lb
bounds-self-inside-lb g c =
    let d = c.self.inside in
    let pair = c.into_pair-lb.ensures in
    let had = had_pair _ _ _ _ d.lists.held.items pair.0 pair.1 (subst (λ (s : PassDeskState). holds s.desk.held (c.args.lease.lb, c.args.lease.lease.ticket) ≡ true) (sym c.self.view_is) c.requires.held) in
    let got = got_found d.passes.items d.lists.held.items (c.into_pair-lb.result.0, c.into_pair-lb.result.1) had c.self.invariant.got in
    let lt = within_at d.passes.items c.into_pair-lb.result.0 got.pass got.found in
    omega (arith, lt, c.self.invariant.many)

pub index_mut-requires : goal.index_mut-requires
index_mut-requires g c =
    let d = c.self.inside in
    let pair = c.into_pair-lb.ensures in
    let had = had_pair _ _ _ _ d.lists.held.items pair.0 pair.1 (subst (λ (s : PassDeskState). holds s.desk.held (c.args.lease.lb, c.args.lease.lease.ticket) ≡ true) (sym c.self.view_is) c.requires.held) in
    let got = got_found d.passes.items d.lists.held.items (c.into_pair-lb.result.0, c.into_pair-lb.result.1) had c.self.invariant.got in
    let lt = within_at d.passes.items c.into_pair-lb.result.0 got.pass got.found in
    omega (arith, lt, d.passes.ok.0)

pub return_at-requires-clause-own : goal.return_at-requires-clause-own
return_at-requires-clause-own g c =
    let d = c.self.inside in
    let pair = c.into_pair-lb.ensures in
    let had = had_pair _ _ _ _ d.lists.held.items pair.0 pair.1 (subst (λ (s : PassDeskState). holds s.desk.held (c.args.lease.lb, c.args.lease.lease.ticket) ≡ true) (sym c.self.view_is) c.requires.held) in
    let got = got_found d.passes.items d.lists.held.items (c.into_pair-lb.result.0, c.into_pair-lb.result.1) had c.self.invariant.got in
    let lt = within_at d.passes.items c.into_pair-lb.result.0 got.pass got.found in
    let at = at_index d.passes.items c.into_pair-lb.result.0 c.index_mut.result.now lt c.index_mut.ensures.value in
    let lt' : c.into_pair-lb.result.0 < length d.books.now = omega (arith, lt, c.self.invariant.many) in
    record {
      of =
          c.self.invariant.of _ _ c.index_mut.result.now (at_index d.books.now c.into_pair-lb.result.0 c.index-self-lb.result lt' c.index-self-lb.is) at
          ∙ ap (λ (x : PassBook). x.table.shared.table_id) c.index-self-lb.is;
      caller =
          subst (λ (s : PassDeskState). IfSome s.desk.caller (λ n. c.args.session ≡ n)) (sym c.self.view_is) c.requires.caller
          ∙ sym (c.self.invariant.numbers c.into_pair-lb.result.0 c.index_mut.result.now at);
    }

pub return_at-requires-clause-out : goal.return_at-requires-clause-out
return_at-requires-clause-out g c = record {
  made =
      let d = c.self.inside in
      let pair = c.into_pair-lb.ensures in
      let had = had_pair _ _ _ _ d.lists.held.items pair.0 pair.1 (subst (λ (s : PassDeskState). holds s.desk.held (c.args.lease.lb, c.args.lease.lease.ticket) ≡ true) (sym c.self.view_is) c.requires.held) in
      let got = got_found d.passes.items d.lists.held.items (c.into_pair-lb.result.0, c.into_pair-lb.result.1) had c.self.invariant.got in
      let lt = within_at d.passes.items c.into_pair-lb.result.0 got.pass got.found in
      let at = at_index d.passes.items c.into_pair-lb.result.0 c.index_mut.result.now lt c.index_mut.ensures.value in
      subst (λ (y : Pass). has_made c.into_pair-lb.result.1 (own_in (view_of y)) ≡ true) (some-injective got.pass c.index_mut.result.now (sym got.found ∙ at)) got.made;
  still =
      let d = c.self.inside in
      let pair = c.into_pair-lb.ensures in
      let had = had_pair _ _ _ _ d.lists.held.items pair.0 pair.1 (subst (λ (s : PassDeskState). holds s.desk.held (c.args.lease.lb, c.args.lease.lease.ticket) ≡ true) (sym c.self.view_is) c.requires.held) in
      let got = got_found d.passes.items d.lists.held.items (c.into_pair-lb.result.0, c.into_pair-lb.result.1) had c.self.invariant.got in
      let lt = within_at d.passes.items c.into_pair-lb.result.0 got.pass got.found in
      let at = at_index d.passes.items c.into_pair-lb.result.0 c.index_mut.result.now lt c.index_mut.ensures.value in
      subst (λ (y : Pass). is_returned c.into_pair-lb.result.1 (own_in (view_of y)) ≡ false) (some-injective got.pass c.index_mut.result.now (sym got.found ∙ at)) got.still;
}

pub invariant_of-self : goal.invariant_of-self
invariant_of-self g c =
    let d = c.self.inside in
    let pair = c.into_pair-lb.ensures in
    let had = had_pair _ _ _ _ d.lists.held.items pair.0 pair.1 (subst (λ (s : PassDeskState). holds s.desk.held (c.args.lease.lb, c.args.lease.lease.ticket) ≡ true) (sym c.self.view_is) c.requires.held) in
    let got = got_found d.passes.items d.lists.held.items (c.into_pair-lb.result.0, c.into_pair-lb.result.1) had c.self.invariant.got in
    let lt = within_at d.passes.items c.into_pair-lb.result.0 got.pass got.found in
    let at = at_index d.passes.items c.into_pair-lb.result.0 c.index_mut.result.now lt c.index_mut.ensures.value in
    let e = c.return_at.ensures in
    desk_set _ _ _ _ _ _ c.index_mut.result.now c.return_at.new.pass c.self.invariant at e.seat.of e.seat.number
    (subst (λ (hs : List (ℕ × ℕ)). AreGot (set d.passes.items c.into_pair-lb.result.0 c.return_at.new.pass) hs) (sym e.held)
    (return_got d.passes.items c.into_pair-lb.result.0 c.index_mut.result.now c.return_at.new.pass at d.lists.receipts.items c.return_at.new.lists.receipts.items d.lists.held.items
    c.args.session c.args.at c.into_pair-lb.result.1 c.args.outcome e.back c.self.invariant.got))

pub returns-clause-ok : goal.returns-clause-ok
returns-clause-ok g c =
    let d = c.self.inside in
    let pair = c.into_pair-lb.ensures in
    let had = had_pair _ _ _ _ d.lists.held.items pair.0 pair.1 (subst (λ (s : PassDeskState). holds s.desk.held (c.args.lease.lb, c.args.lease.lease.ticket) ≡ true) (sym c.self.view_is) c.requires.held) in
    let got = got_found d.passes.items d.lists.held.items (c.into_pair-lb.result.0, c.into_pair-lb.result.1) had c.self.invariant.got in
    let lt = within_at d.passes.items c.into_pair-lb.result.0 got.pass got.found in
    let at = at_index d.passes.items c.into_pair-lb.result.0 c.index_mut.result.now lt c.index_mut.ensures.value in
    let e = c.return_at.ensures in
    let new = pass_state d.number (sizes_in (set d.passes.items c.into_pair-lb.result.0 c.return_at.new.pass)) c.return_at.new.lists.receipts.items c.return_at.new.lists.held.items d.fulls d.wides in
    let here = desk_returns d.number (sizes_in d.passes.items) (sizes_in (set d.passes.items c.into_pair-lb.result.0 c.return_at.new.pass)) c.into_pair-lb.result.0 (view_of c.index_mut.result.now)
    (view_of c.return_at.new.pass) (size_at d.passes.items c.into_pair-lb.result.0 c.index_mut.result.now at) d.lists.receipts.items c.return_at.new.lists.receipts.items d.lists.held.items
    c.return_at.new.lists.held.items d.fulls d.wides c.args.session c.args.at c.args.lease.lease.member c.into_pair-lb.result.1 c.args.outcome e.back in
    subst (λ (s : PassDeskState). TakesBack s.desk new c.args.session c.args.at (record { lb = c.args.lease.lb; member = c.args.lease.lease.member; ticket = c.args.lease.lease.ticket }) c.args.outcome) c.self.view_is
    (subst (λ (n : ℕ). TakesBack (pass_state d.number (sizes_in d.passes.items) d.lists.receipts.items d.lists.held.items d.fulls d.wides) new c.args.session c.args.at
    (record { lb = n; member = c.args.lease.lease.member; ticket = c.args.lease.lease.ticket }) c.args.outcome) pair.0
    (subst (λ (n : ℕ). TakesBack (pass_state d.number (sizes_in d.passes.items) d.lists.receipts.items d.lists.held.items d.fulls d.wides) new c.args.session c.args.at
    (record { lb = c.into_pair-lb.result.0; member = c.args.lease.lease.member; ticket = n }) c.args.outcome) pair.1 here))

pub returns-clause-held : goal.returns-clause-held
returns-clause-held g c =
    let d = c.self.inside in
    let pair = c.into_pair-lb.ensures in
    c.return_at.ensures.held ∙ got_last d.passes.items d.lists.held.items (c.into_pair-lb.result.0, c.into_pair-lb.result.1) c.self.invariant.got
    ∙ ap (λ (n : ℕ). without_last d.lists.held.items (n, c.into_pair-lb.result.1)) pair.0 ∙ ap (λ (n : ℕ). without_last d.lists.held.items (c.args.lease.lb, n)) pair.1
    ∙ ap (λ (s : PassDeskState). without_last s.desk.held (c.args.lease.lb, c.args.lease.lease.ticket)) c.self.view_is

pub returns-clause-keeps : goal.returns-clause-keeps
returns-clause-keeps g c = record {
  kept =
      let d = c.self.inside in
      let pair = c.into_pair-lb.ensures in
      let had = had_pair _ _ _ _ d.lists.held.items pair.0 pair.1 (subst (λ (s : PassDeskState). holds s.desk.held (c.args.lease.lb, c.args.lease.lease.ticket) ≡ true) (sym c.self.view_is) c.requires.held) in
      let got = got_found d.passes.items d.lists.held.items (c.into_pair-lb.result.0, c.into_pair-lb.result.1) had c.self.invariant.got in
      let lt = within_at d.passes.items c.into_pair-lb.result.0 got.pass got.found in
      let at = at_index d.passes.items c.into_pair-lb.result.0 c.index_mut.result.now lt c.index_mut.ensures.value in
      let origin = ap (λ (x : PassView). x.origin) c.return_at.ensures.back.turn.after in
      let new = pass_state d.number (sizes_in (set d.passes.items c.into_pair-lb.result.0 c.return_at.new.pass)) c.return_at.new.lists.receipts.items c.return_at.new.lists.held.items d.fulls d.wides in
      subst (λ (s : PassDeskState). KeepsDesk s.desk new) c.self.view_is
      (keeps_desk d.number (sizes_in d.passes.items) _ d.lists.receipts.items _ d.lists.held.items _ d.fulls d.fulls d.wides d.wides
      (sizes_set d.passes.items c.into_pair-lb.result.0 c.index_mut.result.now c.return_at.new.pass at origin) (omega arith) (omega arith));
  stay =
      let d = c.self.inside in
      let pair = c.into_pair-lb.ensures in
      let had = had_pair _ _ _ _ d.lists.held.items pair.0 pair.1 (subst (λ (s : PassDeskState). holds s.desk.held (c.args.lease.lb, c.args.lease.lease.ticket) ≡ true) (sym c.self.view_is) c.requires.held) in
      let got = got_found d.passes.items d.lists.held.items (c.into_pair-lb.result.0, c.into_pair-lb.result.1) had c.self.invariant.got in
      let lt = within_at d.passes.items c.into_pair-lb.result.0 got.pass got.found in
      let at = at_index d.passes.items c.into_pair-lb.result.0 c.index_mut.result.now lt c.index_mut.ensures.value in
      let e = c.return_at.ensures in
      let turn = e.back.turn in
      subst (λ (s : PassDeskState). StayPasses s.passes (set d.passes.items c.into_pair-lb.result.0 c.return_at.new.pass)) c.self.view_is
      (stay_set d.passes.items c.into_pair-lb.result.0 c.index_mut.result.now c.return_at.new.pass at e.seat.of e.seat.number
      (ap (λ (x : PassView). x.origin) turn.after) (ap (λ (x : PassView). x.given) turn.after));
}

pub returns-clause-seen : goal.returns-clause-seen
returns-clause-seen g c =
    let d = c.self.inside in
    let pair = c.into_pair-lb.ensures in
    let had = had_pair _ _ _ _ d.lists.held.items pair.0 pair.1 (subst (λ (s : PassDeskState). holds s.desk.held (c.args.lease.lb, c.args.lease.lease.ticket) ≡ true) (sym c.self.view_is) c.requires.held) in
    let got = got_found d.passes.items d.lists.held.items (c.into_pair-lb.result.0, c.into_pair-lb.result.1) had c.self.invariant.got in
    let lt = within_at d.passes.items c.into_pair-lb.result.0 got.pass got.found in
    let at = at_index d.passes.items c.into_pair-lb.result.0 c.index_mut.result.now lt c.index_mut.ensures.value in
    let new = desk_value d.number (set d.passes.items c.into_pair-lb.result.0 c.return_at.new.pass) c.return_at.new.lists.receipts.items c.return_at.new.lists.held.items d.fulls d.wides in
    let here = turn_sees (desk_value d.number d.passes.items d.lists.receipts.items d.lists.held.items d.fulls d.wides) new c.into_pair-lb.result.0 c.index_mut.result.now c.return_at.new.pass
    d.lists.receipts.items c.return_at.new.lists.receipts.items c.return_at.ensures.back.book at refl refl refl c.return_at.ensures.back.turn in
    subst (λ (n : ℕ). SeesAt c.args.self.now new n) pair.0 (subst (λ (s : PassDeskState). SeesAt s new c.into_pair-lb.result.0) c.self.view_is here)
