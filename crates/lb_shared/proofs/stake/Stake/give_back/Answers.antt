-- A hold of the lock that takes a lease back, and what the desk's stake is then.
use Rattle.std.proofs.Common.{◌≡◌, ℕ, true, ◌∷◌, length, Some, subst, sym, ap, ◌∙◌, arith}
use Rattle.std.specs.Prelude.{vec_capacity}
use Rattle.atomic_table.specs.Table.{rest}
use Rattle.lb_book.specs.Desks.{holds, without_last}
use Rattle.lb_shared.specs.Histories.{seat_note}
use Rattle.lb_shared.specs.Holds.{cut_in, held}
use Rattle.lb_shared.specs.Stakes.{StakeState}
use Rattle.lb_shared.proofs.CountLaws.{count_cuts, count_returned}
use Rattle.lb_shared.proofs.JournalLaws.{back_history}
use Rattle.lb_shared.proofs.SeatLaws.{desk_sees, seat_cuts, seat_sees, told_last}
use Rattle.lb_shared.proofs.SharedLaws.{back_amount, back_err, back_length, back_ok, cut_back, held-some, known_held, next_back, one_back, shared_returned}
use Rattle.lb_shared.proofs.stake.Stake.give_back.Goals as goal

pub slot_mut-requires : goal.slot_mut-requires
slot_mut-requires g c =
    let took = c.enter.ensures.took in
    (c.enter.ensures.of ∙ c.self.invariant.1, (Some took.value, ap (λ m. m.1) took.after_is ∙ ap (λ m. (0, Some took.value) ∷ rest m.1) (sym took.after_is)))

pub give_back-done-requires-clause-lb : goal.give_back-done-requires-clause-lb
give_back-done-requires-clause-lb g c =
    let had = subst (λ (s : StakeState). holds s.held (c.args.back.lease.lb, c.args.back.lease.ticket) ≡ true) (sym c.self.view_is) c.requires.held in
    let known = known_held (length g.L.SiteName.sizes) c.self.inside.held.items (c.args.back.lease.lb, c.args.back.lease.ticket) c.self.invariant.0.known had in
    known

pub give_back-done-requires-clause-room : goal.give_back-done-requires-clause-room
give_back-done-requires-clause-room g c =
    let had = subst (λ (s : StakeState). holds s.held (c.args.back.lease.lb, c.args.back.lease.ticket) ≡ true) (sym c.self.view_is) c.requires.held in
    let known = known_held (length g.L.SiteName.sizes) c.self.inside.held.items (c.args.back.lease.lb, c.args.back.lease.ticket) c.self.invariant.0.known had in
    omega (arith, c.self.invariant.0.roomy, held-some c.self.inside.held.items (c.args.back.lease.lb, c.args.back.lease.ticket) had, c.self.inside.account.receipts.ok.0)

pub leave-requires-clause-told : goal.leave-requires-clause-told
leave-requires-clause-told g c =
    let had = subst (λ (s : StakeState). holds s.held (c.args.back.lease.lb, c.args.back.lease.ticket) ≡ true) (sym c.self.view_is) c.requires.held in
    let known = known_held (length g.L.SiteName.sizes) c.self.inside.held.items (c.args.back.lease.lb, c.args.back.lease.ticket) c.self.invariant.0.known had in
    told_last g.L.SiteName.starts c.self.inside.seat.me c.enter.new.seat.me c.self.invariant.2 c.enter.ensures.took
    c.slot_mut.result.now c.slot_mut.ensures.value c.in-Some.locked c.in-Some.is c.give_back-done.new.self
    c.self.inside.account.receipts.items c.give_back-done.new.account.receipts.items c.args.back.lease.lb (cut_in c.give_back-done.result.0) c.give_back-done.ensures.ends.news
    (λ n steps was.
    back_history g.L.SiteName.starts n steps g.L.SiteName.sizes g.L.SiteName.firsts c.in-Some.locked.books (held c.give_back-done.new.self.books c.give_back-done.new.account.receipts.items c.give_back-done.new.account.share.amount) c.self.inside.account.receipts.items c.self.inside.account.share.amount c.args.back.session c.args.back.at c.args.back.lease c.args.back.outcome (cut_in c.give_back-done.result.0) c.give_back-done.result.1 known c.give_back-done.ensures.ok c.give_back-done.ensures.err was)

pub returns-clause-sees : goal.returns-clause-sees
returns-clause-sees g c =
    let had = subst (λ (s : StakeState). holds s.held (c.args.back.lease.lb, c.args.back.lease.ticket) ≡ true) (sym c.self.view_is) c.requires.held in
    let known = known_held (length g.L.SiteName.sizes) c.self.inside.held.items (c.args.back.lease.lb, c.args.back.lease.ticket) c.self.invariant.0.known had in
    let sees = seat_sees g.L.SiteName.starts c.self.inside.seat.me c.enter.new.seat.me c.self.invariant.2 c.enter.ensures.took
    c.slot_mut.result.now c.slot_mut.ensures.value c.in-Some.locked c.in-Some.is c.give_back-done.new.self
    c.self.inside.account.receipts.items c.give_back-done.new.account.receipts.items c.args.back.lease.lb (cut_in c.give_back-done.result.0) c.give_back-done.ensures.ends.news
    (λ n steps was.
    back_history g.L.SiteName.starts n steps g.L.SiteName.sizes g.L.SiteName.firsts c.in-Some.locked.books (held c.give_back-done.new.self.books c.give_back-done.new.account.receipts.items c.give_back-done.new.account.share.amount) c.self.inside.account.receipts.items c.self.inside.account.share.amount c.args.back.session c.args.back.at c.args.back.lease c.args.back.outcome (cut_in c.give_back-done.result.0) c.give_back-done.result.1 known c.give_back-done.ensures.ok c.give_back-done.ensures.err was) c.leave.new.seat.me c.leave.ensures.left in
    rw (sym c.self.view_is)
    (desk_sees g.L.SiteName.starts _ _ _ _ c.self.inside.seat.me c.leave.new.seat.me _ (c.leave.ensures.of ∙ c.enter.ensures.of) sees)

pub returns-clause-marks : goal.returns-clause-marks
returns-clause-marks g c =
    let had = subst (λ (s : StakeState). holds s.held (c.args.back.lease.lb, c.args.back.lease.ticket) ≡ true) (sym c.self.view_is) c.requires.held in
    let known = known_held (length g.L.SiteName.sizes) c.self.inside.held.items (c.args.back.lease.lb, c.args.back.lease.ticket) c.self.invariant.0.known had in
    rw (sym c.self.view_is)
    (seat_cuts g.L.SiteName.starts c.self.inside.seat.me c.enter.new.seat.me c.self.invariant.2 c.enter.ensures.took
    c.slot_mut.result.now c.slot_mut.ensures.value c.in-Some.locked c.in-Some.is c.give_back-done.new.self
    c.self.inside.account.receipts.items c.give_back-done.new.account.receipts.items c.args.back.lease.lb (cut_in c.give_back-done.result.0) c.give_back-done.ensures.ends.news
    (λ n steps was.
    back_history g.L.SiteName.starts n steps g.L.SiteName.sizes g.L.SiteName.firsts c.in-Some.locked.books (held c.give_back-done.new.self.books c.give_back-done.new.account.receipts.items c.give_back-done.new.account.share.amount) c.self.inside.account.receipts.items c.self.inside.account.share.amount c.args.back.session c.args.back.at c.args.back.lease c.args.back.outcome (cut_in c.give_back-done.result.0) c.give_back-done.result.1 known c.give_back-done.ensures.ok c.give_back-done.ensures.err was) c.leave.new.seat.me c.leave.ensures.left _ _)

pub returns-clause-ok : goal.returns-clause-ok
returns-clause-ok g c =
    rw (sym c.self.view_is)
    (back_ok g.L.SiteName.sizes g.L.SiteName.firsts c.in-Some.locked.books c.give_back-done.new.self.books (cut_in c.give_back-done.result.0) c.self.inside.account.receipts.items c.give_back-done.new.account.receipts.items c.self.inside.account.share.amount c.give_back-done.new.account.share.amount c.args.back.session c.args.back.at c.args.back.lease c.args.back.outcome c.self.inside.account.share.parts c.give_back-done.new.account.share.parts c.self.inside.held.items c.take_last.new.held.items c.give_back-done.result.1 c.give_back-done.ensures.ends.parts c.give_back-done.ensures.ok)

pub returns-clause-held : goal.returns-clause-held
returns-clause-held g c =
    let without = subst (λ (n : ℕ). c.take_last.new.held.items ≡ without_last c.self.inside.held.items (c.args.back.lease.lb, n)) c.ticket-ticket.ensures
    (subst (λ (n : ℕ). c.take_last.new.held.items ≡ without_last c.self.inside.held.items (n, c.ticket-ticket.result)) c.lb-lb.ensures c.take_last.ensures.held) in
    rw (sym c.self.view_is)
    without

pub returns-clause-amount : goal.returns-clause-amount
returns-clause-amount g c =
    rw (sym c.self.view_is)
    (back_amount g.L.SiteName.sizes g.L.SiteName.firsts c.in-Some.locked.books c.give_back-done.new.self.books (cut_in c.give_back-done.result.0) c.self.inside.account.receipts.items c.give_back-done.new.account.receipts.items c.self.inside.account.share.amount c.give_back-done.new.account.share.amount c.args.back.session c.args.back.at c.args.back.lease c.args.back.outcome c.give_back-done.result.1 c.give_back-done.ensures.ok)

pub returns-clause-err : goal.returns-clause-err
returns-clause-err g c =
    rw (sym c.self.view_is)
    (back_err g.L.SiteName.sizes g.L.SiteName.firsts c.in-Some.locked.books c.give_back-done.new.self.books (cut_in c.give_back-done.result.0) c.self.inside.account.receipts.items c.give_back-done.new.account.receipts.items c.self.inside.account.share.amount c.give_back-done.new.account.share.amount c.args.back.session c.args.back.at c.args.back.lease c.args.back.outcome c.give_back-done.result.1 c.give_back-done.ensures.err)

pub returns-clause-one : goal.returns-clause-one
returns-clause-one g c =
    rw (sym c.self.view_is)
    (one_back g.L.SiteName.sizes g.L.SiteName.firsts c.in-Some.locked.books c.give_back-done.new.self.books (cut_in c.give_back-done.result.0) c.self.inside.account.receipts.items c.give_back-done.new.account.receipts.items c.self.inside.account.share.amount c.give_back-done.new.account.share.amount c.args.back.session c.args.back.at c.args.back.lease c.args.back.outcome c.give_back-done.result.1 c.give_back-done.ensures.ok c.give_back-done.ensures.err)

pub returns-clause-cuts : goal.returns-clause-cuts
returns-clause-cuts g c =
    rw (sym c.self.view_is)
    (record {
      of = cut_back g.L.SiteName.sizes g.L.SiteName.firsts c.in-Some.locked.books c.give_back-done.new.self.books (cut_in c.give_back-done.result.0) c.self.inside.account.receipts.items c.give_back-done.new.account.receipts.items c.self.inside.account.share.amount c.give_back-done.new.account.share.amount c.args.back.session c.args.back.at c.args.back.lease c.args.back.outcome c.give_back-done.result.1 c.give_back-done.ensures.ok c.give_back-done.ensures.err;
      when = c.give_back-done.ensures.when;
      next = next_back g.L.SiteName.sizes g.L.SiteName.firsts c.in-Some.locked.books c.give_back-done.new.self.books (cut_in c.give_back-done.result.0) c.self.inside.account.receipts.items c.give_back-done.new.account.receipts.items c.self.inside.account.share.amount c.give_back-done.new.account.share.amount c.args.back.session c.args.back.at c.args.back.lease c.args.back.outcome c.give_back-done.result.1 c.give_back-done.ensures.ok c.give_back-done.ensures.err;
    })

pub invariant_of-self : goal.invariant_of-self
invariant_of-self g c =
    let had = subst (λ (s : StakeState). holds s.held (c.args.back.lease.lb, c.args.back.lease.ticket) ≡ true) (sym c.self.view_is) c.requires.held in
    let known = known_held (length g.L.SiteName.sizes) c.self.inside.held.items (c.args.back.lease.lb, c.args.back.lease.ticket) c.self.invariant.0.known had in
    let sees = seat_sees g.L.SiteName.starts c.self.inside.seat.me c.enter.new.seat.me c.self.invariant.2 c.enter.ensures.took
    c.slot_mut.result.now c.slot_mut.ensures.value c.in-Some.locked c.in-Some.is c.give_back-done.new.self
    c.self.inside.account.receipts.items c.give_back-done.new.account.receipts.items c.args.back.lease.lb (cut_in c.give_back-done.result.0) c.give_back-done.ensures.ends.news
    (λ n steps was.
    back_history g.L.SiteName.starts n steps g.L.SiteName.sizes g.L.SiteName.firsts c.in-Some.locked.books (held c.give_back-done.new.self.books c.give_back-done.new.account.receipts.items c.give_back-done.new.account.share.amount) c.self.inside.account.receipts.items c.self.inside.account.share.amount c.args.back.session c.args.back.at c.args.back.lease c.args.back.outcome (cut_in c.give_back-done.result.0) c.give_back-done.result.1 known c.give_back-done.ensures.ok c.give_back-done.ensures.err was) c.leave.new.seat.me c.leave.ensures.left in
    let length = back_length g.L.SiteName.sizes g.L.SiteName.firsts c.in-Some.locked.books c.give_back-done.new.self.books (cut_in c.give_back-done.result.0) c.self.inside.account.receipts.items c.give_back-done.new.account.receipts.items c.self.inside.account.share.amount c.give_back-done.new.account.share.amount c.args.back.session c.args.back.at c.args.back.lease c.args.back.outcome c.give_back-done.result.1 c.give_back-done.ensures.ok in
    let amount = back_amount g.L.SiteName.sizes g.L.SiteName.firsts c.in-Some.locked.books c.give_back-done.new.self.books (cut_in c.give_back-done.result.0) c.self.inside.account.receipts.items c.give_back-done.new.account.receipts.items c.self.inside.account.share.amount c.give_back-done.new.account.share.amount c.args.back.session c.args.back.at c.args.back.lease c.args.back.outcome c.give_back-done.result.1 c.give_back-done.ensures.ok in
    let err = back_err g.L.SiteName.sizes g.L.SiteName.firsts c.in-Some.locked.books c.give_back-done.new.self.books (cut_in c.give_back-done.result.0) c.self.inside.account.receipts.items c.give_back-done.new.account.receipts.items c.self.inside.account.share.amount c.give_back-done.new.account.share.amount c.args.back.session c.args.back.at c.args.back.lease c.args.back.outcome c.give_back-done.result.1 c.give_back-done.ensures.err in
    let without = subst (λ (n : ℕ). c.take_last.new.held.items ≡ without_last c.self.inside.held.items (c.args.back.lease.lb, n)) c.ticket-ticket.ensures
    (subst (λ (n : ℕ). c.take_last.new.held.items ≡ without_last c.self.inside.held.items (n, c.ticket-ticket.result)) c.lb-lb.ensures c.take_last.ensures.held) in
    let cuts = seat_cuts g.L.SiteName.starts c.self.inside.seat.me c.enter.new.seat.me c.self.invariant.2 c.enter.ensures.took
    c.slot_mut.result.now c.slot_mut.ensures.value c.in-Some.locked c.in-Some.is c.give_back-done.new.self
    c.self.inside.account.receipts.items c.give_back-done.new.account.receipts.items c.args.back.lease.lb (cut_in c.give_back-done.result.0) c.give_back-done.ensures.ends.news
    (λ n steps was.
    back_history g.L.SiteName.starts n steps g.L.SiteName.sizes g.L.SiteName.firsts c.in-Some.locked.books (held c.give_back-done.new.self.books c.give_back-done.new.account.receipts.items c.give_back-done.new.account.share.amount) c.self.inside.account.receipts.items c.self.inside.account.share.amount c.args.back.session c.args.back.at c.args.back.lease c.args.back.outcome (cut_in c.give_back-done.result.0) c.give_back-done.result.1 known c.give_back-done.ensures.ok c.give_back-done.ensures.err was) c.leave.new.seat.me c.leave.ensures.left c.self.inside.seat.table_id c.leave.new.seat.table_id in (
      shared_returned _ c.self.inside.account.receipts.items c.give_back-done.new.account.receipts.items c.self.inside.held.items c.take_last.new.held.items (c.args.back.lease.lb, c.args.back.lease.ticket) c.self.inside.account.share.parts c.give_back-done.new.account.share.parts c.self.inside.account.share.amount c.give_back-done.new.account.share.amount c.self.inside.forgotten
          (vec_capacity c.self.inside.account.receipts) (vec_capacity c.give_back-done.new.account.receipts) c.give_back-done.result.1 c.self.invariant.0 had length amount err c.give_back-done.ensures.ends.few c.give_back-done.ensures.ends.parts without c.give_back-done.ensures.ends.room,
      c.leave.ensures.of ∙ c.enter.ensures.of ∙ c.self.invariant.1,
      sees.rests,
      count_returned g.L.SiteName.starts c.self.inside.seat.table_id c.leave.new.seat.table_id c.self.inside.seat.me c.leave.new.seat.me c.self.inside.account.receipts.items c.give_back-done.new.account.receipts.items c.self.inside.account.share.amount c.give_back-done.new.account.share.amount c.give_back-done.result.1 sees length amount err c.self.invariant.3,
      count_cuts (seat_note g.L.SiteName.starts c.self.inside.seat.table_id c.self.inside.seat.me) (seat_note g.L.SiteName.starts c.leave.new.seat.table_id c.leave.new.seat.me) (cut_in c.give_back-done.result.0) _ _ cuts c.give_back-done.ensures.ends.counted c.self.invariant.4,
    )
