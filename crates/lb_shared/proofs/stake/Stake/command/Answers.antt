-- A commanding hold of the lock, and what the desk's stake is then.
use Rattle.std.proofs.Common.{◌≡◌, ℕ, ◌+◌, ◌≤◌, List, ◌∷◌, length, Some, refl, subst, sym, ap, ◌∙◌, inl, arith}
use Rattle.std.specs.Prelude.{IfErr, OnOk, vec_capacity}
use Rattle.atomic_table.specs.Table.{rest}
use Rattle.lb_book.specs.declared.receipt.Receipt.{Receipt}
use Rattle.lb_shared.specs.Histories.{SeatSees, gained_in, seat_note}
use Rattle.lb_shared.specs.Holds.{held}
use Rattle.lb_shared.proofs.CountLaws.{count_cuts, count_sees}
use Rattle.lb_shared.proofs.JournalLaws.{command_history}
use Rattle.lb_shared.proofs.SeatLaws.{desk_sees, seat_cuts, seat_sees, told_last}
use Rattle.lb_shared.proofs.SharedLaws.{DidErr, DidOk, cut_command, err_command, gained_command, kept_command, next_command, none_desk, ok_command, two_commanded}
use Rattle.lb_shared.proofs.stake.Stake.command.Goals as goal

pub slot_mut-requires : goal.slot_mut-requires
slot_mut-requires g c =
    let took = c.enter.ensures.took in
    (c.enter.ensures.of ∙ c.self.invariant.1, (Some took.value, ap (λ m. m.1) took.after_is ∙ ap (λ m. (0, Some took.value) ∷ rest m.1) (sym took.after_is)))

pub leave-requires-clause-told : goal.leave-requires-clause-told
leave-requires-clause-told g c =
    told_last g.L.SiteName.starts c.self.inside.seat.me c.enter.new.seat.me c.self.invariant.2 c.enter.ensures.took
    c.slot_mut.result.now c.slot_mut.ensures.value c.in-Some.locked c.in-Some.is c.command-done.new.self
    c.reserve.new.self.receipts.items c.command-done.new.account.receipts.items c.args.on.lb c.command-done.result.0 c.command-done.ensures.ends.news
    (λ n steps was.
    command_history g.L.SiteName.starts n steps g.L.SiteName.sizes g.L.SiteName.firsts c.in-Some.locked.books (held c.command-done.new.self.books c.command-done.new.account.receipts.items c.command-done.new.account.share.amount) c.reserve.new.self.receipts.items c.reserve.new.self.share.amount c.args.on c.args.command.now c.command-done.result.0 c.command-done.result.1 c.requires.call.known c.command-done.ensures.ok c.command-done.ensures.err was)

pub returns-clause-sees : goal.returns-clause-sees
returns-clause-sees g c =
    let sees = seat_sees g.L.SiteName.starts c.self.inside.seat.me c.enter.new.seat.me c.self.invariant.2 c.enter.ensures.took
    c.slot_mut.result.now c.slot_mut.ensures.value c.in-Some.locked c.in-Some.is c.command-done.new.self
    c.reserve.new.self.receipts.items c.command-done.new.account.receipts.items c.args.on.lb c.command-done.result.0 c.command-done.ensures.ends.news
    (λ n steps was.
    command_history g.L.SiteName.starts n steps g.L.SiteName.sizes g.L.SiteName.firsts c.in-Some.locked.books (held c.command-done.new.self.books c.command-done.new.account.receipts.items c.command-done.new.account.share.amount) c.reserve.new.self.receipts.items c.reserve.new.self.share.amount c.args.on c.args.command.now c.command-done.result.0 c.command-done.result.1 c.requires.call.known c.command-done.ensures.ok c.command-done.ensures.err was) c.leave.new.seat.me c.leave.ensures.left in
    let seen = subst (λ (rs : List Receipt). SeatSees g.L.SiteName.starts c.self.inside.seat.me c.leave.new.seat.me (gained_in rs c.command-done.new.account.receipts.items)) c.reserve.ensures.receipts sees in
    rw (sym c.self.view_is)
    (inl (desk_sees g.L.SiteName.starts _ _ _ _ c.self.inside.seat.me c.leave.new.seat.me _ (c.leave.ensures.of ∙ c.enter.ensures.of) seen))

pub returns-clause-ok : goal.returns-clause-ok
returns-clause-ok g c =
    let am_is : c.reserve.new.self.share.amount ≡ c.self.inside.account.share.amount = rw c.reserve.ensures.share.0 refl in
    let part_is : c.reserve.new.self.share.parts ≡ c.self.inside.account.share.parts = rw c.reserve.ensures.share.0 refl in
    let parts = c.command-done.ensures.ends.parts ∙ part_is in
    let ok = subst (λ (n : ℕ). OnOk c.command-done.result.1 (DidOk g.L.SiteName.sizes g.L.SiteName.firsts c.in-Some.locked.books c.command-done.new.self.books c.command-done.result.0 c.self.inside.account.receipts.items c.command-done.new.account.receipts.items n c.command-done.new.account.share.amount c.args.on.lb c.args.on.session c.args.on.at c.args.command.now)) am_is
    (subst (λ (rs : List Receipt). OnOk c.command-done.result.1 (DidOk g.L.SiteName.sizes g.L.SiteName.firsts c.in-Some.locked.books c.command-done.new.self.books c.command-done.result.0 rs c.command-done.new.account.receipts.items c.reserve.new.self.share.amount c.command-done.new.account.share.amount c.args.on.lb c.args.on.session c.args.on.at c.args.command.now)) c.reserve.ensures.receipts c.command-done.ensures.ok) in
    let err = subst (λ (n : ℕ). IfErr c.command-done.result.1 (λ e. DidErr g.L.SiteName.sizes g.L.SiteName.firsts c.in-Some.locked.books c.command-done.new.self.books c.command-done.result.0 c.self.inside.account.receipts.items c.command-done.new.account.receipts.items n c.command-done.new.account.share.amount c.args.on.lb c.args.on.session c.args.on.at c.args.command.now e)) am_is
    (subst (λ (rs : List Receipt). IfErr c.command-done.result.1 (λ e. DidErr g.L.SiteName.sizes g.L.SiteName.firsts c.in-Some.locked.books c.command-done.new.self.books c.command-done.result.0 rs c.command-done.new.account.receipts.items c.reserve.new.self.share.amount c.command-done.new.account.share.amount c.args.on.lb c.args.on.session c.args.on.at c.args.command.now e)) c.reserve.ensures.receipts c.command-done.ensures.err) in
    rw (sym c.self.view_is)
    (ok_command g.L.SiteName.sizes g.L.SiteName.firsts c.in-Some.locked.books c.command-done.new.self.books c.command-done.result.0 c.self.inside.account.receipts.items c.command-done.new.account.receipts.items c.self.inside.account.share.amount c.command-done.new.account.share.amount c.args.on.lb c.args.on.session c.args.on.at c.self.inside.account.share.parts c.command-done.new.account.share.parts c.self.inside.held.items c.self.inside.held.items c.args.command.now c.command-done.result.1 parts ok)

pub returns-clause-err : goal.returns-clause-err
returns-clause-err g c =
    let am_is : c.reserve.new.self.share.amount ≡ c.self.inside.account.share.amount = rw c.reserve.ensures.share.0 refl in
    let part_is : c.reserve.new.self.share.parts ≡ c.self.inside.account.share.parts = rw c.reserve.ensures.share.0 refl in
    let parts = c.command-done.ensures.ends.parts ∙ part_is in
    let ok = subst (λ (n : ℕ). OnOk c.command-done.result.1 (DidOk g.L.SiteName.sizes g.L.SiteName.firsts c.in-Some.locked.books c.command-done.new.self.books c.command-done.result.0 c.self.inside.account.receipts.items c.command-done.new.account.receipts.items n c.command-done.new.account.share.amount c.args.on.lb c.args.on.session c.args.on.at c.args.command.now)) am_is
    (subst (λ (rs : List Receipt). OnOk c.command-done.result.1 (DidOk g.L.SiteName.sizes g.L.SiteName.firsts c.in-Some.locked.books c.command-done.new.self.books c.command-done.result.0 rs c.command-done.new.account.receipts.items c.reserve.new.self.share.amount c.command-done.new.account.share.amount c.args.on.lb c.args.on.session c.args.on.at c.args.command.now)) c.reserve.ensures.receipts c.command-done.ensures.ok) in
    let err = subst (λ (n : ℕ). IfErr c.command-done.result.1 (λ e. DidErr g.L.SiteName.sizes g.L.SiteName.firsts c.in-Some.locked.books c.command-done.new.self.books c.command-done.result.0 c.self.inside.account.receipts.items c.command-done.new.account.receipts.items n c.command-done.new.account.share.amount c.args.on.lb c.args.on.session c.args.on.at c.args.command.now e)) am_is
    (subst (λ (rs : List Receipt). IfErr c.command-done.result.1 (λ e. DidErr g.L.SiteName.sizes g.L.SiteName.firsts c.in-Some.locked.books c.command-done.new.self.books c.command-done.result.0 rs c.command-done.new.account.receipts.items c.reserve.new.self.share.amount c.command-done.new.account.share.amount c.args.on.lb c.args.on.session c.args.on.at c.args.command.now e)) c.reserve.ensures.receipts c.command-done.ensures.err) in
    rw (sym c.self.view_is)
    (err_command g.L.SiteName.sizes g.L.SiteName.firsts c.in-Some.locked.books c.command-done.new.self.books c.command-done.result.0 c.self.inside.account.receipts.items c.command-done.new.account.receipts.items c.self.inside.account.share.amount c.command-done.new.account.share.amount c.args.on.lb c.args.on.session c.args.on.at c.self.inside.account.share.parts c.command-done.new.account.share.parts c.self.inside.held.items c.self.inside.held.items c.args.command.now c.command-done.result.1 parts err)

pub returns-clause-cuts : goal.returns-clause-cuts
returns-clause-cuts g c =
    let am_is : c.reserve.new.self.share.amount ≡ c.self.inside.account.share.amount = rw c.reserve.ensures.share.0 refl in
    let part_is : c.reserve.new.self.share.parts ≡ c.self.inside.account.share.parts = rw c.reserve.ensures.share.0 refl in
    let parts = c.command-done.ensures.ends.parts ∙ part_is in
    let ok = subst (λ (n : ℕ). OnOk c.command-done.result.1 (DidOk g.L.SiteName.sizes g.L.SiteName.firsts c.in-Some.locked.books c.command-done.new.self.books c.command-done.result.0 c.self.inside.account.receipts.items c.command-done.new.account.receipts.items n c.command-done.new.account.share.amount c.args.on.lb c.args.on.session c.args.on.at c.args.command.now)) am_is
    (subst (λ (rs : List Receipt). OnOk c.command-done.result.1 (DidOk g.L.SiteName.sizes g.L.SiteName.firsts c.in-Some.locked.books c.command-done.new.self.books c.command-done.result.0 rs c.command-done.new.account.receipts.items c.reserve.new.self.share.amount c.command-done.new.account.share.amount c.args.on.lb c.args.on.session c.args.on.at c.args.command.now)) c.reserve.ensures.receipts c.command-done.ensures.ok) in
    let err = subst (λ (n : ℕ). IfErr c.command-done.result.1 (λ e. DidErr g.L.SiteName.sizes g.L.SiteName.firsts c.in-Some.locked.books c.command-done.new.self.books c.command-done.result.0 c.self.inside.account.receipts.items c.command-done.new.account.receipts.items n c.command-done.new.account.share.amount c.args.on.lb c.args.on.session c.args.on.at c.args.command.now e)) am_is
    (subst (λ (rs : List Receipt). IfErr c.command-done.result.1 (λ e. DidErr g.L.SiteName.sizes g.L.SiteName.firsts c.in-Some.locked.books c.command-done.new.self.books c.command-done.result.0 rs c.command-done.new.account.receipts.items c.reserve.new.self.share.amount c.command-done.new.account.share.amount c.args.on.lb c.args.on.session c.args.on.at c.args.command.now e)) c.reserve.ensures.receipts c.command-done.ensures.err) in
    rw (sym c.self.view_is)
    (record {
      of = cut_command g.L.SiteName.sizes g.L.SiteName.firsts c.in-Some.locked.books c.command-done.new.self.books c.command-done.result.0 c.self.inside.account.receipts.items c.command-done.new.account.receipts.items c.self.inside.account.share.amount c.command-done.new.account.share.amount c.args.on.lb c.args.on.session c.args.on.at c.args.command.now c.command-done.result.1 ok err;
      when = c.command-done.ensures.when;
      next = next_command g.L.SiteName.sizes g.L.SiteName.firsts c.in-Some.locked.books c.command-done.new.self.books c.command-done.result.0 c.self.inside.account.receipts.items c.command-done.new.account.receipts.items c.self.inside.account.share.amount c.command-done.new.account.share.amount c.args.on.lb c.args.on.session c.args.on.at c.args.command.now c.command-done.result.1 ok err;
    })

pub returns-clause-kept : goal.returns-clause-kept
returns-clause-kept g c =
    let am_is : c.reserve.new.self.share.amount ≡ c.self.inside.account.share.amount = rw c.reserve.ensures.share.0 refl in
    let part_is : c.reserve.new.self.share.parts ≡ c.self.inside.account.share.parts = rw c.reserve.ensures.share.0 refl in
    let parts = c.command-done.ensures.ends.parts ∙ part_is in
    let ok = subst (λ (n : ℕ). OnOk c.command-done.result.1 (DidOk g.L.SiteName.sizes g.L.SiteName.firsts c.in-Some.locked.books c.command-done.new.self.books c.command-done.result.0 c.self.inside.account.receipts.items c.command-done.new.account.receipts.items n c.command-done.new.account.share.amount c.args.on.lb c.args.on.session c.args.on.at c.args.command.now)) am_is
    (subst (λ (rs : List Receipt). OnOk c.command-done.result.1 (DidOk g.L.SiteName.sizes g.L.SiteName.firsts c.in-Some.locked.books c.command-done.new.self.books c.command-done.result.0 rs c.command-done.new.account.receipts.items c.reserve.new.self.share.amount c.command-done.new.account.share.amount c.args.on.lb c.args.on.session c.args.on.at c.args.command.now)) c.reserve.ensures.receipts c.command-done.ensures.ok) in
    let err = subst (λ (n : ℕ). IfErr c.command-done.result.1 (λ e. DidErr g.L.SiteName.sizes g.L.SiteName.firsts c.in-Some.locked.books c.command-done.new.self.books c.command-done.result.0 c.self.inside.account.receipts.items c.command-done.new.account.receipts.items n c.command-done.new.account.share.amount c.args.on.lb c.args.on.session c.args.on.at c.args.command.now e)) am_is
    (subst (λ (rs : List Receipt). IfErr c.command-done.result.1 (λ e. DidErr g.L.SiteName.sizes g.L.SiteName.firsts c.in-Some.locked.books c.command-done.new.self.books c.command-done.result.0 rs c.command-done.new.account.receipts.items c.reserve.new.self.share.amount c.command-done.new.account.share.amount c.args.on.lb c.args.on.session c.args.on.at c.args.command.now e)) c.reserve.ensures.receipts c.command-done.ensures.err) in
    rw (sym c.self.view_is)
    (record {
      stake = (parts, refl, refl);
      two = (two_commanded g.L.SiteName.sizes g.L.SiteName.firsts c.in-Some.locked.books c.command-done.new.self.books c.command-done.result.0 c.self.inside.account.receipts.items c.command-done.new.account.receipts.items c.self.inside.account.share.amount c.command-done.new.account.share.amount c.args.on.lb c.args.on.session c.args.on.at c.args.command.now c.command-done.result.1 ok err);
      marks = (seat_cuts g.L.SiteName.starts c.self.inside.seat.me c.enter.new.seat.me c.self.invariant.2 c.enter.ensures.took
          c.slot_mut.result.now c.slot_mut.ensures.value c.in-Some.locked c.in-Some.is c.command-done.new.self
          c.reserve.new.self.receipts.items c.command-done.new.account.receipts.items c.args.on.lb c.command-done.result.0 c.command-done.ensures.ends.news
          (λ n steps was.
          command_history g.L.SiteName.starts n steps g.L.SiteName.sizes g.L.SiteName.firsts c.in-Some.locked.books (held c.command-done.new.self.books c.command-done.new.account.receipts.items c.command-done.new.account.share.amount) c.reserve.new.self.receipts.items c.reserve.new.self.share.amount c.args.on c.args.command.now c.command-done.result.0 c.command-done.result.1 c.requires.call.known c.command-done.ensures.ok c.command-done.ensures.err was) c.leave.new.seat.me c.leave.ensures.left _ _);
    })

pub invariant_of-self-2 : goal.invariant_of-self-2
invariant_of-self-2 g c =
    let sees = seat_sees g.L.SiteName.starts c.self.inside.seat.me c.enter.new.seat.me c.self.invariant.2 c.enter.ensures.took
    c.slot_mut.result.now c.slot_mut.ensures.value c.in-Some.locked c.in-Some.is c.command-done.new.self
    c.reserve.new.self.receipts.items c.command-done.new.account.receipts.items c.args.on.lb c.command-done.result.0 c.command-done.ensures.ends.news
    (λ n steps was.
    command_history g.L.SiteName.starts n steps g.L.SiteName.sizes g.L.SiteName.firsts c.in-Some.locked.books (held c.command-done.new.self.books c.command-done.new.account.receipts.items c.command-done.new.account.share.amount) c.reserve.new.self.receipts.items c.reserve.new.self.share.amount c.args.on c.args.command.now c.command-done.result.0 c.command-done.result.1 c.requires.call.known c.command-done.ensures.ok c.command-done.ensures.err was) c.leave.new.seat.me c.leave.ensures.left in
    let seen = subst (λ (rs : List Receipt). SeatSees g.L.SiteName.starts c.self.inside.seat.me c.leave.new.seat.me (gained_in rs c.command-done.new.account.receipts.items)) c.reserve.ensures.receipts sees in
    let am_is : c.reserve.new.self.share.amount ≡ c.self.inside.account.share.amount = rw c.reserve.ensures.share.0 refl in
    let part_is : c.reserve.new.self.share.parts ≡ c.self.inside.account.share.parts = rw c.reserve.ensures.share.0 refl in
    let parts = c.command-done.ensures.ends.parts ∙ part_is in
    let ok = subst (λ (n : ℕ). OnOk c.command-done.result.1 (DidOk g.L.SiteName.sizes g.L.SiteName.firsts c.in-Some.locked.books c.command-done.new.self.books c.command-done.result.0 c.self.inside.account.receipts.items c.command-done.new.account.receipts.items n c.command-done.new.account.share.amount c.args.on.lb c.args.on.session c.args.on.at c.args.command.now)) am_is
    (subst (λ (rs : List Receipt). OnOk c.command-done.result.1 (DidOk g.L.SiteName.sizes g.L.SiteName.firsts c.in-Some.locked.books c.command-done.new.self.books c.command-done.result.0 rs c.command-done.new.account.receipts.items c.reserve.new.self.share.amount c.command-done.new.account.share.amount c.args.on.lb c.args.on.session c.args.on.at c.args.command.now)) c.reserve.ensures.receipts c.command-done.ensures.ok) in
    let err = subst (λ (n : ℕ). IfErr c.command-done.result.1 (λ e. DidErr g.L.SiteName.sizes g.L.SiteName.firsts c.in-Some.locked.books c.command-done.new.self.books c.command-done.result.0 c.self.inside.account.receipts.items c.command-done.new.account.receipts.items n c.command-done.new.account.share.amount c.args.on.lb c.args.on.session c.args.on.at c.args.command.now e)) am_is
    (subst (λ (rs : List Receipt). IfErr c.command-done.result.1 (λ e. DidErr g.L.SiteName.sizes g.L.SiteName.firsts c.in-Some.locked.books c.command-done.new.self.books c.command-done.result.0 rs c.command-done.new.account.receipts.items c.reserve.new.self.share.amount c.command-done.new.account.share.amount c.args.on.lb c.args.on.session c.args.on.at c.args.command.now e)) c.reserve.ensures.receipts c.command-done.ensures.err) in
    let gained = gained_command g.L.SiteName.sizes g.L.SiteName.firsts c.in-Some.locked.books c.command-done.new.self.books c.command-done.result.0 c.self.inside.account.receipts.items c.command-done.new.account.receipts.items c.self.inside.account.share.amount c.command-done.new.account.share.amount c.args.on.lb c.args.on.session c.args.on.at c.args.command.now c.command-done.result.1 ok err in
    let roomy : length c.self.inside.account.receipts.items + length c.self.inside.held.items + 2 ≤ vec_capacity c.command-done.new.account.receipts =
    omega (arith, c.in-Ok.ensures.room, c.command-done.ensures.ends.room, c.self.inside.account.receipts.ok.0, c.len.ensures, c.self.inside.held.ok.0) in
    let after = kept_command (length g.L.SiteName.sizes) c.self.inside.account.receipts.items c.command-done.new.account.receipts.items c.self.inside.held.items c.self.inside.account.share.parts c.command-done.new.account.share.parts c.self.inside.account.share.amount c.command-done.new.account.share.amount
    (vec_capacity c.self.inside.account.receipts) (vec_capacity c.command-done.new.account.receipts) gained c.command-done.ensures.ends.few parts roomy c.self.inside.forgotten c.self.invariant.0 in
    let cuts = seat_cuts g.L.SiteName.starts c.self.inside.seat.me c.enter.new.seat.me c.self.invariant.2 c.enter.ensures.took
    c.slot_mut.result.now c.slot_mut.ensures.value c.in-Some.locked c.in-Some.is c.command-done.new.self
    c.reserve.new.self.receipts.items c.command-done.new.account.receipts.items c.args.on.lb c.command-done.result.0 c.command-done.ensures.ends.news
    (λ n steps was.
    command_history g.L.SiteName.starts n steps g.L.SiteName.sizes g.L.SiteName.firsts c.in-Some.locked.books (held c.command-done.new.self.books c.command-done.new.account.receipts.items c.command-done.new.account.share.amount) c.reserve.new.self.receipts.items c.reserve.new.self.share.amount c.args.on c.args.command.now c.command-done.result.0 c.command-done.result.1 c.requires.call.known c.command-done.ensures.ok c.command-done.ensures.err was) c.leave.new.seat.me c.leave.ensures.left c.self.inside.seat.table_id c.leave.new.seat.table_id in (
      after,
      c.leave.ensures.of ∙ c.enter.ensures.of ∙ c.self.invariant.1,
      seen.rests,
      count_sees g.L.SiteName.starts c.self.inside.seat.table_id c.leave.new.seat.table_id c.self.inside.seat.me c.leave.new.seat.me c.self.inside.account.receipts.items c.command-done.new.account.receipts.items c.self.inside.account.share.amount c.command-done.new.account.share.amount c.self.inside.forgotten seen (gained.0, gained.1) c.self.invariant.0.counted after.counted
          c.self.invariant.3,
      count_cuts (seat_note g.L.SiteName.starts c.self.inside.seat.table_id c.self.inside.seat.me) (seat_note g.L.SiteName.starts c.leave.new.seat.table_id c.leave.new.seat.me) c.command-done.result.0 _ _ cuts c.command-done.ensures.ends.counted (c.self.invariant.4 ∙ sym (ap (λ s. s.amount) c.reserve.ensures.share.1)),
    )

pub returns-in-Err-clause-err : goal.returns-in-Err-clause-err
returns-in-Err-clause-err g c =
    rw (sym c.self.view_is) (rw (c.reserve.ensures.share.0) (λ s f w f' w' m.
    none_desk g.L.SiteName.sizes c.self.inside.account.share.parts c.self.inside.account.receipts.items c.reserve.new.self.receipts.items c.self.inside.held.items c.self.inside.held.items c.self.inside.account.share.amount s f w f' w' m
    c.args.on.lb c.args.on.session c.args.on.at _ _ c.reserve.ensures.receipts refl))

pub returns-in-Err-clause-kept : goal.returns-in-Err-clause-kept
returns-in-Err-clause-kept g c =
    rw (sym c.self.view_is)
    (record {
      stake = (ap (λ s. s.parts) c.reserve.ensures.share.0, refl, refl);
      two = omega (arith, ap (λ (rs : List Receipt). length rs) c.reserve.ensures.receipts);
      marks = refl;
    })
