-- A choosing hold of the lock, and what the desk's stake is then.
use Rattle.std.proofs.Common.{◌≡◌, ℕ, ◌+◌, ◌≤◌, List, ◌∷◌, ◌++◌, length, Some, refl, subst, sym, ap, ◌∙◌, inl, arith}
use Rattle.std.specs.Prelude.{IfErr, IfOk, OnErr, vec_capacity}
use Rattle.atomic_table.specs.Table.{rest}
use Rattle.lb_book.specs.declared.receipt.Receipt.{Receipt}
use Rattle.lb_shared.specs.Histories.{SeatSees, gained_in, seat_note}
use Rattle.lb_shared.specs.Holds.{held}
use Rattle.lb_shared.specs.SharedDesks.{pairs_of}
use Rattle.lb_shared.proofs.CountLaws.{count_cuts, count_sees}
use Rattle.lb_shared.proofs.JournalLaws.{choose_history}
use Rattle.lb_shared.proofs.SeatLaws.{desk_sees, seat_cuts, seat_sees, told_last}
use Rattle.lb_shared.proofs.SharedLaws.{ChoseErr, ChoseOk, cut_choose, err_choose, gained_choose, kept_choose, next_choose, none_desk, ok_choose, two_chosen}
use Rattle.lb_shared.proofs.stake.Stake.choose.Goals as goal

pub slot_mut-requires : goal.slot_mut-requires
slot_mut-requires g c =
    let took = c.enter.ensures.took in
    (c.enter.ensures.of ∙ c.self.invariant.1, (Some took.value, ap (λ m. m.1) took.after_is ∙ ap (λ m. (0, Some took.value) ∷ rest m.1) (sym took.after_is)))

pub leave-requires-clause-told : goal.leave-requires-clause-told
leave-requires-clause-told g c =
    told_last g.L.SiteName.starts c.self.inside.seat.me c.enter.new.seat.me c.self.invariant.2 c.enter.ensures.took
    c.slot_mut.result.now c.slot_mut.ensures.value c.in-Some.locked c.in-Some.is c.choose-done.new.self
    c.take_room.new.account.receipts.items c.choose-done.new.account.receipts.items c.args.on.lb c.choose-done.result.0 c.choose-done.ensures.ends.news
    (λ n steps was.
    choose_history g.L.SiteName.starts n steps g.L.SiteName.sizes g.L.SiteName.firsts c.in-Some.locked.books (held c.choose-done.new.self.books c.choose-done.new.account.receipts.items c.choose-done.new.account.share.amount) c.take_room.new.account.receipts.items c.take_room.new.account.share.amount c.args.on c.args.ask.now c.choose-done.result.0 c.choose-done.result.1 c.requires.call.known c.choose-done.ensures.ok c.choose-done.ensures.err was)

pub returns-clause-sees : goal.returns-clause-sees
returns-clause-sees g c =
    let sees = seat_sees g.L.SiteName.starts c.self.inside.seat.me c.enter.new.seat.me c.self.invariant.2 c.enter.ensures.took
    c.slot_mut.result.now c.slot_mut.ensures.value c.in-Some.locked c.in-Some.is c.choose-done.new.self
    c.take_room.new.account.receipts.items c.choose-done.new.account.receipts.items c.args.on.lb c.choose-done.result.0 c.choose-done.ensures.ends.news
    (λ n steps was.
    choose_history g.L.SiteName.starts n steps g.L.SiteName.sizes g.L.SiteName.firsts c.in-Some.locked.books (held c.choose-done.new.self.books c.choose-done.new.account.receipts.items c.choose-done.new.account.share.amount) c.take_room.new.account.receipts.items c.take_room.new.account.share.amount c.args.on c.args.ask.now c.choose-done.result.0 c.choose-done.result.1 c.requires.call.known c.choose-done.ensures.ok c.choose-done.ensures.err was) c.leave.new.seat.me c.leave.ensures.left in
    let seen = subst (λ (rs : List Receipt). SeatSees g.L.SiteName.starts c.self.inside.seat.me c.leave.new.seat.me (gained_in rs c.choose-done.new.account.receipts.items)) c.take_room.ensures.receipts sees in
    rw (sym c.self.view_is)
    (inl (desk_sees g.L.SiteName.starts _ _ _ _ c.self.inside.seat.me c.leave.new.seat.me _ (c.leave.ensures.of ∙ c.enter.ensures.of) seen))

pub returns-clause-ok : goal.returns-clause-ok
returns-clause-ok g c =
    let am_is : c.take_room.new.account.share.amount ≡ c.self.inside.account.share.amount = rw c.take_room.ensures.share.0 refl in
    let part_is : c.take_room.new.account.share.parts ≡ c.self.inside.account.share.parts = rw c.take_room.ensures.share.0 refl in
    let parts = c.choose-done.ensures.ends.parts ∙ part_is in
    let ok = subst (λ (n : ℕ). IfOk c.choose-done.result.1 (λ x. ChoseOk g.L.SiteName.sizes g.L.SiteName.firsts c.in-Some.locked.books c.choose-done.new.self.books c.choose-done.result.0 c.self.inside.account.receipts.items c.choose-done.new.account.receipts.items n c.choose-done.new.account.share.amount c.args.on.lb c.args.on.session c.args.on.at c.args.ask.now x)) am_is
    (subst (λ (rs : List Receipt). IfOk c.choose-done.result.1 (λ x. ChoseOk g.L.SiteName.sizes g.L.SiteName.firsts c.in-Some.locked.books c.choose-done.new.self.books c.choose-done.result.0 rs c.choose-done.new.account.receipts.items c.take_room.new.account.share.amount c.choose-done.new.account.share.amount c.args.on.lb c.args.on.session c.args.on.at c.args.ask.now x)) c.take_room.ensures.receipts c.choose-done.ensures.ok) in
    let err = subst (λ (n : ℕ). IfErr c.choose-done.result.1 (λ e. ChoseErr g.L.SiteName.sizes g.L.SiteName.firsts c.in-Some.locked.books c.choose-done.new.self.books c.choose-done.result.0 c.self.inside.account.receipts.items c.choose-done.new.account.receipts.items n c.choose-done.new.account.share.amount c.args.on.lb c.args.on.session c.args.on.at e)) am_is
    (subst (λ (rs : List Receipt). IfErr c.choose-done.result.1 (λ e. ChoseErr g.L.SiteName.sizes g.L.SiteName.firsts c.in-Some.locked.books c.choose-done.new.self.books c.choose-done.result.0 rs c.choose-done.new.account.receipts.items c.take_room.new.account.share.amount c.choose-done.new.account.share.amount c.args.on.lb c.args.on.session c.args.on.at e)) c.take_room.ensures.receipts c.choose-done.ensures.err) in
    let tickets = subst (λ (xs : List (ℕ × ℕ)). IfOk c.choose-done.result.1 (λ x. c.hold_pair.new.held.items ≡ xs ++ pairs_of c.args.on.lb x)) c.take_room.ensures.held c.hold_pair.ensures.ok in
    let same = subst (λ (xs : List (ℕ × ℕ)). OnErr c.choose-done.result.1 (c.hold_pair.new.held.items ≡ xs)) c.take_room.ensures.held c.hold_pair.ensures.err in
    rw (sym c.self.view_is)
    (ok_choose g.L.SiteName.sizes g.L.SiteName.firsts c.in-Some.locked.books c.choose-done.new.self.books c.choose-done.result.0 c.self.inside.account.receipts.items c.choose-done.new.account.receipts.items c.self.inside.account.share.amount c.choose-done.new.account.share.amount c.args.on.lb c.args.on.session c.args.on.at c.self.inside.account.share.parts c.choose-done.new.account.share.parts c.self.inside.held.items c.hold_pair.new.held.items c.args.ask.now c.choose-done.result.1 parts ok tickets)

pub returns-clause-err : goal.returns-clause-err
returns-clause-err g c =
    let am_is : c.take_room.new.account.share.amount ≡ c.self.inside.account.share.amount = rw c.take_room.ensures.share.0 refl in
    let part_is : c.take_room.new.account.share.parts ≡ c.self.inside.account.share.parts = rw c.take_room.ensures.share.0 refl in
    let parts = c.choose-done.ensures.ends.parts ∙ part_is in
    let ok = subst (λ (n : ℕ). IfOk c.choose-done.result.1 (λ x. ChoseOk g.L.SiteName.sizes g.L.SiteName.firsts c.in-Some.locked.books c.choose-done.new.self.books c.choose-done.result.0 c.self.inside.account.receipts.items c.choose-done.new.account.receipts.items n c.choose-done.new.account.share.amount c.args.on.lb c.args.on.session c.args.on.at c.args.ask.now x)) am_is
    (subst (λ (rs : List Receipt). IfOk c.choose-done.result.1 (λ x. ChoseOk g.L.SiteName.sizes g.L.SiteName.firsts c.in-Some.locked.books c.choose-done.new.self.books c.choose-done.result.0 rs c.choose-done.new.account.receipts.items c.take_room.new.account.share.amount c.choose-done.new.account.share.amount c.args.on.lb c.args.on.session c.args.on.at c.args.ask.now x)) c.take_room.ensures.receipts c.choose-done.ensures.ok) in
    let err = subst (λ (n : ℕ). IfErr c.choose-done.result.1 (λ e. ChoseErr g.L.SiteName.sizes g.L.SiteName.firsts c.in-Some.locked.books c.choose-done.new.self.books c.choose-done.result.0 c.self.inside.account.receipts.items c.choose-done.new.account.receipts.items n c.choose-done.new.account.share.amount c.args.on.lb c.args.on.session c.args.on.at e)) am_is
    (subst (λ (rs : List Receipt). IfErr c.choose-done.result.1 (λ e. ChoseErr g.L.SiteName.sizes g.L.SiteName.firsts c.in-Some.locked.books c.choose-done.new.self.books c.choose-done.result.0 rs c.choose-done.new.account.receipts.items c.take_room.new.account.share.amount c.choose-done.new.account.share.amount c.args.on.lb c.args.on.session c.args.on.at e)) c.take_room.ensures.receipts c.choose-done.ensures.err) in
    let tickets = subst (λ (xs : List (ℕ × ℕ)). IfOk c.choose-done.result.1 (λ x. c.hold_pair.new.held.items ≡ xs ++ pairs_of c.args.on.lb x)) c.take_room.ensures.held c.hold_pair.ensures.ok in
    let same = subst (λ (xs : List (ℕ × ℕ)). OnErr c.choose-done.result.1 (c.hold_pair.new.held.items ≡ xs)) c.take_room.ensures.held c.hold_pair.ensures.err in
    rw (sym c.self.view_is)
    (err_choose g.L.SiteName.sizes g.L.SiteName.firsts c.in-Some.locked.books c.choose-done.new.self.books c.choose-done.result.0 c.self.inside.account.receipts.items c.choose-done.new.account.receipts.items c.self.inside.account.share.amount c.choose-done.new.account.share.amount c.args.on.lb c.args.on.session c.args.on.at c.self.inside.account.share.parts c.choose-done.new.account.share.parts c.self.inside.held.items c.hold_pair.new.held.items c.choose-done.result.1 parts err)

pub returns-clause-cuts : goal.returns-clause-cuts
returns-clause-cuts g c =
    let am_is : c.take_room.new.account.share.amount ≡ c.self.inside.account.share.amount = rw c.take_room.ensures.share.0 refl in
    let part_is : c.take_room.new.account.share.parts ≡ c.self.inside.account.share.parts = rw c.take_room.ensures.share.0 refl in
    let parts = c.choose-done.ensures.ends.parts ∙ part_is in
    let ok = subst (λ (n : ℕ). IfOk c.choose-done.result.1 (λ x. ChoseOk g.L.SiteName.sizes g.L.SiteName.firsts c.in-Some.locked.books c.choose-done.new.self.books c.choose-done.result.0 c.self.inside.account.receipts.items c.choose-done.new.account.receipts.items n c.choose-done.new.account.share.amount c.args.on.lb c.args.on.session c.args.on.at c.args.ask.now x)) am_is
    (subst (λ (rs : List Receipt). IfOk c.choose-done.result.1 (λ x. ChoseOk g.L.SiteName.sizes g.L.SiteName.firsts c.in-Some.locked.books c.choose-done.new.self.books c.choose-done.result.0 rs c.choose-done.new.account.receipts.items c.take_room.new.account.share.amount c.choose-done.new.account.share.amount c.args.on.lb c.args.on.session c.args.on.at c.args.ask.now x)) c.take_room.ensures.receipts c.choose-done.ensures.ok) in
    let err = subst (λ (n : ℕ). IfErr c.choose-done.result.1 (λ e. ChoseErr g.L.SiteName.sizes g.L.SiteName.firsts c.in-Some.locked.books c.choose-done.new.self.books c.choose-done.result.0 c.self.inside.account.receipts.items c.choose-done.new.account.receipts.items n c.choose-done.new.account.share.amount c.args.on.lb c.args.on.session c.args.on.at e)) am_is
    (subst (λ (rs : List Receipt). IfErr c.choose-done.result.1 (λ e. ChoseErr g.L.SiteName.sizes g.L.SiteName.firsts c.in-Some.locked.books c.choose-done.new.self.books c.choose-done.result.0 rs c.choose-done.new.account.receipts.items c.take_room.new.account.share.amount c.choose-done.new.account.share.amount c.args.on.lb c.args.on.session c.args.on.at e)) c.take_room.ensures.receipts c.choose-done.ensures.err) in
    let tickets = subst (λ (xs : List (ℕ × ℕ)). IfOk c.choose-done.result.1 (λ x. c.hold_pair.new.held.items ≡ xs ++ pairs_of c.args.on.lb x)) c.take_room.ensures.held c.hold_pair.ensures.ok in
    let same = subst (λ (xs : List (ℕ × ℕ)). OnErr c.choose-done.result.1 (c.hold_pair.new.held.items ≡ xs)) c.take_room.ensures.held c.hold_pair.ensures.err in
    rw (sym c.self.view_is)
    (record {
      of = cut_choose g.L.SiteName.sizes g.L.SiteName.firsts c.in-Some.locked.books c.choose-done.new.self.books c.choose-done.result.0 c.self.inside.account.receipts.items c.choose-done.new.account.receipts.items c.self.inside.account.share.amount c.choose-done.new.account.share.amount c.args.on.lb c.args.on.session c.args.on.at c.args.ask.now c.choose-done.result.1 ok err;
      when = c.choose-done.ensures.when;
      next = next_choose g.L.SiteName.sizes g.L.SiteName.firsts c.in-Some.locked.books c.choose-done.new.self.books c.choose-done.result.0 c.self.inside.account.receipts.items c.choose-done.new.account.receipts.items c.self.inside.account.share.amount c.choose-done.new.account.share.amount c.args.on.lb c.args.on.session c.args.on.at c.args.ask.now c.choose-done.result.1 ok err;
    })

pub returns-clause-kept : goal.returns-clause-kept
returns-clause-kept g c =
    let am_is : c.take_room.new.account.share.amount ≡ c.self.inside.account.share.amount = rw c.take_room.ensures.share.0 refl in
    let part_is : c.take_room.new.account.share.parts ≡ c.self.inside.account.share.parts = rw c.take_room.ensures.share.0 refl in
    let parts = c.choose-done.ensures.ends.parts ∙ part_is in
    let ok = subst (λ (n : ℕ). IfOk c.choose-done.result.1 (λ x. ChoseOk g.L.SiteName.sizes g.L.SiteName.firsts c.in-Some.locked.books c.choose-done.new.self.books c.choose-done.result.0 c.self.inside.account.receipts.items c.choose-done.new.account.receipts.items n c.choose-done.new.account.share.amount c.args.on.lb c.args.on.session c.args.on.at c.args.ask.now x)) am_is
    (subst (λ (rs : List Receipt). IfOk c.choose-done.result.1 (λ x. ChoseOk g.L.SiteName.sizes g.L.SiteName.firsts c.in-Some.locked.books c.choose-done.new.self.books c.choose-done.result.0 rs c.choose-done.new.account.receipts.items c.take_room.new.account.share.amount c.choose-done.new.account.share.amount c.args.on.lb c.args.on.session c.args.on.at c.args.ask.now x)) c.take_room.ensures.receipts c.choose-done.ensures.ok) in
    let err = subst (λ (n : ℕ). IfErr c.choose-done.result.1 (λ e. ChoseErr g.L.SiteName.sizes g.L.SiteName.firsts c.in-Some.locked.books c.choose-done.new.self.books c.choose-done.result.0 c.self.inside.account.receipts.items c.choose-done.new.account.receipts.items n c.choose-done.new.account.share.amount c.args.on.lb c.args.on.session c.args.on.at e)) am_is
    (subst (λ (rs : List Receipt). IfErr c.choose-done.result.1 (λ e. ChoseErr g.L.SiteName.sizes g.L.SiteName.firsts c.in-Some.locked.books c.choose-done.new.self.books c.choose-done.result.0 rs c.choose-done.new.account.receipts.items c.take_room.new.account.share.amount c.choose-done.new.account.share.amount c.args.on.lb c.args.on.session c.args.on.at e)) c.take_room.ensures.receipts c.choose-done.ensures.err) in
    let tickets = subst (λ (xs : List (ℕ × ℕ)). IfOk c.choose-done.result.1 (λ x. c.hold_pair.new.held.items ≡ xs ++ pairs_of c.args.on.lb x)) c.take_room.ensures.held c.hold_pair.ensures.ok in
    let same = subst (λ (xs : List (ℕ × ℕ)). OnErr c.choose-done.result.1 (c.hold_pair.new.held.items ≡ xs)) c.take_room.ensures.held c.hold_pair.ensures.err in
    rw (sym c.self.view_is)
    (record {
      stake = (parts, refl, refl);
      two = (two_chosen g.L.SiteName.sizes g.L.SiteName.firsts c.in-Some.locked.books c.choose-done.new.self.books c.choose-done.result.0 c.self.inside.account.receipts.items c.choose-done.new.account.receipts.items c.self.inside.account.share.amount c.choose-done.new.account.share.amount c.args.on.lb c.args.on.session c.args.on.at c.args.ask.now c.choose-done.result.1 ok err);
      marks = (seat_cuts g.L.SiteName.starts c.self.inside.seat.me c.enter.new.seat.me c.self.invariant.2 c.enter.ensures.took
          c.slot_mut.result.now c.slot_mut.ensures.value c.in-Some.locked c.in-Some.is c.choose-done.new.self
          c.take_room.new.account.receipts.items c.choose-done.new.account.receipts.items c.args.on.lb c.choose-done.result.0 c.choose-done.ensures.ends.news
          (λ n steps was.
          choose_history g.L.SiteName.starts n steps g.L.SiteName.sizes g.L.SiteName.firsts c.in-Some.locked.books (held c.choose-done.new.self.books c.choose-done.new.account.receipts.items c.choose-done.new.account.share.amount) c.take_room.new.account.receipts.items c.take_room.new.account.share.amount c.args.on c.args.ask.now c.choose-done.result.0 c.choose-done.result.1 c.requires.call.known c.choose-done.ensures.ok c.choose-done.ensures.err was) c.leave.new.seat.me c.leave.ensures.left _ _);
    })

pub invariant_of-self-2 : goal.invariant_of-self-2
invariant_of-self-2 g c =
    let sees = seat_sees g.L.SiteName.starts c.self.inside.seat.me c.enter.new.seat.me c.self.invariant.2 c.enter.ensures.took
    c.slot_mut.result.now c.slot_mut.ensures.value c.in-Some.locked c.in-Some.is c.choose-done.new.self
    c.take_room.new.account.receipts.items c.choose-done.new.account.receipts.items c.args.on.lb c.choose-done.result.0 c.choose-done.ensures.ends.news
    (λ n steps was.
    choose_history g.L.SiteName.starts n steps g.L.SiteName.sizes g.L.SiteName.firsts c.in-Some.locked.books (held c.choose-done.new.self.books c.choose-done.new.account.receipts.items c.choose-done.new.account.share.amount) c.take_room.new.account.receipts.items c.take_room.new.account.share.amount c.args.on c.args.ask.now c.choose-done.result.0 c.choose-done.result.1 c.requires.call.known c.choose-done.ensures.ok c.choose-done.ensures.err was) c.leave.new.seat.me c.leave.ensures.left in
    let seen = subst (λ (rs : List Receipt). SeatSees g.L.SiteName.starts c.self.inside.seat.me c.leave.new.seat.me (gained_in rs c.choose-done.new.account.receipts.items)) c.take_room.ensures.receipts sees in
    let am_is : c.take_room.new.account.share.amount ≡ c.self.inside.account.share.amount = rw c.take_room.ensures.share.0 refl in
    let part_is : c.take_room.new.account.share.parts ≡ c.self.inside.account.share.parts = rw c.take_room.ensures.share.0 refl in
    let parts = c.choose-done.ensures.ends.parts ∙ part_is in
    let ok = subst (λ (n : ℕ). IfOk c.choose-done.result.1 (λ x. ChoseOk g.L.SiteName.sizes g.L.SiteName.firsts c.in-Some.locked.books c.choose-done.new.self.books c.choose-done.result.0 c.self.inside.account.receipts.items c.choose-done.new.account.receipts.items n c.choose-done.new.account.share.amount c.args.on.lb c.args.on.session c.args.on.at c.args.ask.now x)) am_is
    (subst (λ (rs : List Receipt). IfOk c.choose-done.result.1 (λ x. ChoseOk g.L.SiteName.sizes g.L.SiteName.firsts c.in-Some.locked.books c.choose-done.new.self.books c.choose-done.result.0 rs c.choose-done.new.account.receipts.items c.take_room.new.account.share.amount c.choose-done.new.account.share.amount c.args.on.lb c.args.on.session c.args.on.at c.args.ask.now x)) c.take_room.ensures.receipts c.choose-done.ensures.ok) in
    let err = subst (λ (n : ℕ). IfErr c.choose-done.result.1 (λ e. ChoseErr g.L.SiteName.sizes g.L.SiteName.firsts c.in-Some.locked.books c.choose-done.new.self.books c.choose-done.result.0 c.self.inside.account.receipts.items c.choose-done.new.account.receipts.items n c.choose-done.new.account.share.amount c.args.on.lb c.args.on.session c.args.on.at e)) am_is
    (subst (λ (rs : List Receipt). IfErr c.choose-done.result.1 (λ e. ChoseErr g.L.SiteName.sizes g.L.SiteName.firsts c.in-Some.locked.books c.choose-done.new.self.books c.choose-done.result.0 rs c.choose-done.new.account.receipts.items c.take_room.new.account.share.amount c.choose-done.new.account.share.amount c.args.on.lb c.args.on.session c.args.on.at e)) c.take_room.ensures.receipts c.choose-done.ensures.err) in
    let tickets = subst (λ (xs : List (ℕ × ℕ)). IfOk c.choose-done.result.1 (λ x. c.hold_pair.new.held.items ≡ xs ++ pairs_of c.args.on.lb x)) c.take_room.ensures.held c.hold_pair.ensures.ok in
    let same = subst (λ (xs : List (ℕ × ℕ)). OnErr c.choose-done.result.1 (c.hold_pair.new.held.items ≡ xs)) c.take_room.ensures.held c.hold_pair.ensures.err in
    let gained = gained_choose g.L.SiteName.sizes g.L.SiteName.firsts c.in-Some.locked.books c.choose-done.new.self.books c.choose-done.result.0 c.self.inside.account.receipts.items c.choose-done.new.account.receipts.items c.self.inside.account.share.amount c.choose-done.new.account.share.amount c.args.on.lb c.args.on.session c.args.on.at c.args.ask.now c.choose-done.result.1 ok err in
    let roomy : length c.self.inside.account.receipts.items + length c.self.inside.held.items + 3 ≤ vec_capacity c.choose-done.new.account.receipts =
    omega (arith, c.in-Ok.ensures.room, c.choose-done.ensures.ends.room, c.self.inside.account.receipts.ok.0, c.self.inside.held.ok.0) in
    let after = kept_choose (length g.L.SiteName.sizes) c.args.on.lb c.self.inside.account.receipts.items c.choose-done.new.account.receipts.items c.self.inside.held.items c.hold_pair.new.held.items c.self.inside.account.share.parts c.choose-done.new.account.share.parts c.self.inside.account.share.amount c.choose-done.new.account.share.amount
    (vec_capacity c.self.inside.account.receipts) (vec_capacity c.choose-done.new.account.receipts) c.choose-done.result.1 c.requires.call.known gained tickets same c.choose-done.ensures.ends.few parts roomy c.self.inside.forgotten c.self.invariant.0 in
    let cuts = seat_cuts g.L.SiteName.starts c.self.inside.seat.me c.enter.new.seat.me c.self.invariant.2 c.enter.ensures.took
    c.slot_mut.result.now c.slot_mut.ensures.value c.in-Some.locked c.in-Some.is c.choose-done.new.self
    c.take_room.new.account.receipts.items c.choose-done.new.account.receipts.items c.args.on.lb c.choose-done.result.0 c.choose-done.ensures.ends.news
    (λ n steps was.
    choose_history g.L.SiteName.starts n steps g.L.SiteName.sizes g.L.SiteName.firsts c.in-Some.locked.books (held c.choose-done.new.self.books c.choose-done.new.account.receipts.items c.choose-done.new.account.share.amount) c.take_room.new.account.receipts.items c.take_room.new.account.share.amount c.args.on c.args.ask.now c.choose-done.result.0 c.choose-done.result.1 c.requires.call.known c.choose-done.ensures.ok c.choose-done.ensures.err was) c.leave.new.seat.me c.leave.ensures.left c.self.inside.seat.table_id c.leave.new.seat.table_id in (
      after,
      c.leave.ensures.of ∙ c.enter.ensures.of ∙ c.self.invariant.1,
      seen.rests,
      count_sees g.L.SiteName.starts c.self.inside.seat.table_id c.leave.new.seat.table_id c.self.inside.seat.me c.leave.new.seat.me c.self.inside.account.receipts.items c.choose-done.new.account.receipts.items c.self.inside.account.share.amount c.choose-done.new.account.share.amount c.self.inside.forgotten seen (gained.0, gained.1) c.self.invariant.0.counted after.counted
          c.self.invariant.3,
      count_cuts (seat_note g.L.SiteName.starts c.self.inside.seat.table_id c.self.inside.seat.me) (seat_note g.L.SiteName.starts c.leave.new.seat.table_id c.leave.new.seat.me) c.choose-done.result.0 _ _ cuts c.choose-done.ensures.ends.counted (c.self.invariant.4 ∙ sym (ap (λ s. s.amount) c.take_room.ensures.share.1)),
    )

pub returns-in-Err-clause-err : goal.returns-in-Err-clause-err
returns-in-Err-clause-err g c =
    rw (sym c.self.view_is) (rw (c.take_room.ensures.share.0) (λ s f w f' w' m.
    none_desk g.L.SiteName.sizes c.self.inside.account.share.parts c.self.inside.account.receipts.items c.take_room.new.account.receipts.items c.self.inside.held.items c.take_room.new.held.items c.self.inside.account.share.amount s f w f' w' m
    c.args.on.lb c.args.on.session c.args.on.at _ _ c.take_room.ensures.receipts refl))

pub returns-in-Err-clause-kept : goal.returns-in-Err-clause-kept
returns-in-Err-clause-kept g c =
    rw (sym c.self.view_is)
    (record {
      stake = (ap (λ s. s.parts) c.take_room.ensures.share.0, refl, refl);
      two = omega (arith, ap (λ (rs : List Receipt). length rs) c.take_room.ensures.receipts);
      marks = refl;
    })
