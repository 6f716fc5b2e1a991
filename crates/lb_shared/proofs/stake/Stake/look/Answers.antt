-- A hold of the lock that adds nothing, and what the seat that had it has seen then.
use Rattle.std.proofs.Common.{List, [], ◌∷◌, Some, None, refl, subst, sym, ap, ◌∙◌}
use Rattle.std.specs.Prelude.{IfOk}
use Rattle.atomic_table.specs.Table.{rest}
use Rattle.lb_model.specs.Present.{IsPresent}
use Rattle.lb_book.specs.Journal.{Journal, past_of}
use Rattle.lb_shared.specs.Histories.{seat_note}
use Rattle.lb_shared.specs.Sites.{AreSited, At}
use Rattle.lb_shared.proofs.CountLaws.{count_cuts, count_looked}
use Rattle.lb_shared.proofs.HistoryLaws.{present_history}
use Rattle.lb_shared.proofs.JournalLaws.{look_history}
use Rattle.lb_shared.proofs.SeatLaws.{desk_sees, seat_cuts, seat_sees, seen_last, told_last}
use Rattle.lb_shared.proofs.stake.Stake.look.Goals as goal

pub slot_mut-requires : goal.slot_mut-requires
slot_mut-requires g c =
    let took = c.enter.ensures.took in
    (c.enter.ensures.of ∙ c.self.invariant.1, (Some took.value, ap (λ m. m.1) took.after_is ∙ ap (λ m. (0, Some took.value) ∷ rest m.1) (sym took.after_is)))

pub leave-requires-clause-told : goal.leave-requires-clause-told
leave-requires-clause-told g c =
    told_last g.L.SiteName.starts c.self.inside.seat.me c.enter.new.seat.me c.self.invariant.2 c.enter.ensures.took
    c.slot_mut.result.now c.slot_mut.ensures.value c.in-Some.locked c.in-Some.is c.look-done.new.self [] [] c.look-done.new.self.lb None
    (refl, c.look-done.ensures.news.0, c.look-done.ensures.news.1, c.look-done.ensures.news.2)
    (λ n steps was. look_history g.L.SiteName.starts n steps c.look-done.new.self.lb c.in-Some.locked.books c.look-done.new.self.books c.look-done.ensures.same was)

pub returns-clause-looks : goal.returns-clause-looks
returns-clause-looks g c =
    let sees = seat_sees g.L.SiteName.starts c.self.inside.seat.me c.enter.new.seat.me c.self.invariant.2 c.enter.ensures.took
    c.slot_mut.result.now c.slot_mut.ensures.value c.in-Some.locked c.in-Some.is c.look-done.new.self [] [] c.look-done.new.self.lb None
    (refl, c.look-done.ensures.news.0, c.look-done.ensures.news.1, c.look-done.ensures.news.2)
    (λ n steps was. look_history g.L.SiteName.starts n steps c.look-done.new.self.lb c.in-Some.locked.books c.look-done.new.self.books c.look-done.ensures.same was) c.leave.new.seat.me c.leave.ensures.left in
    let last = seen_last g.L.SiteName.starts c.self.inside.seat.me c.enter.new.seat.me c.self.invariant.2 c.enter.ensures.took
    c.slot_mut.result.now c.slot_mut.ensures.value c.in-Some.locked c.in-Some.is c.look-done.new.self [] [] c.look-done.new.self.lb None
    (refl, c.look-done.ensures.news.0, c.look-done.ensures.news.1, c.look-done.ensures.news.2)
    (λ n steps was. look_history g.L.SiteName.starts n steps c.look-done.new.self.lb c.in-Some.locked.books c.look-done.new.self.books c.look-done.ensures.same was) c.leave.new.seat.me c.leave.ensures.left in
    let sited = subst (λ (xs : List Journal). AreSited g.L.SiteName.sizes g.L.SiteName.firsts xs) (sym c.look-done.ensures.same) c.look-done.ensures.sited in
    let shown = subst (λ (xs : List Journal). IfOk c.look-done.result (λ v. At xs c.args.lb (λ (b : Journal). IsPresent b.rules b.opening (past_of b) v.view))) (sym c.look-done.ensures.same) c.look-done.ensures.shown in
    rw (sym c.self.view_is)
    (record {
      sees = desk_sees g.L.SiteName.starts _ _ _ _ c.self.inside.seat.me c.leave.new.seat.me _ (c.leave.ensures.of ∙ c.enter.ensures.of) sees;
      marks = seat_cuts g.L.SiteName.starts c.self.inside.seat.me c.enter.new.seat.me c.self.invariant.2 c.enter.ensures.took
          c.slot_mut.result.now c.slot_mut.ensures.value c.in-Some.locked c.in-Some.is c.look-done.new.self [] [] c.look-done.new.self.lb None
          (refl, c.look-done.ensures.news.0, c.look-done.ensures.news.1, c.look-done.ensures.news.2)
          (λ n steps was. look_history g.L.SiteName.starts n steps c.look-done.new.self.lb c.in-Some.locked.books c.look-done.new.self.books c.look-done.ensures.same was)
          c.leave.new.seat.me c.leave.ensures.left c.self.inside.seat.table_id c.leave.new.seat.table_id;
      begun = refl;
      whole = present_history g.L.SiteName.starts _ g.L.SiteName.sizes g.L.SiteName.firsts c.look-done.new.self.books c.args.lb c.look-done.result sited c.requires.known last.history shown;
    })

pub invariant_of-self : goal.invariant_of-self
invariant_of-self g c =
    let sees = seat_sees g.L.SiteName.starts c.self.inside.seat.me c.enter.new.seat.me c.self.invariant.2 c.enter.ensures.took
    c.slot_mut.result.now c.slot_mut.ensures.value c.in-Some.locked c.in-Some.is c.look-done.new.self [] [] c.look-done.new.self.lb None
    (refl, c.look-done.ensures.news.0, c.look-done.ensures.news.1, c.look-done.ensures.news.2)
    (λ n steps was. look_history g.L.SiteName.starts n steps c.look-done.new.self.lb c.in-Some.locked.books c.look-done.new.self.books c.look-done.ensures.same was) c.leave.new.seat.me c.leave.ensures.left in
    let cuts = seat_cuts g.L.SiteName.starts c.self.inside.seat.me c.enter.new.seat.me c.self.invariant.2 c.enter.ensures.took
    c.slot_mut.result.now c.slot_mut.ensures.value c.in-Some.locked c.in-Some.is c.look-done.new.self [] [] c.look-done.new.self.lb None
    (refl, c.look-done.ensures.news.0, c.look-done.ensures.news.1, c.look-done.ensures.news.2)
    (λ n steps was. look_history g.L.SiteName.starts n steps c.look-done.new.self.lb c.in-Some.locked.books c.look-done.new.self.books c.look-done.ensures.same was) c.leave.new.seat.me c.leave.ensures.left c.self.inside.seat.table_id c.leave.new.seat.table_id in (
      record {
        part = rw c.look-done.ensures.parts c.self.invariant.0.part;
        counted = c.look-done.ensures.amount ∙ c.self.invariant.0.counted;
        few = rw c.look-done.ensures.amount c.self.invariant.0.few;
        known = c.self.invariant.0.known;
        roomy = c.self.invariant.0.roomy;
      },
      c.leave.ensures.of ∙ c.enter.ensures.of ∙ c.self.invariant.1,
      sees.rests,
      count_looked g.L.SiteName.starts c.self.inside.seat.table_id c.leave.new.seat.table_id c.self.inside.seat.me c.leave.new.seat.me _ _ sees c.look-done.ensures.amount c.self.invariant.3,
      count_cuts (seat_note g.L.SiteName.starts c.self.inside.seat.table_id c.self.inside.seat.me) (seat_note g.L.SiteName.starts c.leave.new.seat.table_id c.leave.new.seat.me) None _ _ cuts refl c.self.invariant.4,
    )
