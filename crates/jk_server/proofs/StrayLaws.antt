-- Of the sessions of a worker: which met a stray, and that the tickets of the others came back.
use Rattle.std.proofs.Common.{◌≡◌, List, [], ◌∷◌, ◌++◌, Option, Some, None, inl, inr, sym, ap, ◌∙◌, subst, append-nil}
use Rattle.std.specs.List.{All}
use Rattle.std.proofs.lemmas.Grind.{flat_map-append}
use Rattle.std.proofs.lemmas.List.Elements.{All-head, All-tail}
use Rattle.jk_io.specs.declared.traits.surroundings.Peer.{Peer}
use Rattle.lb_model.specs.declared.refusal.Stray.{Stray}
use Rattle.lb_book.specs.Desks.{DeskState, first_stray}
use Rattle.lb_book.specs.Returned.{HaveReturned}
use Rattle.lb_book.specs.declared.receipt.Receipt.{Receipt}
use Rattle.lb_book.proofs.ReturnedLaws.{have_returned-append}
use Rattle.lb_book.proofs.ToldLaws.{some_is}
use Rattle.client_session.specs.Ends.{MeetsBy}
use Rattle.client_session.specs.Requests.{Visit}
use Rattle.client_session.specs.declared.ending.SessionStop.{SessionStop}
use Rattle.client_session.specs.declared.ending.SessionStop.TheVariants as stop
use Rattle.jk_io.specs.Doors.{DoorSide}
use Rattle.jk_server.specs.Awaits.{LinkTells}
use Rattle.jk_server.specs.Headline.{MetNoStray, NamesItsStray, told_in}
use Rattle.jk_server.specs.Served.{CanGoOn, EndsAtLast, EndsBy, HaveRested, IsRun, IsStray, Run}
use Rattle.jk_server.specs.Worker.{BeginsSession, WorkerTells, WorkerSide}
use Rattle.jk_server.specs.declared.part.WorkerEnd.{WorkerEnd}
use Rattle.jk_server.specs.declared.part.WorkerEnd.TheVariants as worker
use Rattle.jk_server.proofs.ToldLaws.{all_front, all_last}

-- A session that ended by no stray met none.
met_none : (end : SessionStop) (old new : DeskState) → MeetsBy end old new → (IsStray end → ⊥) → new.met ≡ old.met
met_none (stop.Closed why) old new meets none = meets.met
met_none stop.ClientFault old new meets none = meets.met
met_none stop.Truncated old new meets none = meets.met
met_none (stop.Stray ticket returned_at) old new meets none = absurd (none tt)
met_none stop.NoMemory old new meets none = meets.met

went_on : (end : SessionStop) → CanGoOn end → IsStray end → ⊥
went_on (stop.Closed why) can is = is
went_on stop.ClientFault can is = is
went_on stop.Truncated can is = is
went_on (stop.Stray ticket returned_at) can is = can
went_on stop.NoMemory can is = is

-- The stray that a desk without one has after a session is the one by which that ended.
named : (end : SessionStop) (old new : DeskState) (stray : Stray) → MeetsBy end old new → IsStray end → old.met ≡ None → new.met ≡ Some stray
    → end ≡ stop.Stray stray.ticket stray.returned_at
named (stop.Closed why) old new stray meets is none has = absurd is
named stop.ClientFault old new stray meets is none has = absurd is
named stop.Truncated old new stray meets is none has = absurd is
named (stop.Stray ticket returned_at) old new stray meets is none has =
    let mine : Stray = record { ticket = ticket; returned_at = returned_at } in
    let same : Some mine ≡ Some stray = sym (meets.1 ∙ ap (λ (met : Option Stray). first_stray met mine) none) ∙ has in
    ap (λ (x : Stray). stop.Stray x.ticket x.returned_at) (some_is mine stray same)
named stop.NoMemory old new stray meets is none has = absurd is

module _ {C S Y X : Type 0} (visit : Peer → Visit) (told : LinkTells C X) (of : WorkerTells S Y) where
  -- A session after which its desk has no stray.
  came_back : (s : WorkerSide S Y) (r : Run C S Y) → BeginsSession of.log s r.peer r.from → IsRun visit told of r → r.to.desk.desk.met ≡ None
      → HaveReturned r.to.desk.desk.receipts
  came_back s r begins run none =
      let receipts : r.to.desk.desk.receipts ≡ run.kept.gained =
      run.kept.receipts ∙ ap (λ (rs : List Receipt). rs ++ run.kept.gained) (ap (λ (w : WorkerSide S Y). w.desk.desk.receipts) begins.same) in
      subst HaveReturned (sym receipts) (run.kept.returned none)

  met_before : (s : WorkerSide S Y) (r : Run C S Y) → BeginsSession of.log s r.peer r.from → s.desk.desk.met ≡ None → r.from.desk.desk.met ≡ None
  met_before s r begins none = ap (λ (w : WorkerSide S Y). w.desk.desk.met) begins.same ∙ none

  met_after : (s : WorkerSide S Y) (r : Run C S Y) → BeginsSession of.log s r.peer r.from → IsRun visit told of r → (IsStray r.end.stop → ⊥) → s.desk.desk.met ≡ None
      → r.to.desk.desk.met ≡ None
  met_after s r begins run calm none = met_none r.end.stop r.from.desk.desk r.to.desk.desk run.met calm ∙ met_before s r begins none

  -- Sessions after each of which the worker went on.
  rested_back : (s n : WorkerSide S Y) (runs : List (Run C S Y)) → HaveRested of s runs n → All (IsRun visit told of) runs → s.desk.desk.met ≡ None
      → HaveReturned (told_in runs) × (n.desk.desk.met ≡ None)
  rested_back s n [] rested all none = (tt, ap (λ (w : WorkerSide S Y). w.desk.desk.met) rested ∙ none)
  rested_back s n (r ∷ runs) rested all none =
      let run = All-head (IsRun visit told of) r runs all in
      let to = met_after s r rested.1 run (went_on r.end.stop rested.2.desk.can) none in
      let rest = rested_back rested.0 n runs rested.4 (All-tail (IsRun visit told of) r runs all)
      (ap (λ (w : WorkerSide S Y). w.desk.desk.met) rested.3.same ∙ to) in
      (have_returned-append r.to.desk.desk.receipts (told_in runs) (came_back s r rested.1 run to) rest.0, rest.1)

  last_back : {L : Type 0} (s n : WorkerSide S Y) (runs : List (Run C S Y)) (end : WorkerEnd L) → EndsAtLast of s n runs end → All (IsRun visit told of) runs
      → s.desk.desk.met ≡ None → MetNoStray runs → HaveReturned (told_in runs)
  last_back s n runs end at sessions none calm =
      let all : All (IsRun visit told of) (at.before ++ at.last ∷ []) = subst (λ (rs : List (Run C S Y)). All (IsRun visit told of) rs) at.split sessions in
      let calm_all : MetNoStray (at.before ++ at.last ∷ []) = subst (λ (rs : List (Run C S Y)). MetNoStray rs) at.split calm in
      let first = rested_back s at.mid at.before at.rested (all_front (IsRun visit told of) at.before (at.last ∷ []) all) none in
      let run = all_last (IsRun visit told of) at.before at.last all in
      let to = met_after at.mid at.last at.begins run (all_last (λ (r : Run C S Y). IsStray r.end.stop → ⊥) at.before at.last calm_all) first.1 in
      let receipts : told_in at.before ++ at.last.to.desk.desk.receipts ≡ told_in runs =
      ap (λ (rs : List Receipt). told_in at.before ++ rs) (sym (append-nil at.last.to.desk.desk.receipts))
      ∙ sym (flat_map-append (λ (r : Run C S Y). r.to.desk.desk.receipts) at.before (at.last ∷ []))
      ∙ ap (λ (rs : List (Run C S Y)). told_in rs) (sym at.split) in
      subst HaveReturned receipts (have_returned-append (told_in at.before) at.last.to.desk.desk.receipts first.0 (came_back at.mid at.last at.begins run to))

  -- All sessions of a worker that met no stray.
  pub served_back : {L : Type 0} (before after : DoorSide C) (s n : WorkerSide S Y) (runs : List (Run C S Y)) (end : WorkerEnd L) → EndsBy of before after s n runs end
      → All (IsRun visit told of) runs → s.desk.desk.met ≡ None → MetNoStray runs → HaveReturned (told_in runs)
  served_back before after s n runs (worker.Closed sessions) why all none calm = (rested_back s n runs why.1 all none).0
  served_back before after s n runs worker.DoorFault why all none calm = (rested_back s n runs why.0 all none).0
  served_back {L = L} before after s n runs worker.ShelfFault why all none calm = last_back {L = L} s n runs worker.ShelfFault why.0 all none calm
  served_back {L = L} before after s n runs worker.LogFault why all none calm = last_back {L = L} s n runs worker.LogFault why.0 all none calm
  served_back {L = L} before after s n runs (worker.Stray stray) why all none calm = last_back {L = L} s n runs (worker.Stray stray) why.0 all none calm
  served_back {L = L} before after s n runs worker.NoMemory (inl why, steady) all none calm = (rested_back s n runs why all none).0
  served_back {L = L} before after s n runs worker.NoMemory (inr why, steady) all none calm = last_back {L = L} s n runs worker.NoMemory why all none calm

  -- A worker's end that tells a stray.
  pub served_names : {L : Type 0} (before after : DoorSide C) (s n : WorkerSide S Y) (runs : List (Run C S Y)) (end : WorkerEnd L) → EndsBy of before after s n runs end
      → All (IsRun visit told of) runs → s.desk.desk.met ≡ None → NamesItsStray runs end
  served_names before after s n runs (worker.Closed sessions) why sessions' none = tt
  served_names before after s n runs worker.DoorFault why sessions none = tt
  served_names before after s n runs worker.ShelfFault why sessions none = tt
  served_names before after s n runs worker.LogFault why sessions none = tt
  served_names before after s n runs (worker.Stray note) (at, steady) sessions none =
      let all : All (IsRun visit told of) (at.before ++ at.last ∷ []) = subst (λ (rs : List (Run C S Y)). All (IsRun visit told of) rs) at.split sessions in
      let first = rested_back s at.mid at.before at.rested (all_front (IsRun visit told of) at.before (at.last ∷ []) all) none in
      let run = all_last (IsRun visit told of) at.before at.last all in (
        at.before,
        at.last,
        at.split,
        named at.last.end.stop at.last.from.desk.desk at.last.to.desk.desk note.stray run.met at.why.1.0 (met_before at.mid at.last at.begins first.1) at.why.1.2,
      )
  served_names before after s n runs worker.NoMemory why sessions none = tt
