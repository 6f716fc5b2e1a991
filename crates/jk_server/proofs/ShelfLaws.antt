-- The cuts that a desk has seen as its own are those of its worker's sessions.
use Rattle.std.proofs.Common.{ℕ, ◌≡◌, List, [], ◌∷◌, ◌++◌, inl, inr, refl, sym, ap, ◌∙◌, subst, append-nil, append_assoc}
use Rattle.std.specs.List.{All}
use Rattle.std.proofs.lemmas.Grind.{flat_map-append}
use Rattle.std.proofs.lemmas.List.Elements.{All-append, All-cons, All-head, All-nil, All-tail, All-weaker}
use Rattle.jk_io.specs.declared.traits.surroundings.Peer.{Peer}
use Rattle.jk_io.specs.Doors.{DoorSide}
use Rattle.client_session.specs.Requests.{Visit}
use Rattle.lb_shared.specs.Histories.{SeatNote, Step, cuts_seen, own_cuts}
use Rattle.jk_server.specs.Awaits.{LinkTells}
use Rattle.jk_server.specs.Headline.{HaveCut, cuts_in, cuts_made}
use Rattle.jk_server.specs.Served.{EndsAtLast, EndsBy, HaveRested, IsRun, IsServed, Run}
use Rattle.jk_server.specs.Worker.{BeginsSession, WorkerTells, WorkerSide}
use Rattle.jk_server.specs.declared.part.WorkerEnd.{WorkerEnd}
use Rattle.jk_server.specs.declared.part.WorkerEnd.TheVariants as worker
use Rattle.jk_server.proofs.ToldLaws.{all_front, all_last, same_seat}

-- From one moment to another a desk stayed at its Site, and has seen besides as its own just the cuts of these sessions.
pub record WasCut {C S Y : Type 0} (old new : SeatNote) (runs : List (Run C S Y)) : Type 0 where
  pub starts : new.starts ≡ old.starts
  pub cuts : cuts_seen new ≡ cuts_seen old ++ cuts_in runs
  pub sited : All (λ (r : Run C S Y). r.to.desk.seat.starts ≡ old.starts) runs

-- What a desk that had seen nothing has seen as its own, at the seat that it left.
pub cut_left : {C S Y : Type 0} (s n left : SeatNote) (runs : List (Run C S Y)) → WasCut s n runs → s.steps ≡ [] → left ≡ n → HaveCut left runs
cut_left {C} {S} {Y} s n left runs was none same =
    subst (λ (t : SeatNote). HaveCut t runs) (sym same) (
      was.cuts ∙ ap (λ (l : List (ℕ × Step)). own_cuts s.number l ++ cuts_in runs) none,
      All-weaker (λ (r : Run C S Y). r.to.desk.seat.starts ≡ s.starts) (λ (r : Run C S Y). r.to.desk.seat.starts ≡ n.starts) (λ r is. is ∙ sym was.starts) runs was.sited,
    )

module _ {C S Y X : Type 0} (visit : Peer → Visit) (told : LinkTells C X) (of : WorkerTells S Y) where
  -- One session.
  cut_session : (s : WorkerSide S Y) (r : Run C S Y) → BeginsSession of.log s r.peer r.from → IsRun visit told of r
      → (r.to.desk.seat.starts ≡ s.desk.seat.starts) × (cuts_seen r.to.desk.seat ≡ cuts_seen s.desk.seat ++ cuts_made r)
  cut_session s r begins run =
      let seat : r.from.desk.seat ≡ s.desk.seat = ap (λ (w : WorkerSide S Y). w.desk.seat) begins.same in (
        run.shelf.starts ∙ ap (λ (t : SeatNote). t.starts) seat,
        run.shelf.cuts ∙ ap (λ (t : SeatNote). cuts_seen t ++ cuts_made r) seat,
      )

  cut_rested : (s n : WorkerSide S Y) (runs : List (Run C S Y)) → HaveRested of s runs n → All (IsRun visit told of) runs → WasCut s.desk.seat n.desk.seat runs
  cut_rested s n [] rested sessions =
      subst (λ (w : WorkerSide S Y). WasCut {C = C} {S = S} {Y = Y} s.desk.seat w.desk.seat []) (sym rested)
      record { starts = refl; cuts = sym (append-nil (cuts_seen s.desk.seat)); sited = All-nil (λ (r : Run C S Y). r.to.desk.seat.starts ≡ s.desk.seat.starts) }
  cut_rested s n (r ∷ runs) rested sessions =
      let here = cut_session s r rested.1 (All-head (IsRun visit told of) r runs sessions) in
      let then : WasCut r.to.desk.seat n.desk.seat runs =
      subst (λ (t : SeatNote). WasCut t n.desk.seat runs) (ap (λ (w : WorkerSide S Y). w.desk.seat) rested.3.same)
      (cut_rested rested.0 n runs rested.4 (All-tail (IsRun visit told of) r runs sessions)) in
      record {
        starts = then.starts ∙ here.0;
        cuts = then.cuts ∙ ap (λ (l : List (ℕ × List (ℕ × Step))). l ++ cuts_in runs) here.1 ∙ append_assoc (cuts_seen s.desk.seat) (cuts_made r) (cuts_in runs);
        sited = All-cons (λ (x : Run C S Y). x.to.desk.seat.starts ≡ s.desk.seat.starts) r runs here.0
            (All-weaker (λ (x : Run C S Y). x.to.desk.seat.starts ≡ r.to.desk.seat.starts) (λ (x : Run C S Y). x.to.desk.seat.starts ≡ s.desk.seat.starts)
            (λ x is. is ∙ here.0) runs then.sited);
      }

  cut_at_last : {L : Type 0} (s n : WorkerSide S Y) (runs : List (Run C S Y)) (end : WorkerEnd L) → EndsAtLast of s n runs end → All (IsRun visit told of) runs
      → WasCut s.desk.seat n.desk.seat runs
  cut_at_last s n runs end at sessions =
      let all : All (IsRun visit told of) (at.before ++ at.last ∷ []) = subst (λ (rs : List (Run C S Y)). All (IsRun visit told of) rs) at.split sessions in
      let first = cut_rested s at.mid at.before at.rested (all_front (IsRun visit told of) at.before (at.last ∷ []) all) in
      let then = cut_session at.mid at.last at.begins (all_last (IsRun visit told of) at.before at.last all) in
      let seat : n.desk.seat ≡ at.last.to.desk.seat = ap (λ (w : WorkerSide S Y). w.desk.seat) at.left ∙ same_seat visit told of end at.last.to.desk in
      let made : cuts_in at.before ++ cuts_made at.last ≡ cuts_in (at.before ++ at.last ∷ []) =
      ap (λ (l : List (ℕ × List (ℕ × Step))). cuts_in at.before ++ l) (sym (append-nil (cuts_made at.last)))
      ∙ sym (flat_map-append (λ (r : Run C S Y). cuts_made r) at.before (at.last ∷ [])) in
      subst (λ (t : SeatNote). WasCut s.desk.seat t runs) (sym seat)
      (subst (λ (rs : List (Run C S Y)). WasCut s.desk.seat at.last.to.desk.seat rs) (sym at.split)
      record {
        starts = then.0 ∙ first.starts;
        cuts = then.1 ∙ ap (λ (l : List (ℕ × List (ℕ × Step))). l ++ cuts_made at.last) first.cuts
            ∙ append_assoc (cuts_seen s.desk.seat) (cuts_in at.before) (cuts_made at.last)
            ∙ ap (λ (l : List (ℕ × List (ℕ × Step))). cuts_seen s.desk.seat ++ l) made;
        sited = All-append (λ (x : Run C S Y). x.to.desk.seat.starts ≡ s.desk.seat.starts) at.before (at.last ∷ []) first.sited
            (All-cons (λ (x : Run C S Y). x.to.desk.seat.starts ≡ s.desk.seat.starts) at.last [] (then.0 ∙ first.starts)
            (All-nil (λ (x : Run C S Y). x.to.desk.seat.starts ≡ s.desk.seat.starts)));
      })

  cut_by : {L : Type 0} (before after : DoorSide C) (s n : WorkerSide S Y) (runs : List (Run C S Y)) (end : WorkerEnd L) → EndsBy of before after s n runs end
      → All (IsRun visit told of) runs → WasCut s.desk.seat n.desk.seat runs
  cut_by before after s n runs (worker.Closed sessions) why all = cut_rested s n runs why.1 all
  cut_by before after s n runs worker.DoorFault why all = cut_rested s n runs why.0 all
  cut_by {L = L} before after s n runs worker.ShelfFault why all = cut_at_last {L = L} s n runs worker.ShelfFault why.0 all
  cut_by {L = L} before after s n runs worker.LogFault why all = cut_at_last {L = L} s n runs worker.LogFault why.0 all
  cut_by {L = L} before after s n runs (worker.Stray stray) why all = cut_at_last {L = L} s n runs (worker.Stray stray) why.0 all
  cut_by {L = L} before after s n runs worker.NoMemory (inl why, steady) all = cut_rested s n runs why all
  cut_by {L = L} before after s n runs worker.NoMemory (inr why, steady) all = cut_at_last {L = L} s n runs worker.NoMemory why all

  -- All sessions of a worker.
  pub cut_served : {L : Type 0} (before after : DoorSide C) (s n : WorkerSide S Y) (end : WorkerEnd L) (served : IsServed visit told of before after s n end)
      → WasCut s.desk.seat n.desk.seat served.runs
  cut_served before after s n end served = cut_by before after s n served.runs end served.why served.sessions
