-- The own entries that a desk has seen are those that its worker's sessions were told.
use Rattle.std.proofs.Common.{ℕ, ◌≡◌, List, [], ◌∷◌, ◌++◌, inl, inr, refl, sym, ap, ◌∙◌, subst, append-nil, append_assoc}
use Rattle.std.specs.List.{All}
use Rattle.std.proofs.lemmas.Grind.{flat_map-append}
use Rattle.std.proofs.lemmas.List.Elements.{All-cons, All-head, All-nil, All-tail}
use mathlib.Core.List.{map-append}
use Rattle.atomic_table.specs.Seated.{TableId}
use Rattle.jk_io.specs.declared.traits.surroundings.Peer.{Peer}
use Rattle.lb_model.specs.declared.journal.Entry.{Entry}
use Rattle.lb_book.specs.declared.receipt.Receipt.{Receipt}
use Rattle.client_session.specs.Requests.{Visit}
use Rattle.jk_io.specs.Doors.{DoorSide}
use Rattle.lb_shared.specs.Histories.{HasGone, SeatNote, noted, own_in}
use Rattle.lb_shared.specs.SharedDesks.{SharedState}
use Rattle.lb_shared.specs.Shelves.{HasShelved, ShelfNote}
use Rattle.lb_shared.proofs.LeftLaws.{gone_none}
use Rattle.lb_shared.proofs.ShelfLaws.{shelved_none}
use Rattle.jk_server.specs.Awaits.{LinkTells}
use Rattle.jk_server.specs.Headline.{told_in}
use Rattle.jk_server.specs.Served.{EndsAtLast, EndsBy, HaveRested, IsRun, IsServed, Run, left_by}
use Rattle.jk_server.specs.Worker.{BeginsSession, WorkerTells, WorkerSide}
use Rattle.jk_server.specs.declared.part.WorkerEnd.{WorkerEnd}
use Rattle.jk_server.specs.declared.part.WorkerEnd.TheVariants as worker

-- A desk that is lent from now on.
pub lent_now : (s t : SeatNote) (rs us : List Receipt) → t ≡ s → us ≡ rs → HasGone s rs t us
lent_now s t rs us seat receipts =
    subst (λ (x : SeatNote). HasGone s rs x us) (sym seat) (subst (λ (xs : List Receipt). HasGone s rs s xs) (sym receipts) (gone_none s rs))

pub lent_shelf : (s t : ShelfNote) → t ≡ s → HasShelved s t
lent_shelf s t same = subst (λ (x : ShelfNote). HasShelved s x) (sym same) (shelved_none s)

-- From one moment to another a desk stayed at its lock, under its number, and has seen besides as its own just the entries of
-- these receipts.
pub record WasTold (old new : SeatNote) (receipts : List Receipt) : Type 0 where
  pub lock : new.lock ≡ old.lock
  pub number : new.number ≡ old.number
  pub own : own_in old.number new.seen ≡ own_in old.number old.seen ++ noted receipts

-- The own entries of a desk that had seen nothing, at the seat that it left.
pub told_left : (s n left : SeatNote) (receipts : List Receipt) → WasTold s n receipts → s.seen ≡ [] → left ≡ n → own_in left.number left.seen ≡ noted receipts
told_left s n left receipts was none same =
    subst (λ (t : SeatNote). own_in t.number t.seen ≡ noted receipts) (sym same)
    (ap (λ (k : ℕ). own_in k n.seen) was.number ∙ was.own ∙ ap (λ (l : List (ℕ × (ℕ × Entry))). own_in s.number l ++ noted receipts) none)

-- It left at the lock at which it began.
pub lock_left : (s n left : SeatNote) (receipts : List Receipt) (lock : TableId) → WasTold s n receipts → s.lock ≡ lock → left ≡ n → left.lock ≡ lock
lock_left s n left receipts lock was here same = ap (λ (t : SeatNote). t.lock) same ∙ was.lock ∙ here

told_none : (s : SeatNote) → WasTold s s []
told_none s = record { lock = refl; number = refl; own = sym (append-nil (own_in s.number s.seen)) }

told_join : (a b c : SeatNote) (rs us : List Receipt) → WasTold a b rs → WasTold b c us → WasTold a c (rs ++ us)
told_join a b c rs us first then =
    let mine : own_in a.number c.seen ≡ own_in a.number b.seen ++ noted us =
    subst (λ (n : ℕ). own_in n c.seen ≡ own_in n b.seen ++ noted us) first.number then.own in
    record {
      lock = then.lock ∙ first.lock;
      number = then.number ∙ first.number;
      own =
          mine ∙ ap (λ (es : List (ℕ × Entry)). es ++ noted us) first.own ∙ append_assoc (own_in a.number a.seen) (noted rs) (noted us)
          ∙ ap (λ (es : List (ℕ × Entry)). own_in a.number a.seen ++ es) (sym (map-append (λ (r : Receipt). (r.lb, r.entry)) rs us));
    }

-- A session that begins without a receipt.
told_gone : (a b : SeatNote) (rs : List Receipt) → HasGone a [] b rs → WasTold a b rs
told_gone a b rs gone = record {
  lock = gone.lock;
  number = gone.number;
  own = gone.own;
}

pub all_front : {A : Type 0} (P : A → Type 0) (xs ys : List A) → All P (xs ++ ys) → All P xs
all_front P [] ys all = All-nil P
all_front P (x ∷ xs) ys all = All-cons P x xs (All-head P x (xs ++ ys) all) (all_front P xs ys (All-tail P x (xs ++ ys) all))

pub all_last : {A : Type 0} (P : A → Type 0) (xs : List A) (y : A) → All P (xs ++ y ∷ []) → P y
all_last P [] y all = All-head P y [] all
all_last P (x ∷ xs) y all = all_last P xs y (All-tail P x (xs ++ y ∷ []) all)

module _ {C S Y X : Type 0} (visit : Peer → Visit) (told : LinkTells C X) (of : WorkerTells S Y) where
  -- One session, from the moment before the desk forgot the receipts of the last.
  told_session : (s : WorkerSide S Y) (r : Run C S Y) → BeginsSession of.log s r.peer r.from → IsRun visit told of r
      → WasTold s.desk.seat r.to.desk.seat r.to.desk.desk.receipts
  told_session s r begins run =
      told_gone s.desk.seat r.to.desk.seat r.to.desk.desk.receipts
      (subst (λ (rs : List Receipt). HasGone s.desk.seat rs r.to.desk.seat r.to.desk.desk.receipts) (ap (λ (w : WorkerSide S Y). w.desk.desk.receipts) begins.same)
      (subst (λ (t : SeatNote). HasGone t r.from.desk.desk.receipts r.to.desk.seat r.to.desk.desk.receipts) (ap (λ (w : WorkerSide S Y). w.desk.seat) begins.same) run.gone))

  told_rested : (s n : WorkerSide S Y) (runs : List (Run C S Y)) → HaveRested of s runs n → All (IsRun visit told of) runs
      → WasTold s.desk.seat n.desk.seat (told_in runs)
  told_rested s n [] rested sessions = subst (λ (w : WorkerSide S Y). WasTold s.desk.seat w.desk.seat []) (sym rested) (told_none s.desk.seat)
  told_rested s n (r ∷ runs) rested sessions =
      let here = told_session s r rested.1 (All-head (IsRun visit told of) r runs sessions) in
      told_join s.desk.seat r.to.desk.seat n.desk.seat r.to.desk.desk.receipts (told_in runs) here
      (subst (λ (t : SeatNote). WasTold t n.desk.seat (told_in runs)) (ap (λ (w : WorkerSide S Y). w.desk.seat) rested.3.same)
      (told_rested rested.0 n runs rested.4 (All-tail (IsRun visit told of) r runs sessions)))

  -- A stray that is taken leaves the seat as it is.
  pub same_seat : {L : Type 0} (end : WorkerEnd L) (d : SharedState S) → (left_by end d).seat ≡ d.seat
  same_seat (worker.Closed sessions) d = refl
  same_seat worker.DoorFault d = refl
  same_seat worker.ShelfFault d = refl
  same_seat worker.LogFault d = refl
  same_seat (worker.Stray stray) d = refl
  same_seat worker.NoMemory d = refl

  told_at_last : {L : Type 0} (s n : WorkerSide S Y) (runs : List (Run C S Y)) (end : WorkerEnd L) → EndsAtLast of s n runs end → All (IsRun visit told of) runs
      → WasTold s.desk.seat n.desk.seat (told_in runs)
  told_at_last s n runs end at sessions =
      let all : All (IsRun visit told of) (at.before ++ at.last ∷ []) = subst (λ (rs : List (Run C S Y)). All (IsRun visit told of) rs) at.split sessions in
      let first = told_rested s at.mid at.before at.rested (all_front (IsRun visit told of) at.before (at.last ∷ []) all) in
      let then = told_session at.mid at.last at.begins (all_last (IsRun visit told of) at.before at.last all) in
      let seat : n.desk.seat ≡ at.last.to.desk.seat = ap (λ (w : WorkerSide S Y). w.desk.seat) at.left ∙ same_seat end at.last.to.desk in
      let receipts : told_in at.before ++ at.last.to.desk.desk.receipts ≡ told_in runs =
      ap (λ (rs : List Receipt). told_in at.before ++ rs) (sym (append-nil at.last.to.desk.desk.receipts))
      ∙ sym (flat_map-append (λ (r : Run C S Y). r.to.desk.desk.receipts) at.before (at.last ∷ []))
      ∙ ap (λ (rs : List (Run C S Y)). told_in rs) (sym at.split) in
      subst (λ (t : SeatNote). WasTold s.desk.seat t (told_in runs)) (sym seat)
      (subst (λ (rs : List Receipt). WasTold s.desk.seat at.last.to.desk.seat rs) receipts
      (told_join s.desk.seat at.mid.desk.seat at.last.to.desk.seat (told_in at.before) at.last.to.desk.desk.receipts first then))

  told_by : {L : Type 0} (before after : DoorSide C) (s n : WorkerSide S Y) (runs : List (Run C S Y)) (end : WorkerEnd L) → EndsBy of before after s n runs end
      → All (IsRun visit told of) runs → WasTold s.desk.seat n.desk.seat (told_in runs)
  told_by before after s n runs (worker.Closed sessions) why all = told_rested s n runs why.1 all
  told_by before after s n runs worker.DoorFault why all = told_rested s n runs why.0 all
  told_by {L = L} before after s n runs worker.ShelfFault why all = told_at_last {L = L} s n runs worker.ShelfFault why.0 all
  told_by {L = L} before after s n runs worker.LogFault why all = told_at_last {L = L} s n runs worker.LogFault why.0 all
  told_by {L = L} before after s n runs (worker.Stray stray) why all = told_at_last {L = L} s n runs (worker.Stray stray) why.0 all
  told_by {L = L} before after s n runs worker.NoMemory (inl why, steady) all = told_rested s n runs why all
  told_by {L = L} before after s n runs worker.NoMemory (inr why, steady) all = told_at_last {L = L} s n runs worker.NoMemory why all

  -- All sessions of a worker.
  pub told_served : {L : Type 0} (before after : DoorSide C) (s n : WorkerSide S Y) (end : WorkerEnd L) (served : IsServed visit told of before after s n end)
      → WasTold s.desk.seat n.desk.seat (told_in served.runs)
  told_served before after s n end served = told_by before after s n served.runs end served.why served.sessions
