-- The headline of a run, by what its workers did and how its closing ended.
use Rattle.std.proofs.Common.{ℕ, suc, ◌≡◌, ◌+◌, List, [], ◌∷◌, length, map, Option, inl, inr, refl, sym, ap, ◌∙◌, subst, arith}
use Rattle.std.specs.List.{All, AllZip}
use Rattle.std.proofs.lemmas.List.Elements.{All-cons, All-head, All-nil, All-tail}
use Rattle.std.proofs.lemmas.Option.{slice_get_cases, slice_get_within}
use Rattle.jk_io.specs.Told.{Rose}
use Rattle.jk_io.specs.declared.traits.streams.Meanings.{Ghosts}
use Rattle.jk_io.specs.declared.traits.surroundings.Peer.{Peer}
use Rattle.lb_model.specs.declared.journal.Entry.{Entry}
use Rattle.lb_model.specs.declared.opening.Opening.{Opening}
use Rattle.lb_model.specs.declared.segment.Segment.{Segment}
use Rattle.lb_book.specs.Journal.{Journal}
use Rattle.lb_book.specs.PlainDesks.{AreLegal}
use Rattle.lb_book.specs.Returned.{AreReturned, HaveReturned}
use Rattle.lb_book.proofs.HistoryLaws.{whole_of}
use Rattle.client_session.specs.Requests.{Visit}
use Rattle.lb_shared.specs.Histories.{IsSiteHistory, SeatNote, Step, cuts_seen, entries_of, noted, own_cuts, own_in, starts_of}
use Rattle.site_config.specs.declared.balancer.Lb.{Lb}
use Rattle.request_log.specs.declared.format.Part.{Part as FormatPart}
use Rattle.request_log.specs.LogStates.{LogState}
use Rattle.gear_parts.specs.Gears.{GearSide}
use Rattle.jk_server.specs.Closings.{Closes, KeepsFirst, Shelves, ShelvesFront}
use Rattle.jk_server.specs.Awaits.{unheard}
use Rattle.jk_server.specs.Headline.{AreEnded, AreLegalFrom, AreSessions, HasBooks, HaveCut, IsHeadline, IsOneList, MetNoStray, NamesItsStray, cuts_in, told_in}
use Rattle.jk_server.specs.Runs.{AreServedGears}
use Rattle.jk_server.specs.Served.{Run}
use Rattle.jk_server.specs.Worker.{WorkerTells}
use Rattle.jk_server.specs.declared.part.WorkerEnd.{WorkerEnd}
use Rattle.jk_server.specs.declared.runs.ends.Closing.{Closing}
use Rattle.jk_server.specs.declared.runs.ends.Closing.TheVariants as closing
use Rattle.jk_server.proofs.StrayLaws.{served_back, served_names}

-- The sessions of all workers, what each seat has seen as its own, and of which sessions the tickets came back.
record HaveServed {C S Y L X : Type 0} (visits : ℕ → Peer → Visit) (told : Ghosts C X) (of : WorkerTells S Y) (number : ℕ) (seats : List SeatNote) (ends : List (WorkerEnd L)) : Type 0 where
  workers : List (List (Run C S Y))
  each : length workers ≡ length ends
  sessions : AreSessions visits told of number workers
  own : AllZip (λ (s : SeatNote) (runs : List (Run C S Y)). own_in s.number s.seen ≡ noted (told_in runs)) seats workers
  back : AllZip (λ (s : SeatNote) (runs : List (Run C S Y)). MetNoStray runs → HaveReturned (told_in runs)) seats workers
  cut : AllZip (λ (s : SeatNote) (runs : List (Run C S Y)). HaveCut s runs) seats workers
  strays : AllZip NamesItsStray workers ends

have_served : {C S O L X : Type 0} (visits : ℕ → Peer → Visit) (told : Ghosts C X) (of : WorkerTells S (Option (LogState O))) (format : List FormatPart) (number : ℕ) (before after : List (GearSide C S O)) (seats : List SeatNote) (ends : List (WorkerEnd L))
    → AreServedGears visits told of format number before after seats ends → HaveServed visits told of number seats ends
have_served visits told of format number [] [] [] [] served = record { workers = []; each = refl; sessions = tt; own = tt; back = tt; cut = tt; strays = tt }
have_served visits told of format number (b ∷ before) (a ∷ after) (s ∷ seats) (e ∷ ends) served =
    let rest = have_served visits told of format (number + 1) before after seats ends served.1 in
    record {
      workers = served.0.served.runs ∷ rest.workers;
      each = ap (λ (n : ℕ). suc n) rest.each;
      sessions = (served.0.served.sessions, rest.sessions);
      own = (served.0.own, rest.own);
      cut = (served.0.cut, rest.cut);
      back = (
        served_back (visits number) (unheard told) of b.door a.door served.0.from served.0.to served.0.served.runs e served.0.served.why served.0.served.sessions served.0.fresh.no_stray.1,
        rest.back,
      );
      strays = (
        served_names (visits number) (unheard told) of b.door a.door served.0.from served.0.to served.0.served.runs e served.0.served.why served.0.served.sessions served.0.fresh.no_stray.1,
        rest.strays,
      );
    }
have_served visits told of format number [] [] [] (e ∷ ends) served = absurd served
have_served visits told of format number [] [] (s ∷ seats) ends served = absurd served
have_served visits told of format number [] (a ∷ after) seats ends served = absurd served
have_served visits told of format number (b ∷ before) [] seats ends served = absurd served
have_served visits told of format number (b ∷ before) (a ∷ after) [] ends served = absurd served
have_served visits told of format number (b ∷ before) (a ∷ after) (s ∷ seats) [] served = absurd served

-- The entries of each desk in the one history are those that its worker's sessions were told.
told_each : {C S Y : Type 0} (log : List (ℕ × (ℕ × Entry))) (seats : List SeatNote) (workers : List (List (Run C S Y)))
    → All (λ s. own_in s.number log ≡ own_in s.number s.seen) seats
    → AllZip (λ (s : SeatNote) (runs : List (Run C S Y)). own_in s.number s.seen ≡ noted (told_in runs)) seats workers
    → AllZip (λ (n : ℕ) (runs : List (Run C S Y)). own_in n log ≡ noted (told_in runs)) (map (λ s. s.number) seats) workers
told_each log [] [] all own = tt
told_each log [] (w ∷ workers) all own = absurd own
told_each log (s ∷ seats) [] all own = absurd own
told_each log (s ∷ seats) (w ∷ workers) all own = (
  All-head (λ (t : SeatNote). own_in t.number log ≡ own_in t.number t.seen) s seats all ∙ own.0,
  told_each log seats workers (All-tail (λ (t : SeatNote). own_in t.number log ≡ own_in t.number t.seen) s seats all) own.1,
)

-- What the history with its cuts has as cut by each desk was cut in its worker's sessions.
cut_each : {C S Y : Type 0} (steps : List (ℕ × Step)) (seats : List SeatNote) (workers : List (List (Run C S Y)))
    → All (λ s. own_cuts s.number steps ≡ cuts_seen s) seats
    → AllZip (λ (s : SeatNote) (runs : List (Run C S Y)). HaveCut s runs) seats workers
    → AllZip (λ (n : ℕ) (runs : List (Run C S Y)). own_cuts n steps ≡ cuts_in runs) (map (λ s. s.number) seats) workers
cut_each steps [] [] all cut = tt
cut_each steps [] (w ∷ workers) all cut = absurd cut
cut_each steps (s ∷ seats) [] all cut = absurd cut
cut_each steps (s ∷ seats) (w ∷ workers) all cut = (
  All-head (λ (t : SeatNote). own_cuts t.number steps ≡ cuts_seen t) s seats all ∙ cut.0.0,
  cut_each steps seats workers (All-tail (λ (t : SeatNote). own_cuts t.number steps ≡ cuts_seen t) s seats all) cut.1,
)

sited_each : {C S Y : Type 0} (starts : List Opening) (seats : List SeatNote) (workers : List (List (Run C S Y))) → All (λ s. s.starts ≡ starts) seats
    → AllZip (λ (s : SeatNote) (runs : List (Run C S Y)). HaveCut s runs) seats workers
    → All (λ (runs : List (Run C S Y)). All (λ (r : Run C S Y). r.to.desk.seat.starts ≡ starts) runs) workers
sited_each {C} {S} {Y} starts [] [] all cut = All-nil (λ (runs : List (Run C S Y)). All (λ (r : Run C S Y). r.to.desk.seat.starts ≡ starts) runs)
sited_each starts [] (w ∷ workers) all cut = absurd cut
sited_each starts (s ∷ seats) [] all cut = absurd cut
sited_each {C} {S} {Y} starts (s ∷ seats) (w ∷ workers) all cut =
    All-cons (λ (runs : List (Run C S Y)). All (λ (r : Run C S Y). r.to.desk.seat.starts ≡ starts) runs) w workers
    (subst (λ (os : List Opening). All (λ (r : Run C S Y). r.to.desk.seat.starts ≡ os) w) (All-head (λ (t : SeatNote). t.starts ≡ starts) s seats all) cut.0.1)
    (sited_each starts seats workers (All-tail (λ (t : SeatNote). t.starts ≡ starts) s seats all) cut.1)

-- So the tickets that the one history has as given out to a desk that met no stray came back in it.
returned_each : {C S Y : Type 0} (log : List (ℕ × (ℕ × Entry))) (seats : List SeatNote) (workers : List (List (Run C S Y)))
    → AllZip (λ (n : ℕ) (runs : List (Run C S Y)). own_in n log ≡ noted (told_in runs)) (map (λ s. s.number) seats) workers
    → AllZip (λ (s : SeatNote) (runs : List (Run C S Y)). MetNoStray runs → HaveReturned (told_in runs)) seats workers
    → AllZip (λ (n : ℕ) (runs : List (Run C S Y)). MetNoStray runs → AreReturned (own_in n log)) (map (λ s. s.number) seats) workers
returned_each log [] [] told back = tt
returned_each log [] (w ∷ workers) told back = absurd back
returned_each log (s ∷ seats) [] told back = absurd back
returned_each log (s ∷ seats) (w ∷ workers) told back = (
  λ calm. subst AreReturned (sym told.0) (back.0 calm),
  returned_each log seats workers told.1 back.1,
)

-- So all entries of each balancer follow the one-thread rule, since the kept ones of its Book do.
legal_from : (starts : List Opening) (log : List (ℕ × (ℕ × Entry))) (books : List Journal) → IsSiteHistory starts log books → AreLegal books → AreLegalFrom starts log
legal_from starts log books history sound lb o at =
    elim (slice_get_cases books lb).1 [
      | inl found ↦ (whole_of o (entries_of lb log) found.0 (history.each lb o found.0 at found.2) (sound lb found.0 found.2)).legal
      | inr past ↦ absurd (omega (arith, past.0, history.count, slice_get_within starts lb o at))
    ]

one_list : {C S Y : Type 0} (lbs : List Lb) (at : ℕ) (seats : List SeatNote) (workers : List (List (Run C S Y))) (books : List Journal) → AreEnded lbs at seats books
    → AllZip (λ (s : SeatNote) (runs : List (Run C S Y)). own_in s.number s.seen ≡ noted (told_in runs)) seats workers
    → AllZip (λ (s : SeatNote) (runs : List (Run C S Y)). MetNoStray runs → HaveReturned (told_in runs)) seats workers
    → AllZip (λ (s : SeatNote) (runs : List (Run C S Y)). HaveCut s runs) seats workers → IsOneList lbs at workers books
one_list lbs at seats workers books ended own back cut = record {
  begun = ended.begun;
  starts = ended.starts;
  log = ended.closed.closed.log;
  history = ended.closed.closed.history;
  legal = legal_from _ ended.closed.closed.log books ended.closed.closed.history ended.sited.sound;
  numbers = map (λ s. s.number) seats;
  apart = ended.closed.closed.apart;
  told = told_each ended.closed.closed.log seats workers ended.closed.closed.own own;
  returned = returned_each ended.closed.closed.log seats workers (told_each ended.closed.closed.log seats workers ended.closed.closed.own own) back;
  no_other = ended.closed.no_other;
  steps = ended.closed.closed.steps;
  entries = ended.closed.closed.entries;
  cuts = cut_each ended.closed.closed.steps seats workers ended.closed.closed.cuts cut;
  sited = sited_each (starts_of ended.begun) seats workers ended.closed.closed.begun cut;
  journals = ended.closed.closed.journals;
}

-- The Books of a closing that took them.
first_ends : {C S O : Type 0} (lbs : List Lb) (at : ℕ) (seats : List SeatNote) (books : List Journal) (Kept : S → S → Type 0) (left back : List (GearSide C S O))
    → ((x y : S) → Kept x y → AreEnded lbs at seats books) → KeepsFirst Kept left back → AreEnded lbs at seats books
first_ends lbs at seats books Kept (first ∷ rest) (first' ∷ rest') say keeps = say first.shelf first'.shelf keeps.0
first_ends lbs at seats books Kept [] back say keeps = absurd keeps
first_ends lbs at seats books Kept (first ∷ rest) [] say keeps = absurd keeps

ends_with : {C S O L : Type 0} (shelved : S → Option (List (ℕ × Segment))) (faults : S → ℕ) (lbs : List Lb) (at : ℕ) (seats : List SeatNote) (books : List Journal) (left back : List (GearSide C S O)) (end : Closing L)
    → Closes shelved faults lbs at seats books left back end → HasBooks end → AreEnded lbs at seats books
ends_with shelved faults lbs at seats books left back closing.Kept closes has =
    first_ends lbs at seats books (Shelves shelved lbs at seats books) left back (λ x y kept. kept.1.0) closes
ends_with {S = S} shelved faults lbs at seats books left back closing.ShelfFault closes has =
    first_ends lbs at seats books (λ (old new : S). ShelvesFront shelved lbs at seats books old new × Rose (faults old) (faults new)) left back (λ x y kept. kept.0.0) closes
ends_with shelved faults lbs at seats books left back (closing.Differs d) closes has = closes.0.ended
ends_with shelved faults lbs at seats books left back closing.NoMemory closes has = absurd has

-- The headline.
pub headline_of : {C S O L X : Type 0} (visits : ℕ → Peer → Visit) (told : Ghosts C X) (of : WorkerTells S (Option (LogState O))) (format : List FormatPart) (shelved : S → Option (List (ℕ × Segment))) (faults : S → ℕ) (lbs : List Lb) (at : ℕ)
    (begun left back : List (GearSide C S O)) (seats : List SeatNote) (books : List Journal) (ends : List (WorkerEnd L)) (end : Closing L)
    → AreServedGears visits told of format 0 begun left seats ends → Closes shelved faults lbs at seats books left back end → IsHeadline visits told of lbs at ends end books
headline_of visits told of format shelved faults lbs at begun left back seats books ends end served closes =
    let all = have_served visits told of format 0 begun left seats ends served in
    record {
      workers = all.workers;
      each = all.each;
      sessions = all.sessions;
      strays = all.strays;
      journal = λ has. one_list lbs at seats all.workers books (ends_with shelved faults lbs at seats books left back end closes has) all.own all.back all.cut;
    }
