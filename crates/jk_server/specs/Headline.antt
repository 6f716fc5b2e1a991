-- The headline of a run: one list of entries of the balancers, and a session for each client. Read this first.
--
-- Of the run there is one list of entries. Those of each balancer, all of them, follow the one-thread rule from where the
-- configuration has it start, and they end in the present state of its Book, of which the last segment went to the shelf. The
-- sessions of each worker were told exactly the entries of its own desk in it, in order, each once; and each entry of the list was
-- told to a session of one worker. Of each worker that met no stray, each ticket that a Select gave out came back by a later
-- Return in the list.
-- Each client was served by one session, of which `IsRun` says what its requests were, what the desk, the talks and the client
-- have of them, and why it ended.
use Rattle.std.specs.Prelude.{ℕ, ◌≡◌, ◌+◌, List, [], ◌∷◌, ◌++◌, drop, length, map, Some, slice_get}
use Rattle.std.specs.List.{All, AllZip, Contains, flat_map}
use Rattle.jk_io.specs.declared.traits.streams.Meanings.{Ghosts}
use Rattle.jk_io.specs.declared.traits.surroundings.Peer.{Peer}
use Rattle.lb_model.specs.Legal.{IsLegal}
use Rattle.lb_model.specs.Limits.{modern_rules}
use Rattle.lb_model.specs.declared.journal.Entry.{Entry}
use Rattle.lb_model.specs.declared.opening.Opening.{Opening}
use Rattle.lb_book.specs.Journal.{Journal}
use Rattle.lb_book.specs.Returned.{AreReturned}
use Rattle.lb_book.specs.declared.receipt.Receipt.{Receipt}
use Rattle.client_session.specs.Requests.{Visit}
use Rattle.client_session.specs.declared.ending.SessionStop.TheVariants as stop
use Rattle.exchange.specs.Requests.{sizes_of}
use Rattle.lb_shared.specs.Histories.{AreDistinct, AreJournalsAfter, IsSiteHistory, SeatNote, Step, cuts_seen, entries_of, log_in, noted, own_cuts, own_in, starts_of}
use Rattle.lb_shared.specs.Sites.{AreSited}
use Rattle.site_reports.specs.Starts.{AreStarts}
use Rattle.lb_closing.specs.OneHistory.{IsOneHistory}
use Rattle.site_config.specs.declared.balancer.Lb.{Lb}
use Rattle.jk_server.specs.Awaits.{unheard}
use Rattle.jk_server.specs.Served.{IsRun, IsStray, Run}
use Rattle.jk_server.specs.Worker.{WorkerTells}
use Rattle.jk_server.specs.declared.part.WorkerEnd.{WorkerEnd}
use Rattle.jk_server.specs.declared.part.WorkerEnd.TheVariants as worker
use Rattle.jk_server.specs.declared.runs.ends.Closing.{Closing}
use Rattle.jk_server.specs.declared.runs.ends.Closing.TheVariants as closing

-- The entries that a worker's sessions were told: the receipts of each, in the order of the sessions. A session begins with none.
abbrev pub told_in : {C S Y : Type 0} → List (Run C S Y) → List Receipt
told_in runs = flat_map (λ r. r.to.desk.desk.receipts) runs

-- The cuts that the desk made in a session, and in all sessions of a worker, in order: of each its balancer, and all steps before it.
abbrev pub cuts_made : {C S Y : Type 0} → Run C S Y → List (ℕ × List (ℕ × Step))
cuts_made r = drop (length (cuts_seen r.from.desk.seat)) (cuts_seen r.to.desk.seat)

abbrev pub cuts_in : {C S Y : Type 0} → List (Run C S Y) → List (ℕ × List (ℕ × Step))
cuts_in runs = flat_map cuts_made runs

-- This seat has seen as its desk's own just the cuts of these sessions, in which the desk was at the same Site.
abbrev pub HaveCut : {C S Y : Type 0} → SeatNote → List (Run C S Y) → Type 0
HaveCut seat runs = (cuts_seen seat ≡ cuts_in runs) × All (λ r. r.to.desk.seat.starts ≡ seat.starts) runs

-- none of these sessions ended by a stray
abbrev pub MetNoStray : {C S Y : Type 0} → List (Run C S Y) → Type 0
MetNoStray runs = All (λ r. IsStray r.end.stop → ⊥) runs

-- All entries of each balancer follow the one-thread rule from its opening on, also those that were cut from its Book since.
abbrev pub AreLegalFrom : List Opening → (log : List (ℕ × (ℕ × Entry))) → Type 0
AreLegalFrom starts log = (lb : ℕ) (o : Opening) → slice_get starts lb ≡ Some o → IsLegal modern_rules o (entries_of lb log)

-- One list of entries, each with the number of the desk that added it and with its balancer, made these Books what they are.
-- The balancers began with number 0 at the moment `at`. Each worker had a desk of another number, and of that number the list
-- has exactly what the worker's sessions were told, in order.
-- Unless a session of the worker ended by a stray, each ticket that a Select of that number gave out came back by a later Return.
-- `steps` is the list with the cuts of journals between its entries. It has no other steps: each has the number of one of these
-- desks. Each desk's cuts in it are just those of its worker's sessions, of
-- which `IsRun` says that the shelf was given their segments: each is the journal that the steps before its cut left of its balancer.
-- What all steps left of each balancer is what its Book keeps.
pub record IsOneList {C S Y : Type 0} (lbs : List Lb) (at : ℕ) (workers : List (List (Run C S Y))) (books : List Journal) : Type 0 where
  pub begun : List Journal
  pub starts : AreStarts lbs at 0 begun
  pub log : List (ℕ × (ℕ × Entry))
  pub history : IsSiteHistory (starts_of begun) log books
  pub legal : AreLegalFrom (starts_of begun) log
  pub numbers : List ℕ
  pub apart : AreDistinct numbers
  pub told : AllZip (λ number runs. own_in number log ≡ noted (told_in runs)) numbers workers
  pub returned : AllZip (λ number runs. MetNoStray runs → AreReturned (own_in number log)) numbers workers
  pub steps : List (ℕ × Step)
  pub entries : log ≡ log_in steps
  pub no_other : All (λ x. Contains numbers x.0) steps
  pub cuts : AllZip (λ number runs. own_cuts number steps ≡ cuts_in runs) numbers workers
  pub sited : All (λ runs. All (λ r. r.to.desk.seat.starts ≡ starts_of begun) runs) workers
  pub journals : AreJournalsAfter (starts_of begun) steps books

-- Each client of these workers was served by a session of the worker's number.
abbrev pub AreSessions : {C S Y X : Type 0} → (ℕ → Peer → Visit) → Ghosts C X → WorkerTells S Y → (number : ℕ) → List (List (Run C S Y)) → Type 0
AreSessions visits told of number [] = Unit {0}
AreSessions visits told of number (runs ∷ workers) = All (IsRun (visits number) (unheard told) of) runs × AreSessions visits told of (number + 1) workers

-- A worker that ended by a stray names the one by which its last session ended.
abbrev pub NamesItsStray : {C S Y L : Type 0} → List (Run C S Y) → WorkerEnd L → Type 0
NamesItsStray runs (worker.Closed sessions) = Unit {0}
NamesItsStray runs worker.DoorFault = Unit {0}
NamesItsStray runs worker.ShelfFault = Unit {0}
NamesItsStray runs worker.LogFault = Unit {0}
NamesItsStray {C} {S} {Y} runs (worker.Stray note) =
    (before : List (Run C S Y)) × (last : Run C S Y) × (runs ≡ before ++ last ∷ [])
    × (last.end.stop ≡ stop.Stray note.stray.ticket note.stray.returned_at)
NamesItsStray runs worker.NoMemory = Unit {0}

-- The closing took the Books from behind their lock.
abbrev pub HasBooks : {L : Type 0} → Closing L → Type 0
HasBooks closing.Kept = Unit {0}
HasBooks closing.ShelfFault = Unit {0}
HasBooks (closing.Differs d) = Unit {0}
HasBooks closing.NoMemory = ⊥

-- The headline: the sessions of each worker, in order, with the stray that a worker's end names, and the one list that tells the
-- same as they were told, from the moment `at` on, and made the Books that the closing took what they are.
pub record IsHeadline {C S Y L X : Type 0} (visits : ℕ → Peer → Visit) (told : Ghosts C X) (of : WorkerTells S Y) (lbs : List Lb) (at : ℕ) (ends : List (WorkerEnd L)) (closing : Closing L) (books : List Journal) : Type 0 where
  pub workers : List (List (Run C S Y))
  pub each : length workers ≡ length ends
  pub sessions : AreSessions visits told of 0 workers
  pub strays : AllZip NamesItsStray workers ends
  pub journal : HasBooks closing → IsOneList lbs at workers books

-- ---- by the seats that the desks left

-- each balancer's first number, which is 0
abbrev pub firsts_of : List Lb → List ℕ
firsts_of lbs = map (λ lb. 0) lbs

-- These are the Books of the balancers of a configuration, which began at this moment, at the end of a run whose workers had desks
-- at these seats. One history made the Books what they are; it has of each desk just the entries and the cuts that the desk has seen
-- as its own, and no others.
pub record AreEnded (lbs : List Lb) (at : ℕ) (seats : List SeatNote) (books : List Journal) : Type 0 where
  pub sited : AreSited (sizes_of lbs) (firsts_of lbs) books
  pub begun : List Journal
  pub starts : AreStarts lbs at 0 begun
  pub closed : IsOneHistory (starts_of begun) seats books
