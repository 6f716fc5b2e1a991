-- A desk over a Site that is shared: its state, its shelf and its seat, and the same after each of its calls.
use Rattle.std.specs.Prelude.{◌≡◌, ℕ, suc, true, false, drop, slice_get, slice_index, slice_index_or, ◌+◌, ◌<◌, ◌≤◌, ◌⊎◌, ◌↔◌, List, [], ◌∷◌, length, Option, Some, None, IfErr, IfOk, IfSome, IsOk, IsSome, OnOk, Result, Ok, Err}
use Rattle.std.specs.List.{All}
use Rattle.jk_io.specs.Told.{Rose, appended}
use Rattle.lb_model.specs.Legal.{IsLegal}
use Rattle.lb_model.specs.Present.{IsPresent}
use Rattle.lb_model.specs.declared.journal.Outcome.{Outcome}
use Rattle.lb_model.specs.declared.opening.Opening.{Opening}
use Rattle.lb_model.specs.declared.refusal.AdminError.{AdminError}
use Rattle.lb_model.specs.declared.refusal.AdminError.TheVariants as admin
use Rattle.lb_model.specs.declared.refusal.RoomError.{RoomError}
use Rattle.lb_model.specs.declared.refusal.RoomError.TheVariants as room
use Rattle.lb_model.specs.declared.refusal.Stray.{Stray}
use Rattle.lb_model.specs.declared.segment.Segment.{Segment}
use Rattle.lb_book.specs.Desks.{DeskState, IsNotOut, KeepsDesk, LeaseNote, MeetsStray, RisesByOne, TakesBack, holds, is_pair, pair_of, without_last}
use Rattle.lb_book.specs.Journal.{IsSegmentOf, Journal, past_of}
use Rattle.lb_book.specs.ToldBooks.{IsFound}
use Rattle.lb_book.specs.declared.desk.Choice.{Choice}
use Rattle.lb_book.specs.declared.desk.Choice.TheVariants as choice
use Rattle.lb_book.specs.declared.receipt.Receipt.{Receipt}
use Rattle.lb_shared.specs.Histories.{DeskSees, GoesOn, MayCut, SeatNote, cuts_seen, gained_in}
use Rattle.lb_shared.specs.Notes.{MarkNote, StrayNote, ViewNote}
use Rattle.lb_shared.specs.Shelves.{AdmissionNote, ShelfNote, ShelvesOn, for_call}

-- A desk over a shared Site: what each desk tells, its shelf, how many receipts it forgot, for how many segments the
-- shelf wanted memory, the first stray that it met since the last was taken, and its seat at the lock.
pub record SharedState (S : Type 0) : Type 0 where
  pub desk : DeskState
  pub shelf : S
  pub forgotten : ℕ
  pub wants : ℕ
  pub met : Option StrayNote
  pub seat : SeatNote

-- The note of its shelf.
abbrev pub shelf_note : {S : Type 0} → (S → Option (List (ℕ × Segment))) → (S → ℕ) → SharedState S → ShelfNote
shelf_note shelved faults d = record {
  shelved = shelved d.shelf;
  faults = faults d.shelf;
  wants = d.wants;
  forgotten = d.forgotten;
  starts = d.seat.starts;
  cuts = cuts_seen d.seat;
}

-- A desk at a lock went on from here: its seat has seen the receipts that it got besides, and its shelf was only added to.
pub record GoesOnHere {B : Type 0} (state : B → DeskState) (seat : B → SeatNote) (shelf : B → ShelfNote) (old new : B) : Type 0 where
  pub gone : GoesOn (seat old) (state old).receipts (seat new) (state new).receipts
  pub shelved : ShelvesOn (shelf old) (shelf new)

-- what each desk tells of a stray, which doesn't name its balancer
abbrev pub stray_in : Option StrayNote → Option Stray
stray_in None = None
stray_in (Some note) = Some note.stray

-- This desk as each desk is told. The Books behind the lock aren't told.
abbrev pub shared_desk : (sizes : List ℕ) (parts : ℕ) → List Receipt → (held : List (ℕ × ℕ)) → (amount strays fulls wides : ℕ) → (met : Option Stray) → DeskState
shared_desk sizes parts receipts held amount strays fulls wides met = record {
  receipts = receipts;
  held = held;
  added = amount;
  caller = None;
  sizes = sizes;
  parts = Some parts;
  strays = strays;
  fulls = fulls;
  wides = wides;
  met = met;
  books = None;
}

-- The pair of the ticket that a choice of balancer lb made.
abbrev pub pairs_of : (lb : ℕ) → Choice LeaseNote → List (ℕ × ℕ)
pairs_of lb (choice.Chosen m lease) = (lb, lease.ticket) ∷ []
pairs_of lb choice.NoMember = []
pairs_of lb choice.Forced = []

-- A shelf failed: its count of faults rose, and that of the wants stands. `WantsOnce`: it wanted memory, the other way round.
abbrev pub FailsOnce : (faults faults' wants wants' : ℕ) → Type 0
FailsOnce faults faults' wants wants' = Rose faults faults' × (wants' ≡ wants)

abbrev pub WantsOnce : (faults faults' wants wants' : ℕ) → Type 0
WantsOnce faults faults' wants wants' = (faults' ≡ faults) × RisesByOne wants wants'

-- Where a segment that was cut went: it was kept, or the shelf failed, or it wanted memory, which is counted. Only the
-- count of what came to pass rises.
pub record IsPutAway {S : Type 0} (shelved : S → Option (List (ℕ × Segment))) (faults : S → ℕ) (old new : S) (wants wants' : ℕ) (cut : ℕ × Segment) : Type 0 where
  pub went : ((shelved new ≡ appended (shelved old) (cut ∷ [])) × (faults new ≡ faults old) × (wants' ≡ wants))
      ⊎ ((shelved new ≡ shelved old) × (FailsOnce (faults old) (faults new) wants wants' ⊎ WantsOnce (faults old) (faults new) wants wants'))
  pub no_fewer : faults old ≤ faults new
  pub no_less : wants ≤ wants'

abbrev pub PutsAway : {S : Type 0} → (S → Option (List (ℕ × Segment))) → (S → ℕ) → (old new : S) → (wants wants' : ℕ) → Option (ℕ × Segment) → Type 0
PutsAway shelved faults old new wants wants' None = (new ≡ old) × (wants' ≡ wants)
PutsAway shelved faults old new wants wants' (Some cut) = IsPutAway shelved faults old new wants wants' cut

-- The journal that a hold had at first: it was cut exactly where it had come to `cut_at` entries, and its segment is legal.
pub record CutsWhen (sizes : List ℕ) (cut_at lb : ℕ) (cut : Option (ℕ × Segment)) : Type 0 where
  pub before : Journal
  pub found : IsFound sizes None lb before
  pub when : IsSome cut ↔ ((0 < cut_at) × (cut_at ≤ length before.entries))
  pub whole : IfSome cut (λ s. IsSegmentOf before s.1)
  pub legal : IfSome cut (λ s. IsLegal s.1.rules s.1.opening s.1.entries)

-- The view is of balancer lb, with a row for each of its members: a journal of the balancer, as it is at present.
pub record IsViewOf (sizes : List ℕ) (lb : ℕ) (v : ViewNote) : Type 0 where
  pub of : v.lb ≡ lb
  pub rows : length v.view.rows ≡ slice_index sizes lb
  pub present : (b : Journal) × IsFound sizes None lb b × IsPresent b.rules b.opening (past_of b) v.view

-- As `CutsWhen`, or nothing was cut for want of memory.
abbrev pub CutsOrWants : (sizes : List ℕ) → (cut_at lb : ℕ) → Option (ℕ × Segment) → (Wanting : Type 0) → Type 0
CutsOrWants sizes cut_at lb cut Wanting = CutsWhen sizes cut_at lb cut ⊎ ((cut ≡ None) × Wanting)

-- The first entry that was added after these receipts, if one was, has the number that comes after the last one of the segment.
abbrev pub GoesOnFrom : Segment → (old new : List Receipt) → Type 0
GoesOnFrom s old new = (r : Receipt) → slice_get new (length old) ≡ Some r → r.entry.seq ≡ s.opening.next + length s.entries

-- The segment that a hold of balancer lb cut, if any: of this balancer, as `CutsOrWants` says, from which the receipts go on.
pub record CutsFor (sizes : List ℕ) (cut_at lb : ℕ) (cut : Option (ℕ × Segment)) (old new : List Receipt) (Wanting : Type 0) : Type 0 where
  pub of : IfSome cut (λ s. s.0 ≡ lb)
  pub when : CutsOrWants sizes cut_at lb cut Wanting
  pub next : IfSome cut (λ s. GoesOnFrom s.1 old new)

-- At most one segment of balancer lb was put away, which is the journal of its balancer in the history that the seat has then seen,
-- and no receipt was forgotten.
pub record PutsAwayOf {S : Type 0} (shelved : S → Option (List (ℕ × Segment))) (faults : S → ℕ) (sizes : List ℕ) (cut_at lb : ℕ) (old new : SharedState S) (Wanting : Type 0) : Type 0 where
  pub cut : Option (ℕ × Segment)
  pub of : IfSome cut (λ s. s.0 ≡ lb)
  pub when : CutsOrWants sizes cut_at lb cut Wanting
  pub next : IfSome cut (λ s. GoesOnFrom s.1 old.desk.receipts new.desk.receipts)
  pub put : PutsAway shelved faults old.shelf new.shelf old.wants new.wants cut
  pub told : MayCut old.seat new.seat cut
  pub starts : new.seat.starts ≡ old.seat.starts
  pub forgotten : new.forgotten ≡ old.forgotten

-- The place of the last copy of this pair, if there is one.
abbrev pub IsLastPlace : List (ℕ × ℕ) → ℕ × ℕ → Option ℕ → Type 0
IsLastPlace held pair None = holds held pair ≡ false
IsLastPlace held pair (Some i) = (i < length held) × (is_pair pair (slice_index_or held i (0, 0)) ≡ true) × (holds (drop (suc i) held) pair ≡ false)

-- Each pair's balancer is one of n.
abbrev pub AreKnown : (n : ℕ) → List (ℕ × ℕ) → Type 0
AreKnown n held = All (λ x. x.0 < n) held

-- The fields of a desk: its share counts its receipts and those that it forgot, and it has the room for the receipts of
-- the Returns to come. A share counts at most 2 to the 58th entries.
pub record IsShared (n : ℕ) (receipts : List Receipt) (held : List (ℕ × ℕ)) (parts amount forgotten room : ℕ) : Type 0 where
  pub part : 0 < parts
  pub counted : amount ≡ length receipts + forgotten
  pub few : amount ≤ 288230376151711744
  pub known : AreKnown n held
  pub roomy : length receipts + length held ≤ room

-- A Full is counted, and nothing else.
abbrev pub CountsFull : {T : Type 0} → (before now : ℕ) → Result T (RoomError MarkNote) → Type 0
CountsFull before now (Ok done) = now ≡ before
CountsFull before now (Err (room.Full mark)) = RisesByOne before now
CountsFull before now (Err room.NoMemory) = now ≡ before

-- A Full and a TooWide are counted, each by its own count, and nothing else.
abbrev pub CountsRefusal : {T : Type 0} → (fulls fulls' wides wides' : ℕ) → Result T (AdminError MarkNote) → Type 0
CountsRefusal fulls fulls' wides wides' (Ok done) = (fulls' ≡ fulls) × (wides' ≡ wides)
CountsRefusal fulls fulls' wides wides' (Err admin.UnknownMember) = (fulls' ≡ fulls) × (wides' ≡ wides)
CountsRefusal fulls fulls' wides wides' (Err admin.BadValue) = (fulls' ≡ fulls) × (wides' ≡ wides)
CountsRefusal fulls fulls' wides wides' (Err (admin.TooWide mark)) = (fulls' ≡ fulls) × RisesByOne wides wides'
CountsRefusal fulls fulls' wides wides' (Err (admin.Full mark)) = RisesByOne fulls fulls' × (wides' ≡ wides)
CountsRefusal fulls fulls' wides wides' (Err admin.NoMemory) = (fulls' ≡ fulls) × (wides' ≡ wides)

-- The first stray stays until it is taken.
abbrev pub first_met : Option StrayNote → StrayNote → Option StrayNote
first_met None stray = Some stray
first_met (Some before) stray = Some before

-- A session gave a lease back to the desk, which has an entry more exactly where it took it. Else it met a stray, and keeps the
-- first one. Its seat has seen the entry of a Return, and no other one of its own.
pub record HandsBack {S U : Type 0} (starts : List Opening) (old new : SharedState S) (session at : ℕ) (lease : LeaseNote) (outcome : Outcome) (done : Result U Stray) : Type 0 where
  pub ok : IfOk done (λ _. TakesBack old.desk new.desk session at lease outcome)
  pub err : IfErr done (λ stray. MeetsStray old.desk new.desk lease stray)
  pub held : new.desk.held ≡ without_last old.desk.held (pair_of lease)
  pub same : (new.desk.fulls ≡ old.desk.fulls) × (new.desk.wides ≡ old.desk.wides)
  pub kept : KeepsDesk old.desk new.desk
  pub counted : IsOk done ↔ (new.desk.added ≡ old.desk.added + 1)
  pub sees : DeskSees starts old.seat new.seat (gained_in old.desk.receipts new.desk.receipts)
  pub none_met : OnOk done (new.met ≡ old.met)
  pub met : IfErr done (λ stray. new.met ≡ first_met old.met (record { lb = lease.lb; stray = stray }))

-- The balancer is one of the Site's, and the shelf admitted what a call may add to it.
pub record MayCall (sizes : List ℕ) (lb : ℕ) (admission : AdmissionNote) : Type 0 where
  pub known : lb < length sizes
  pub admitted : admission ≡ for_call lb

-- The ticket of this lease came back to its balancer, and wasn't out.
pub record IsStrayOf (sizes : List ℕ) (lease : LeaseNote) (s : StrayNote) : Type 0 where
  pub of : (s.lb ≡ lease.lb) × (s.stray.ticket ≡ lease.ticket)
  pub why : IsNotOut sizes None lease s.stray
