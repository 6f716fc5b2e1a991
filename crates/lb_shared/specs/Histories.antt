-- The one history of a Site, and what a desk has seen of it. Read this with specs/Seats.antt.
use Rattle.std.specs.Prelude.{◌≡◌, ◌≢◌, ◌⊎◌, ℕ, ◌-◌, ◌==◌, ◌<◌, Bool, true, false, List, [], ◌∷◌, ◌++◌, length, map, reverse, drop, IfOk, Option, Some, None, Result, slice_get}
use Rattle.std.specs.List.{All, filter}
use Rattle.atomic_table.specs.Seated.{TableId}
use Rattle.atomic_table.specs.Table.{Me}
use Rattle.lb_model.specs.Limits.{modern_rules}
use Rattle.lb_model.specs.Present.{IsPresent}
use Rattle.lb_model.specs.declared.journal.Entry.{Entry}
use Rattle.lb_model.specs.declared.opening.Opening.{Opening}
use Rattle.lb_model.specs.declared.segment.Segment.{Segment}
use Rattle.lb_book.specs.Journal.{Journal}
use Rattle.lb_book.specs.declared.receipt.Receipt.{Receipt}
use Rattle.lb_shared.specs.Seats.{by_seat, seated}
use Rattle.lb_shared.specs.declared.view.Claim.{Claim}
use Rattle.lb_shared.specs.declared.view.View.{View}
use Rattle.lb_book.specs.Histories.{IsHistoryOf, LeadsTo}
use Rattle.lb_shared.specs.Notes.{ViewNote}
use Rattle.lb_shared.specs.Sites.{At}

-- A step of a Site: its balancer, and the entry that was added to it; None is a cut of its journal.
abbrev pub Step : Type 0
Step = ℕ × Option Entry

-- The steps of a hold: the cut, if there was one, and then the entries that were added.
abbrev pub cut_mark : (lb : ℕ) → (cut : Bool) → List Step
cut_mark lb true = (lb, None) ∷ []
cut_mark lb false = []

abbrev pub added_steps : List (ℕ × Entry) → List Step
added_steps entries = map (λ x. (x.0, Some x.1)) entries

-- The history has every step of the Site, in the order of the holds, each with the number of the desk that made it. These are
-- its entries alone, each with its desk and its balancer.
abbrev pub entered : (number lb : ℕ) → Option Entry → List (ℕ × (ℕ × Entry))
entered number lb None = []
entered number lb (Some e) = (number, (lb, e)) ∷ []

abbrev pub log_in : List (ℕ × Step) → List (ℕ × (ℕ × Entry))
log_in [] = []
log_in (x ∷ steps) = entered x.0 x.1.0 x.1.1 ++ log_in steps

-- These are the entries of balancer lb.
abbrev pub entries_of : (lb : ℕ) → List (ℕ × (ℕ × Entry)) → List Entry
entries_of lb log = map (λ x. x.1.1) (filter (λ x. x.1.0 == lb) log)

-- These Books are what the history made of balancers that began with these openings: each keeps the last entries of its
-- own, goes on from where those before them ended, and added as many as there are.
pub record IsSiteHistory (starts : List Opening) (log : List (ℕ × (ℕ × Entry))) (books : List Journal) : Type 0 where
  pub count : length books ≡ length starts
  pub each : (lb : ℕ) (o : Opening) (b : Journal) → slice_get starts lb ≡ Some o → slice_get books lb ≡ Some b
      → IsHistoryOf o (entries_of lb log) b
  pub added : (lb : ℕ) → At books lb (λ b. b.added ≡ length (entries_of lb log))
  pub known : All (λ x. x.1.0 < length starts) log

-- Of balancer lb, which began with the opening o, the journal that these steps leave has this opening and these entries: those that
-- were added since it was cut last, from the opening to which the entries before that cut lead.
pub record IsJournalAfter (o : Opening) (lb : ℕ) (steps : List (ℕ × Step)) (opening : Opening) (entries : List Entry) : Type 0 where
  pub before : List (ℕ × Step)
  pub since : List (ℕ × Step)
  pub whole : steps ≡ before ++ since
  pub last_cut : (before ≡ []) ⊎ ((n : ℕ) × (first : List (ℕ × Step)) × (before ≡ first ++ (n, (lb, None)) ∷ []))
  pub uncut : All (λ x. x.1 ≢ (lb, None)) since
  pub leads : LeadsTo o (entries_of lb (log_in before)) opening
  pub kept : entries ≡ entries_of lb (log_in since)

-- The segment is the journal that these steps leave of its balancer, at a Site whose balancers began with these openings.
pub record IsSegmentAfter (starts : List Opening) (steps : List (ℕ × Step)) (cut : ℕ × Segment) : Type 0 where
  pub rules : cut.1.rules ≡ modern_rules
  pub journal : (o : Opening) → slice_get starts cut.0 ≡ Some o → IsJournalAfter o cut.0 steps cut.1.opening cut.1.entries

-- Each Book has the journal that these steps leave of its balancer.
abbrev pub AreJournalsAfter : (starts : List Opening) → List (ℕ × Step) → List Journal → Type 0
AreJournalsAfter starts steps books =
    (lb : ℕ) (o : Opening) (b : Journal) → slice_get starts lb ≡ Some o → slice_get books lb ≡ Some b → IsJournalAfter o lb steps b.opening b.entries

-- These Books are what these steps made of balancers that began with these openings.
pub record IsMadeBy (starts : List Opening) (steps : List (ℕ × Step)) (books : List Journal) : Type 0 where
  pub history : IsSiteHistory starts (log_in steps) books
  pub journals : AreJournalsAfter starts steps books

-- The cuts among the steps of a history, each with the desk that made it and its balancer.
abbrev pub marked : (number lb : ℕ) → Option Entry → List (ℕ × ℕ)
marked number lb None = (number, lb) ∷ []
marked number lb (Some e) = []

abbrev pub all_cuts : List (ℕ × Step) → List (ℕ × ℕ)
all_cuts [] = []
all_cuts (x ∷ steps) = marked x.0 x.1.0 x.1.1 ++ all_cuts steps

-- Each cut by the desk of this number, after steps before: its balancer, and all steps before it.
abbrev pub cut_here : (own : Bool) → (lb : ℕ) → (before : List (ℕ × Step)) → Option Entry → List (ℕ × List (ℕ × Step))
cut_here true lb before None = (lb, before) ∷ []
cut_here true lb before (Some e) = []
cut_here false lb before e = []

abbrev pub cuts_from : (number : ℕ) → (before steps : List (ℕ × Step)) → List (ℕ × List (ℕ × Step))
cuts_from number before [] = []
cuts_from number before (x ∷ steps) = cut_here (x.0 == number) x.1.0 before x.1.1 ++ cuts_from number (before ++ x ∷ []) steps

abbrev pub own_cuts : (number : ℕ) → List (ℕ × Step) → List (ℕ × List (ℕ × Step))
own_cuts number steps = cuts_from number [] steps

-- The openings of Books.
abbrev pub starts_of : List Journal → List Opening
starts_of books = map (λ b. b.opening) books

-- The entries of the receipts that a hold added to those of a desk, each with its balancer.
abbrev pub noted : List Receipt → List (ℕ × Entry)
noted receipts = map (λ r. (r.lb, r.entry)) receipts

abbrev pub gained_in : (old new : List Receipt) → List (ℕ × Entry)
gained_in old new = noted (drop (length old) new)

-- The entries that the Book of a balancer keeps, and the last of them, as many as this.
abbrev pub entries_in : Option Journal → List Entry
entries_in None = []
entries_in (Some b) = b.entries

abbrev pub last_in : List Journal → (lb count : ℕ) → List (ℕ × Entry)
last_in books lb count =
    let kept = entries_in (slice_get books lb) in map (λ e. (lb, e)) (drop (length kept - count) kept)

-- The sight of a desk with this number, before a hold and after it: a history of the Site that begins with all that it
-- had seen, goes on with entries of other desks, and ends with those of this hold. So of this desk's entries the history
-- has just those that it was told, each once.
pub record SeesHold (starts : List Opening) (number : ℕ) (before after : List (ℕ × (ℕ × Entry))) (gained : List (ℕ × Entry)) : Type 0 where
  pub others : List (ℕ × (ℕ × Entry))
  pub foreign : All (λ x. x.0 ≢ number) others
  pub is : after ≡ (before ++ others) ++ by_seat number gained
  pub books : List Journal
  pub history : IsSiteHistory starts after books

-- The number of a seat, the steps that it has seen, and their entries.
abbrev pub first_claim : List (Claim Step) → Claim Step
first_claim [] = record { number = 0; seen = [] }
first_claim (c ∷ cs) = c

abbrev pub number_of : View Step → ℕ
number_of v = (first_claim v.claims).number

abbrev pub steps_of : View Step → List (ℕ × Step)
steps_of v = (first_claim v.claims).seen

abbrev pub seen_of : View Step → List (ℕ × (ℕ × Entry))
seen_of v = log_in (steps_of v)

-- The seat has one claim, and not the lock's value.
abbrev pub IsResting : {S : Type 0} → Me (Option S) (View Step) → Type 0
IsResting me = me ≡ (seated false (number_of me.0) (steps_of me.0), [])

-- A hold of the lock by this seat.
pub record SeatSees {S : Type 0} (starts : List Opening) (old new : Me (Option S) (View Step)) (gained : List (ℕ × Entry)) : Type 0 where
  pub rests : IsResting new
  pub number : number_of new.0 ≡ number_of old.0
  pub sees : SeesHold starts (number_of old.0) (seen_of old.0) (seen_of new.0) gained

-- The note of a desk's seat: at which lock it is, with the openings with which the balancers behind it began; its number, the
-- entries of the history that it has seen, and all steps of it.
pub record SeatNote : Type 0 where
  pub lock : TableId
  pub starts : List Opening
  pub number : ℕ
  pub seen : List (ℕ × (ℕ × Entry))
  pub steps : List (ℕ × Step)

abbrev pub no_seat : SeatNote
no_seat = record {
  lock = record { words = 0; slots = 0; views_name = 0; atom = 0; block = 0; offset = 0; slot_names = [] };
  starts = [];
  number = 0;
  seen = [];
  steps = [];
}

abbrev pub seat_note : {S : Type 0} → List Opening → TableId → Me (Option S) (View Step) → SeatNote
seat_note starts lock me = record { lock = lock; starts = starts; number = number_of me.0; seen = seen_of me.0; steps = steps_of me.0 }

-- The cuts that the desk with this seat has seen as its own.
abbrev pub cuts_seen : SeatNote → List (ℕ × List (ℕ × Step))
cuts_seen s = own_cuts s.number s.steps

-- In a hold by the desk with this seat the journal that its history then left of the segment's balancer was cut, and this is its
-- segment; or nothing was cut.
pub record CutsHere (old new : SeatNote) (cut : ℕ × Segment) : Type 0 where
  pub before : List (ℕ × Step)
  pub told : cuts_seen new ≡ cuts_seen old ++ (cut.0, before) ∷ []
  pub is : IsSegmentAfter new.starts before cut

abbrev pub MayCut : (old new : SeatNote) → Option (ℕ × Segment) → Type 0
MayCut old new None = cuts_seen new ≡ cuts_seen old
MayCut old new (Some cut) = CutsHere old new cut

-- A hold by the desk with this seat, which keeps its lock and its number.
pub record DeskSees (starts : List Opening) (old new : SeatNote) (gained : List (ℕ × Entry)) : Type 0 where
  pub lock : new.lock ≡ old.lock
  pub number : new.number ≡ old.number
  pub sees : SeesHold starts old.number old.seen new.seen gained

-- A hold by the desk; or none was made, and there is this reason.
abbrev pub DeskMaySee : List Opening → (old new : SeatNote) → (gained : List (ℕ × Entry)) → (Wanting : Type 0) → Type 0
DeskMaySee starts old new gained Wanting = DeskSees starts old new gained ⊎ ((new ≡ old) × (gained ≡ []) × Wanting)

-- The entries that the desk of this number added, in their order, each with its balancer.
abbrev pub own_in : (number : ℕ) → List (ℕ × (ℕ × Entry)) → List (ℕ × Entry)
own_in number log = map (λ x. x.1) (filter (λ x. x.0 == number) log)

-- How many entries the desk with this seat has seen as its own.
abbrev pub own_count : SeatNote → ℕ
own_count s = length (own_in s.number s.seen)

-- How many cuts the desk with this seat has seen as its own.
abbrev pub cut_count : SeatNote → ℕ
cut_count s = length (cuts_seen s)

-- No number stands in the list twice.
abbrev pub AreDistinct : List ℕ → Type 0
AreDistinct [] = Unit {0}
AreDistinct (n ∷ ns) = All (λ m. m ≢ n) ns × AreDistinct ns

-- One history of the Site made its Books what they are, and has left of each balancer the journal that its Book keeps. Of each
-- desk with one of these seats it has just the entries and the cuts that the desk has seen as its own, in their order. No two of
-- these desks have one number.
pub record IsClosed (starts : List Opening) (seats : List SeatNote) (books : List Journal) : Type 0 where
  pub steps : List (ℕ × Step)
  pub journals : AreJournalsAfter starts steps books
  pub begun : All (λ s. s.starts ≡ starts) seats
  pub cuts : All (λ s. own_cuts s.number steps ≡ cuts_seen s) seats
  pub log : List (ℕ × (ℕ × Entry))
  pub entries : log ≡ log_in steps
  pub history : IsSiteHistory starts log books
  pub own : All (λ s. own_in s.number log ≡ own_in s.number s.seen) seats
  pub apart : AreDistinct (map (λ s. s.number) seats)

-- As `IsClosed`, and the history has so many cuts.
pub record IsClosedAfter (starts : List Opening) (seats : List SeatNote) (count : ℕ) (books : List Journal) : Type 0 where
  pub closed : IsClosed starts seats books
  pub counted : length (all_cuts closed.steps) ≡ count

-- The view is that of balancer lb after this history of the Site.
abbrev pub IsPresentOf : List Opening → (log : List (ℕ × (ℕ × Entry))) → (lb : ℕ) → ViewNote → Type 0
IsPresentOf starts log lb v = (o : Opening) → slice_get starts lb ≡ Some o → IsPresent modern_rules o (reverse (entries_of lb log)) v.view

-- A look at balancer lb by the desk with this seat: what it has seen then has no new entry and no new cut of its own, and the view
-- is the balancer after it.
pub record LooksAt {E : Type 0} (starts : List Opening) (old new : SeatNote) (lb : ℕ) (shown : Result ViewNote E) : Type 0 where
  pub sees : DeskSees starts old new []
  pub marks : cuts_seen new ≡ cuts_seen old
  pub begun : new.starts ≡ old.starts
  pub whole : IfOk shown (IsPresentOf starts new.seen lb)

-- A desk since it had this seat and these receipts: it is at the same lock under the same number. Its receipts were
-- only added to, and of its own entries it has seen just those of the added ones besides, in their order.
pub record HasGone (seat : SeatNote) (receipts : List Receipt) (now : SeatNote) (receipts' : List Receipt) : Type 0 where
  pub lock : now.lock ≡ seat.lock
  pub number : now.number ≡ seat.number
  pub grown : receipts' ≡ receipts ++ drop (length receipts) receipts'
  pub own : own_in seat.number now.seen ≡ own_in seat.number seat.seen ++ gained_in receipts receipts'

-- A desk went on from here: whatever it had done since an earlier moment, it has done until now too.
abbrev pub GoesOn : (old : SeatNote) → (receipts : List Receipt) → (new : SeatNote) → (receipts' : List Receipt) → Type 0
GoesOn old receipts new receipts' = (since : SeatNote) (first : List Receipt) → HasGone since first old receipts → HasGone since first new receipts'
