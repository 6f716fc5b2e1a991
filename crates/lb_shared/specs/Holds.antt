-- One hold of the lock: a Maintain if due, and then a call, on one Book.
use Rattle.std.specs.Prelude.{◌≡◌, ℕ, suc, ◌+◌, ◌-◌, ◌<◌, ◌≤◌, ◌⊎◌, Bool, true, false, List, [], ◌∷◌, ◌++◌, length, sum_by, Option, Some, None, Result, Ok, Err, slice_get, slice_index, slice_set, vec_capacity, is_some}
use Rattle.std.specs.List.{All}
use Rattle.lb_model.specs.Free.{is_in}
use Rattle.lb_model.specs.Legal.{HasValues}
use Rattle.lb_model.specs.Limits.{most_numbers}
use Rattle.lb_model.specs.declared.ask.Ask.{Ask}
use Rattle.lb_model.specs.declared.change.Command.{Command}
use Rattle.lb_model.specs.declared.journal.Answer.{Answer}
use Rattle.lb_model.specs.declared.journal.Answer.TheVariants as answer
use Rattle.lb_model.specs.declared.journal.Call.TheVariants as call
use Rattle.lb_model.specs.declared.journal.Entry.{Entry}
use Rattle.lb_model.specs.declared.journal.How.{How}
use Rattle.lb_model.specs.declared.journal.Outcome.{Outcome}
use Rattle.lb_model.specs.declared.opening.Opening.{Opening}
use Rattle.lb_model.specs.declared.refusal.AdminError.{AdminError}
use Rattle.lb_model.specs.declared.refusal.AdminError.TheVariants as admin
use Rattle.lb_model.specs.declared.refusal.RoomError.{RoomError}
use Rattle.lb_model.specs.declared.refusal.RoomError.TheVariants as room
use Rattle.lb_model.specs.declared.segment.Segment.{Segment}
use Rattle.lb_book.specs.Commanded.{IsKnown}
use Rattle.lb_book.specs.Desks.{IsAskRefusal, IsCommandRefusal, IsDue, IsMaintained, IsOwn, LeaseNote}
use Rattle.lb_book.specs.Journal.{Journal, tickets_out}
use Rattle.lb_book.specs.ToldBooks.{AreNextAt, grown_by}
use Rattle.lb_book.specs.declared.desk.Choice.{Choice}
use Rattle.lb_book.specs.declared.desk.Choice.TheVariants as choice
use Rattle.lb_book.specs.declared.desk.Occasion.{Occasion}
use Rattle.lb_book.specs.declared.receipt.Receipt.{Receipt}
use Rattle.lb_shared.specs.Histories.{IsMadeBy, Step, added_steps, all_cuts, cut_mark, last_in}
use Rattle.lb_shared.specs.Notes.{MarkNote}
use Rattle.lb_shared.specs.Shelves.{CutsAt}
use Rattle.lb_shared.specs.Sites.{AreSited, At}
use Rattle.lb_shared.specs.declared.account.Account.{Account}
use Rattle.lb_shared.specs.declared.locked.HandedBack.{HandedBack}
use Rattle.lb_shared.specs.declared.site.TheConstants.{MOST_ENTRIES}
use Rattle.lb_shared.specs.declared.site.MarkKind.{MarkKind}
use Rattle.lb_shared.specs.declared.site.MarkKind.TheVariants as refusal

-- How many tickets may be out in a Book at a time.
abbrev pub pools_of : Journal → ℕ
pools_of b = sum_by (λ c. c.pool) b.opening.config.members

-- The value behind the lock: the Books, how often a journal was cut, the number of kept entries at which one is, where 0 is never,
-- and the balancer of the last hold, with whether it cut that journal and how many entries it added.
pub record LockedState : Type 0 where
  pub books : List Journal
  pub cuts : ℕ
  pub cut_at : ℕ
  pub lb : ℕ
  pub cut : Bool
  pub count : ℕ

-- The steps of the last hold.
abbrev pub last_steps : LockedState → List Step
last_steps l = cut_mark l.lb l.cut ++ added_steps (last_in l.books l.lb l.count)

-- The value is what these steps made of balancers that began with these openings, and has counted their cuts.
abbrev pub IsToldBy : (starts : List Opening) → List (ℕ × Step) → LockedState → Type 0
IsToldBy starts steps l = IsMadeBy starts steps l.books × (l.cuts ≡ length (all_cuts steps))

-- A count of cuts, after a hold that cut or not.
abbrev pub with_cut : (cut : Bool) → (count : ℕ) → ℕ
with_cut true count = suc count
with_cut false count = count

-- Where journals are cut, none is much longer than the length at which it is cut.
abbrev pub AreShort : (cut_at : ℕ) → List Journal → Type 0
AreShort cut_at books =
    0 < cut_at → (lb : ℕ) → At books lb (λ b. length b.entries + tickets_out b ≤ cut_at + 1 + pools_of b)

-- The state that a hold changes: the Books, the receipts of the desk that has the lock, and the amount of its share.
pub record HeldState : Type 0 where
  pub books : List Journal
  pub receipts : List Receipt
  pub amount : ℕ

abbrev pub held : List Journal → List Receipt → (amount : ℕ) → HeldState
held books receipts amount = record { books = books; receipts = receipts; amount = amount }

abbrev pub held_by : {L : Type 0} → List Journal → Account L → HeldState
held_by books account = held books account.receipts.items account.share.amount

abbrev pub hold_of : {L : Type 0} → LockedState → Account L → HeldState
hold_of locked account = held_by locked.books account

-- An account keeps its part of the ledger and its room for receipts, and counts no cut.
pub record KeepsAccount {L : Type 0} (old new : Account L) : Type 0 where
  pub parts : new.share.parts ≡ old.share.parts
  pub room : vec_capacity old.receipts ≤ vec_capacity new.receipts
  pub cuts : new.cuts ≡ old.cuts

-- The value behind the lock tells of balancer lb, and of as many entries as this account got receipts for; and of this cut, which
-- it has counted.
abbrev pub TellsAdded : {L : Type 0} → (lb : ℕ) → LockedState → (old new : Account L) → Type 0
TellsAdded lb told old new = (told.lb ≡ lb) × (told.count ≡ length new.receipts.items - length old.receipts.items)

abbrev pub TellsNews : {L : Type 0} → (lb : ℕ) → Option (ℕ × Segment) → (was told : LockedState) → (old new : Account L) → Type 0
TellsNews lb cut was told old new =
    (told.lb ≡ lb) × (told.count ≡ length new.receipts.items - length old.receipts.items) × (told.cut ≡ is_some cut)
    × (told.cuts ≡ with_cut (is_some cut) was.cuts)

-- A hold of balancer lb is over: the value behind the lock tells of it. The account keeps its part of the ledger and its room for
-- receipts; it counts this cut, and few entries.
pub record EndsHold {L : Type 0} (lb : ℕ) (cut : Option (ℕ × Segment)) (was told : LockedState) (old new : Account L) : Type 0 where
  pub news : TellsNews lb cut was told old new
  pub parts : new.share.parts ≡ old.share.parts
  pub room : vec_capacity old.receipts ≤ vec_capacity new.receipts
  pub counted : new.cuts.amount ≡ with_cut (is_some cut) old.cuts.amount
  pub few : new.share.amount ≤ MOST_ENTRIES

-- A receipt, if there is one, as a list.
abbrev pub listed : Option Receipt → List Receipt
listed None = []
listed (Some r) = r ∷ []

-- The call of a session at a moment added just the entries of these receipts, to the Book of balancer lb.
pub record HoldGains (old new : HeldState) (lb session at : ℕ) (gained : List Receipt) : Type 0 where
  pub book : Journal
  pub found : slice_get old.books lb ≡ Some book
  pub grown : new.books ≡ slice_set old.books lb (grown_by book gained)
  pub next : AreNextAt book at gained
  pub receipts : new.receipts ≡ old.receipts ++ gained
  pub own : All (IsOwn lb session at) gained
  pub amount : new.amount ≡ old.amount + length gained

-- A Maintain or nothing, as `Account` says of the journal that was found; or nothing for want of memory.
pub record HoldGainsDue (old new : HeldState) (lb session at : ℕ) (Wanting : Type 0) (Account : Journal → List Receipt → Type 0) : Type 0 where
  pub due : List Receipt
  pub is_due : IsDue due
  pub gains : HoldGains old new lb session at due
  pub why : Account gains.book due ⊎ ((due ≡ []) × Wanting)

-- A hold that refused an ask, or the Maintain before it.
abbrev pub HoldDenies : (old new : HeldState) → (lb session at : ℕ) → RoomError MarkNote → Type 0
HoldDenies old new lb session at error =
    HoldGainsDue old new lb session at (error ≡ room.NoMemory) (IsAskRefusal (λ mark. mark.numbers) at error)

-- A hold that refused a command, or the Maintain before it.
abbrev pub HoldRefuses : (old new : HeldState) → (lb session at : ℕ) → Command → AdminError MarkNote → Type 0
HoldRefuses old new lb session at command error =
    HoldGainsDue old new lb session at (error ≡ admin.NoMemory) (IsCommandRefusal (λ mark. mark.numbers) at command error)

-- A Maintain exactly where one was due.
pub record HoldMaintains (old new : HeldState) (lb session at : ℕ) : Type 0 where
  pub due : List Receipt
  pub is_due : IsDue due
  pub gains : HoldGains old new lb session at due
  pub maintained : IsMaintained gains.book at due

-- As `HoldMaintains`, and then the entry of this receipt.
pub record HoldGainsLast (old new : HeldState) (lb session at : ℕ) (last : Receipt) : Type 0 where
  pub due : List Receipt
  pub is_due : IsDue due
  pub gains : HoldGains old new lb session at (due ++ last ∷ [])
  pub maintained : IsMaintained gains.book at due

-- The choice that an answer of balancer lb says.
abbrev pub IsSiteChoice : (lb : ℕ) → Answer → Choice LeaseNote → Type 0
IsSiteChoice lb (answer.Chosen m t how probe) c = c ≡ choice.Chosen m (record { lb = lb; member = m; ticket = t })
IsSiteChoice lb answer.NoMember c = c ≡ choice.NoMember
IsSiteChoice lb answer.Forced c = c ≡ choice.Forced
IsSiteChoice lb answer.Done c = ⊥

-- The choice is what the entry says; a member that was tried is chosen by none.
abbrev pub IsHoldChoice : (sizes : List ℕ) (lb : ℕ) → Ask → Entry → Choice LeaseNote → Type 0
IsHoldChoice sizes lb ask e (choice.Chosen m lease) =
    (how : How) × (probe : Bool) × (e.answer ≡ answer.Chosen m e.seq how probe)
    × (lease ≡ record { lb = lb; member = m; ticket = e.seq }) × (m < slice_index sizes lb) × (is_in ask.tried m ≡ false)
IsHoldChoice sizes lb ask e choice.NoMember = e.answer ≡ answer.NoMember
IsHoldChoice sizes lb ask e choice.Forced = e.answer ≡ answer.Forced

-- A hold that chose: its last entry is the Select of this ask.
pub record HoldChooses (sizes : List ℕ) (old new : HeldState) (lb session at : ℕ) (ask : Ask) (c : Choice LeaseNote) : Type 0 where
  pub last : Receipt
  pub gains : HoldGainsLast old new lb session at last
  pub asked : last.entry.call ≡ call.Select ask
  pub answered : IsHoldChoice sizes lb ask last.entry c

-- A hold that did a command: its last entry is that of the command.
pub record HoldCommands (sizes : List ℕ) (old new : HeldState) (lb session at : ℕ) (command : Command) : Type 0 where
  pub last : Receipt
  pub gains : HoldGainsLast old new lb session at last
  pub commanded : last.entry.call ≡ call.Admin command
  pub done : last.entry.answer ≡ answer.Done
  pub named : IsKnown (slice_index sizes lb) command
  pub values : HasValues command

-- The journal of balancer lb was cut before, where there is a segment.
abbrev pub CutsFirst : (old mid : List Journal) (lb : ℕ) → Option (ℕ × Segment) → Type 0
CutsFirst old mid lb None = mid ≡ old
CutsFirst old mid lb (Some segment) = CutsAt old mid lb segment

-- A hold that took a lease back: its one entry is the Return of the ticket.
abbrev pub HoldReturns : (old new : HeldState) → (session at : ℕ) → LeaseNote → Outcome → Type 0
HoldReturns old new session at lease outcome =
    (r : Receipt) × (r.entry.call ≡ call.Return lease.ticket outcome) × HoldGains old new lease.lb session at (r ∷ [])

-- A hold cut if due, and then it chose, refused the ask, did the command or refused it. `mid` has the Books of the Site
-- between the two.
abbrev pub CutChooses : (sizes firsts : List ℕ) → Option (ℕ × Segment) → (old new : HeldState) → Occasion → Ask → Choice LeaseNote → Type 0
CutChooses sizes firsts cut old new on ask c =
    (mid : List Journal) × CutsFirst old.books mid on.lb cut × AreSited sizes firsts mid
    × HoldChooses sizes (held mid old.receipts old.amount) new on.lb on.session on.at ask c

abbrev pub CutDenies : (sizes firsts : List ℕ) → Option (ℕ × Segment) → (old new : HeldState) → Occasion → RoomError MarkNote → Type 0
CutDenies sizes firsts cut old new on e =
    (mid : List Journal) × CutsFirst old.books mid on.lb cut × AreSited sizes firsts mid
    × HoldDenies (held mid old.receipts old.amount) new on.lb on.session on.at e

abbrev pub CutCommands : (sizes firsts : List ℕ) → Option (ℕ × Segment) → (old new : HeldState) → Occasion → Command → Type 0
CutCommands sizes firsts cut old new on command =
    (mid : List Journal) × CutsFirst old.books mid on.lb cut × AreSited sizes firsts mid
    × HoldCommands sizes (held mid old.receipts old.amount) new on.lb on.session on.at command

abbrev pub CutRefuses : (sizes firsts : List ℕ) → Option (ℕ × Segment) → (old new : HeldState) → Occasion → Command → AdminError MarkNote → Type 0
CutRefuses sizes firsts cut old new on command e =
    (mid : List Journal) × CutsFirst old.books mid on.lb cut × AreSited sizes firsts mid
    × HoldRefuses (held mid old.receipts old.amount) new on.lb on.session on.at command e

-- The segment that was cut, where there was memory for it.
abbrev pub cut_in : {E : Type 0} → Result (Option (ℕ × Segment)) E → Option (ℕ × Segment)
cut_in (Ok cut) = cut
cut_in (Err e) = None

-- A hold cut if due, and then it took a lease back, or it met a stray, and changed nothing else.
abbrev pub CutReturns : (sizes firsts : List ℕ) → Option (ℕ × Segment) → (old new : HeldState) → (session at : ℕ) → LeaseNote → Outcome → Type 0
CutReturns sizes firsts cut old new session at lease outcome =
    (mid : List Journal) × CutsFirst old.books mid lease.lb cut × AreSited sizes firsts mid
    × HoldReturns (held mid old.receipts old.amount) new session at lease outcome

abbrev pub CutTakesBack : {L : Type 0} → (sizes firsts : List ℕ) → Option (ℕ × Segment) → (old new : HeldState) → HandedBack L → Type 0
CutTakesBack sizes firsts cut old new back = CutReturns sizes firsts cut old new back.session back.at back.lease back.outcome

abbrev pub CutMeets : (sizes firsts : List ℕ) → Option (ℕ × Segment) → (old new : HeldState) → (lb : ℕ) → Type 0
CutMeets sizes firsts cut old new lb =
    (mid : List Journal) × CutsFirst old.books mid lb cut × AreSited sizes firsts mid × (new ≡ held mid old.receipts old.amount)

-- A mark of this refusal of balancer lb; that of a Full has the numbers of a Book with fewer than `more` left.
pub record IsMark (lb : ℕ) (why : MarkKind) (mark : MarkNote) : Type 0 where
  pub of : mark.lb ≡ lb
  pub refusal : mark.refusal ≡ why

abbrev pub IsFullMark : (lb more : ℕ) → MarkNote → Type 0
IsFullMark lb more mark = IsMark lb refusal.Full mark × (most_numbers < mark.numbers.next + mark.numbers.out + more)

abbrev pub IsRoomMark : (lb more : ℕ) → RoomError MarkNote → Type 0
IsRoomMark lb more (room.Full mark) = IsFullMark lb more mark
IsRoomMark lb more room.NoMemory = Unit {0}

abbrev pub IsAdminMark : (lb : ℕ) → AdminError MarkNote → Type 0
IsAdminMark lb admin.UnknownMember = Unit {0}
IsAdminMark lb admin.BadValue = Unit {0}
IsAdminMark lb (admin.TooWide mark) = IsMark lb refusal.TooWide mark
IsAdminMark lb (admin.Full mark) = IsFullMark lb 1 mark
IsAdminMark lb admin.NoMemory = Unit {0}
