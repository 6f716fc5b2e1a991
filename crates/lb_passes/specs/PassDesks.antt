-- A desk over pass books with its passes, and the views of these after each of its calls.
use Rattle.std.specs.Prelude.{◌≡◌, ◌<◌, ℕ, ◌⊎◌, true, false, List, [], ◌∷◌, ◌++◌, length, map, reverse, Some, None}
use mathlib.Core.Option.{some}
use lib.ListN.{get_elem?}
use Rattle.atomic_table.specs.Seated.{TableId}
use Rattle.lb_model.specs.Journal.{members}
use Rattle.lb_model.specs.Present.{IsPresent}
use Rattle.lb_model.specs.Tickets.{is_returned}
use Rattle.lb_model.specs.declared.journal.Entry.{Entry}
use Rattle.lb_model.specs.declared.view.View.{View}
use Rattle.lb_book.specs.Desks.{DeskState, KeepsDesk, holds}
use Rattle.lb_book.specs.declared.receipt.Receipt.{Receipt}
use Rattle.lb_book.specs.Histories.{BeginsWith, IsHistory, has_made, own_of}
use Rattle.lb_passes.specs.declared.pass_view.PassView.{PassView}
use Rattle.lb_passes.specs.Holds.{entries_in, gained_in, own_in}
use Rattle.lb_passes.specs.declared.pass.Pass.{Pass}
use Rattle.lb_passes.specs.declared.pass_book.PassBook.{PassBook}

-- A desk, and its pass of each balancer.
pub record PassDeskState : Type 0 where
  pub desk : DeskState
  pub passes : List Pass

-- The view that a pass has.
abbrev pub view_of : Pass → PassView
view_of p = p.seat.me.0

-- The table that a pass is of, and that of a book.
abbrev pub table_of : Pass → TableId
table_of p = p.seat.table_id

abbrev pub table_in : PassBook → TableId
table_in b = b.table.shared.table_id

-- The numbers of members, by what the passes know.
abbrev pub sizes_in : List Pass → List ℕ
sizes_in passes = map (λ p. members (view_of p).origin.opening) passes

-- The desk of a caller with this number, as each desk is told.
abbrev pub pass_state : (number : ℕ) (sizes : List ℕ) → List Receipt → List (ℕ × ℕ) → (fulls wides : ℕ) → DeskState
pass_state number sizes receipts held fulls wides = record {
  receipts = receipts;
  held = held;
  added = length receipts;
  caller = Some number;
  sizes = sizes;
  parts = None;
  strays = 0;
  fulls = fulls;
  wides = wides;
  met = None;
  books = None;
}

-- The same with its passes.
abbrev pub desk_value : (number : ℕ) → List Pass → List Receipt → List (ℕ × ℕ) → (fulls wides : ℕ) → PassDeskState
desk_value number passes receipts held fulls wides =
    record { desk = pass_state number (sizes_in passes) receipts held fulls wides; passes = passes }

-- The pair's ticket is one that the pass of its balancer got and didn't give back.
pub record IsGot (passes : List Pass) (pair : ℕ × ℕ) : Type 0 where
  pub pass : Pass
  pub found : get_elem? passes pair.0 ≡ some pass
  pub made : has_made pair.1 (own_in (view_of pass)) ≡ true
  pub still : is_returned pair.1 (own_in (view_of pass)) ≡ false

-- Each pair's is, and no pair is held twice.
abbrev pub AreGot : List Pass → List (ℕ × ℕ) → Type 0
AreGot passes [] = Unit {0}
AreGot passes (x ∷ xs) = IsGot passes x × (holds xs x ≡ false) × AreGot passes xs

-- The fields of a desk: a pass of each book, in order, all of one number.
pub record IsPassDesk (books : List PassBook) (passes : List Pass) (number : ℕ) (held : List (ℕ × ℕ)) : Type 0 where
  pub many : length passes ≡ length books
  pub of : (lb : ℕ) (b : PassBook) (p : Pass) → get_elem? books lb ≡ some b → get_elem? passes lb ≡ some p → p.seat.table_id ≡ b.table.shared.table_id
  pub numbers : (lb : ℕ) (p : Pass) → get_elem? passes lb ≡ some p → p.number ≡ number
  pub got : AreGot passes held

-- A pass of each book, in order, all of one number.
pub record ArePassesOf (books : List PassBook) (passes : List Pass) : Type 0 where
  pub many : length passes ≡ length books
  pub of : (lb : ℕ) (b : PassBook) (p : Pass) → get_elem? books lb ≡ some b → get_elem? passes lb ≡ some p → p.seat.table_id ≡ b.table.shared.table_id
  pub one : (i j : ℕ) (p q : Pass) → get_elem? passes i ≡ some p → get_elem? passes j ≡ some q → p.number ≡ q.number

-- The pass is one of this book, and the call is its caller's own.
pub record IsOwnCall (book : PassBook) (pass : Pass) (session : ℕ) : Type 0 where
  pub of : pass.seat.table_id ≡ book.table.shared.table_id
  pub caller : session ≡ pass.number

-- The view's caller got this ticket, and didn't give it back.
pub record IsOwnTicket (ticket : ℕ) (v : PassView) : Type 0 where
  pub made : has_made ticket (own_in v) ≡ true
  pub still : is_returned ticket (own_in v) ≡ false

-- A pass stays of its table and number, its history begins where it did, and it gave as many numbers.
pub record StaysPass (p q : Pass) : Type 0 where
  pub of : q.seat.table_id ≡ p.seat.table_id
  pub number : q.number ≡ p.number
  pub origin : (view_of q).origin ≡ (view_of p).origin
  pub given : (view_of q).given ≡ (view_of p).given

-- So does each of these, in its place.
abbrev pub StayPasses : (old new : List Pass) → Type 0
StayPasses [] [] = Unit {0}
StayPasses [] (q ∷ qs) = ⊥
StayPasses (p ∷ ps) [] = ⊥
StayPasses (p ∷ ps) (q ∷ qs) = StaysPass p q × StayPasses ps qs

-- What a call never changes of a desk, and each pass in its place.
pub record KeepsPassDesk (old new : PassDeskState) : Type 0 where
  pub kept : KeepsDesk old.desk new.desk
  pub stay : StayPasses old.passes new.passes

-- The desk is as it was, and each pass is in its place.
pub record LeavesDesk (old new : PassDeskState) : Type 0 where
  pub desk : new.desk ≡ old.desk
  pub stay : StayPasses old.passes new.passes

-- The standing of a pass in a history: it is a legal one from the opening that the pass knows, what the pass has seen is its beginning,
-- and the pass's own entries are those of its number in it, each once and in the order of its calls.
pub record Standing (v : PassView) (h : List Entry) : Type 0 where
  pub history : IsHistory v.origin.opening h
  pub begins : BeginsWith h v.seen
  pub own : own_in v ≡ own_of v.number h

-- After a call all that a pass has seen is a legal history, which begins with all that it had seen and ends with the entries
-- that the call added. Of the caller's entries it has just its own, each once and in the order of its calls.
pub record SeesMore (v w : PassView) (new : List Entry) : Type 0 where
  pub origin : w.origin ≡ v.origin
  pub number : w.number ≡ v.number
  pub between : List Entry
  pub seen : w.seen ≡ v.seen ++ between ++ new
  pub own : own_in w ≡ own_in v ++ new
  pub standing : Standing w w.seen

-- The pass of balancer lb took a turn that added the entries of the new receipts, and every other pass is as it was.
pub record SeesAt (old new : PassDeskState) (lb : ℕ) : Type 0 where
  pub within : lb < length old.passes
  pub others : (j : ℕ) → (j ≡ lb → ⊥) → get_elem? new.passes j ≡ get_elem? old.passes j
  pub sees : (p : Pass) → get_elem? old.passes lb ≡ some p
      → (q : Pass) × (get_elem? new.passes lb ≡ some q) × SeesMore (view_of p) (view_of q) (entries_in (gained_in old.desk.receipts new.desk.receipts))

-- The same, or nothing happened at all.
abbrev pub MaySee : (old new : PassDeskState) → (lb : ℕ) → Type 0
MaySee old new lb = SeesAt old new lb ⊎ ((map view_of new.passes ≡ map view_of old.passes) × (new.desk.receipts ≡ old.desk.receipts))

-- The view is that of all that the pass of balancer lb has then seen.
pub record ShowsSeen (new : PassDeskState) (lb : ℕ) (view : View) : Type 0 where
  pub pass : Pass
  pub at : get_elem? new.passes lb ≡ some pass
  pub present : IsPresent 2 (view_of pass).origin.opening (reverse (view_of pass).seen) view
