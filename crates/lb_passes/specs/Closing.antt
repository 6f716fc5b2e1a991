-- All passes of a pass book come together.
use Rattle.std.specs.Prelude.{◌≡◌, ℕ, ◌<◌, true, List, []}
use Rattle.atomic_table.specs.Seated.{TableId}
use Rattle.atomic_table.specs.Table.{Me}
use Rattle.atomic_table.specs.declared.shared.Seat.{Seat}
use mathlib.Core.Option.{some}
use lib.ListN.{get_elem?}
use Rattle.lb_model.specs.declared.journal.Entry.{Entry}
use Rattle.lb_book.specs.Journal.{Journal}
use Rattle.lb_book.specs.Histories.{IsHistory, own_of}
use Rattle.lb_passes.specs.Turns.{Carries, IsBookOf}
use Rattle.lb_passes.specs.declared.pass_view.PassView.{PassView}
use Rattle.lb_passes.specs.declared.pass_view.Turn.TheVariants.{Idle}
use Rattle.lb_passes.specs.Holds.{own_in}
use Rattle.lb_passes.specs.PassDesks.{view_of}
use Rattle.lb_passes.specs.declared.pass.Pass.{Pass}

-- One of these passes has the number.
pub record HasNumber (passes : List Pass) (n : ℕ) : Type 0 where
  pub place : ℕ
  pub pass : Pass
  pub at : get_elem? passes place ≡ some pass
  pub number : pass.number ≡ n

-- These are all passes of the table: they are of it, one has the number 0, and each number that it gave is one's.
pub record AreAllPasses (table : TableId) (passes : List Pass) : Type 0 where
  pub of : (k : ℕ) (p : Pass) → get_elem? passes k ≡ some p → p.seat.table_id ≡ table
  pub root : HasNumber passes 0
  pub all : (k : ℕ) (p : Pass) → get_elem? passes k ≡ some p → p.number ≡ 0 → (n : ℕ) → n < (view_of p).given → HasNumber passes n

-- A seat that may be joined to another.
pub record IsJoiner (me : Me Journal PassView) : Type 0 where
  pub turn : me.0.turn ≡ Idle
  pub empty : me.1 ≡ []

-- The seat carries the numbers of these passes, and gives the numbers where one of them did.
pub record GaveRoot (done : List Pass) (v : PassView) : Type 0 where
  pub place : ℕ
  pub pass : Pass
  pub at : get_elem? done place ≡ some pass
  pub number : pass.number ≡ 0
  pub roots : v.roots ≡ true
  pub given : v.given ≡ (view_of pass).given
  pub origin : v.origin ≡ (view_of pass).origin

pub record HasGathered (table : TableId) (done : List Pass) (seat : Seat Journal PassView) : Type 0 where
  pub of : seat.table_id ≡ table
  pub joiner : IsJoiner seat.me
  pub carries : (k : ℕ) (p : Pass) → get_elem? done k ≡ some p → Carries seat.me.0.owns p.number (own_in (view_of p))
  pub root : HasNumber done 0 → GaveRoot done seat.me.0

-- The Book of closed passes is that of one whole history, which begins where the pass of number 0 knows, and of which it keeps
-- the entries since its last cut. In that history the passes' own entries are the entries of their numbers, each once and in
-- order, and there are no others.
pub record CloseInOne (passes : List Pass) (b : Journal) : Type 0 where
  pub first : HasNumber passes 0
  pub log : List Entry
  pub history : IsHistory (view_of first.pass).origin.opening log
  pub stands : IsBookOf (view_of first.pass).origin log b
  pub own : (k : ℕ) (p : Pass) → get_elem? passes k ≡ some p → own_in (view_of p) ≡ own_of p.number log
  pub no_others : (n : ℕ) → (HasNumber passes n → ⊥) → own_of n log ≡ []
