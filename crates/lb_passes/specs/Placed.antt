-- Passes of one place: a table, what its history began with, and how many numbers were given.
use Rattle.std.specs.Prelude.{◌≡◌, ℕ, ◌+◌, List, [], ◌∷◌, Some, length, map}
use mathlib.Core.Option.{some}
use lib.ListN.{get_elem?}
use Rattle.atomic_table.specs.Seated.{TableId}
use Rattle.lb_book.specs.Desks.{DeskState}
use Rattle.lb_model.specs.Journal.{members}
use Rattle.lb_passes.specs.Holds.{entries_in, own_in}
use Rattle.lb_passes.specs.PassDesks.{PassDeskState, table_of, view_of}
use Rattle.lb_passes.specs.declared.pass.Pass.{Pass}
use Rattle.lb_passes.specs.Plays.{no_origin}
use Rattle.lb_passes.specs.declared.pass_view.Origin.{Origin}

-- A table that there isn't.
abbrev pub no_table : TableId
no_table = record { words = 0; slots = 0; views_name = 0; atom = 0; block = 0; offset = 0; slot_names = [] }

-- The beginning of the history of these passes.
abbrev pub origin_in : List Pass → Origin
origin_in [] = no_origin
origin_in (p ∷ passes) = (view_of p).origin

-- The table that these passes are of.
abbrev pub table_in_passes : List Pass → TableId
table_in_passes [] = no_table
table_in_passes (p ∷ passes) = table_of p

-- A pass of this table, in a history of this origin; the one of number 0 gave `given` numbers.
pub record IsBack (table : TableId) (o : Origin) (given : ℕ) (p : Pass) : Type 0 where
  pub of : table_of p ≡ table
  pub origin : (view_of p).origin ≡ o
  pub gave : p.number ≡ 0 → (view_of p).given ≡ given

-- One of this place that has no entry of its own yet.
pub record IsUnused (table : TableId) (o : Origin) (given : ℕ) (p : Pass) : Type 0 where
  pub back : IsBack table o given p
  pub none : own_in (view_of p) ≡ []

-- These are the numbers from n on, in order.
abbrev pub AreFrom : (n : ℕ) → List ℕ → Type 0
AreFrom n [] = Unit {0}
AreFrom n (m ∷ ms) = (m ≡ n) × AreFrom (n + 1) ms

-- Each of these is one.
abbrev pub AreEachBack : TableId → Origin → (given : ℕ) → List Pass → Type 0
AreEachBack table o given [] = Unit {0}
AreEachBack table o given (p ∷ passes) = IsBack table o given p × AreEachBack table o given passes

-- All of them, with the numbers from 0 up.
pub record AreBack (table : TableId) (o : Origin) (given : ℕ) (passes : List Pass) : Type 0 where
  pub count : length passes ≡ given
  pub numbers : AreFrom 0 (map (λ p. p.number) passes)
  pub each : AreEachBack table o given passes

-- The own entries of a desk's first pass are those of the desk's receipts, each once and in their order.
abbrev pub OwnsReceipts : PassDeskState → Type 0
OwnsReceipts d = (p : Pass) → get_elem? d.passes 0 ≡ some p → own_in (view_of p) ≡ entries_in d.desk.receipts

-- A desk of one balancer with one such pass, whose number is the caller's, and which owns the entries of its receipts.
pub record IsPlaced (table : TableId) (o : Origin) (given : ℕ) (d : PassDeskState) : Type 0 where
  pub only : length d.passes ≡ 1
  pub back : (p : Pass) → get_elem? d.passes 0 ≡ some p → IsBack table o given p
  pub caller : (p : Pass) → get_elem? d.passes 0 ≡ some p → d.desk.caller ≡ Some p.number
  pub sized : length d.desk.sizes ≡ 1
  pub owns : OwnsReceipts d

-- A desk of this pass's caller that holds no ticket, and has no receipt.
pub record IsWaitingPass (p : Pass) (d : DeskState) : Type 0 where
  pub caller : d.caller ≡ Some p.number
  pub none_held : d.held ≡ []
  pub unused : d.receipts ≡ []
  pub sized : d.sizes ≡ members (view_of p).origin.opening ∷ []
