-- The passes of a pass book.
use Rattle.std.specs.Prelude.{◌≡◌, ℕ, List, [], ◌∷◌, length}
use mathlib.Core.Option.{some}
use lib.ListN.{get_elem?}
use Rattle.atomic_table.specs.Seated.{TableId}
use Rattle.lb_passes.specs.declared.pass.Pass.{Pass}
use Rattle.lb_model.specs.Limits.{modern_rules}
use Rattle.lb_book.specs.Journal.{Journal}
use Rattle.lb_passes.specs.declared.pass_view.Origin.{Origin}
use Rattle.lb_passes.specs.declared.pass_view.PassView.{PassView}

-- The history of a pass book that begins with this Book, which is cut where it has `cut_at` kept entries.
abbrev pub origin_of : Journal → (cut_at : ℕ) → Origin
origin_of b cut_at = record { opening = b.opening; added = b.added; cut_at = cut_at }

-- A Book whose callers may take turns: it is of rules 2, and has no entry and no ticket out.
pub record MayTakeTurns (b : Journal) : Type 0 where
  pub modern : b.rules ≡ modern_rules
  pub empty : b.entries ≡ []
  pub none_out : b.opening.out ≡ []

-- The view of a caller of this number, in a history of this origin that has no entry yet.
pub record IsNewView (o : Origin) (number : ℕ) (v : PassView) : Type 0 where
  pub origin : v.origin ≡ o
  pub numbered : v.number ≡ number
  pub seen : v.seen ≡ []
  pub owns : v.owns ≡ (number, []) ∷ []

-- A new pass of this table, the i-th of `given`.
pub record IsNewPass (o : Origin) (table : TableId) (given i : ℕ) (p : Pass) : Type 0 where
  pub of : p.seat.table_id ≡ table
  pub number : p.number ≡ i
  pub view : IsNewView o i p.seat.me.0
  pub root : i ≡ 0 → p.seat.me.0.given ≡ given

-- All passes of a new table, with the numbers from 0 up.
pub record AreNewPasses (o : Origin) (table : TableId) (given : ℕ) (passes : List Pass) : Type 0 where
  pub many : length passes ≡ given
  pub each : (i : ℕ) (p : Pass) → get_elem? passes i ≡ some p → IsNewPass o table given i p

-- A pass keeps its place at the table, and its number.
pub record KeepsSeat (before now : Pass) : Type 0 where
  pub of : now.seat.table_id ≡ before.seat.table_id
  pub number : now.number ≡ before.number
