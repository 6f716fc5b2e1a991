-- A note from one caller to another: all that a pass has seen, met by another pass.
use Rattle.std.specs.Prelude.{◌≡◌, ℕ, ◌⊎◌}
use mathlib.Core.Option.{some}
use lib.ListN.{get_elem?}
use Rattle.lb_book.specs.Histories.{BeginsWith}
use Rattle.lb_passes.specs.declared.pass_view.PassView.{PassView}
use Rattle.lb_passes.specs.PassDesks.{PassDeskState, view_of}
use Rattle.lb_passes.specs.declared.pass.Note.{Note}
use Rattle.lb_passes.specs.declared.pass.Pass.{Pass}

-- A note of what this pass has seen.
pub record IsNoteOfPass (p : Pass) (note : Note) : Type 0 where
  pub of : note.seat.table_id ≡ p.seat.table_id
  pub origin : note.seat.me.0.origin ≡ (view_of p).origin
  pub seen : note.seat.me.0.seen ≡ (view_of p).seen

-- The pass and the note had each seen a beginning of what is then seen, which is the longer of the two.
pub record Meets (v note w : PassView) : Type 0 where
  pub own_seen : BeginsWith w.seen v.seen
  pub note_seen : BeginsWith w.seen note.seen
  pub one : (w.seen ≡ v.seen) ⊎ (w.seen ≡ note.seen)
  pub origin : w.origin ≡ v.origin
  pub owns : w.owns ≡ v.owns
  pub given : w.given ≡ v.given

-- The pass of balancer lb met the note, and every other pass is as it was.
pub record MeetsAt (old new : PassDeskState) (lb : ℕ) (note : Note) : Type 0 where
  pub others : (j : ℕ) → (j ≡ lb → ⊥) → get_elem? new.passes j ≡ get_elem? old.passes j
  pub meets : (p : Pass) → get_elem? old.passes lb ≡ some p
      → (q : Pass) × (get_elem? new.passes lb ≡ some q) × Meets (view_of p) note.seat.me.0 (view_of q)
