-- The passes with which the threads of a drill take turns.
use Rattle.std.specs.Prelude.{◌≡◌, ◌≤◌, ℕ, List, [], ◌∷◌, map}
use Rattle.atomic_table.specs.Seated.{TableId}
use Rattle.lb_model.specs.Journal.{members}
use Rattle.lb_book.specs.declared.receipt.Receipt.{Receipt}
use Rattle.lb_passes.specs.Holds.{entries_in, own_in}
use Rattle.lb_passes.specs.PassDesks.{table_in, view_of}
use Rattle.lb_passes.specs.Passes.{AreNewPasses}
use Rattle.lb_passes.specs.declared.pass.Pass.{Pass}
use Rattle.lb_passes.specs.declared.pass_book.PassBook.{PassBook}
use Rattle.lb_passes.specs.declared.pass_view.Origin.{Origin}
use Rattle.drill.specs.Counts.{CountsDrill}
use Rattle.drill.specs.declared.pass_slots.PassesLeft.{PassesLeft}
use Rattle.drill.specs.declared.plan.TheConstants.{MAX_THREADS}

-- They are the new ones of this place, whose one book has two members, and a drill may have as many threads.
pub record AreDrillPasses (table : TableId) (origin : Origin) (given : ℕ) (books : List PassBook) (passes : List Pass) : Type 0 where
  pub book : (b : PassBook) × (books ≡ b ∷ []) × (table_in b ≡ table)
  pub dealt : AreNewPasses origin table given passes
  pub few : given ≤ MAX_THREADS
  pub two : members origin.opening ≡ 2

-- What the threads left: the bytes of the bodies are those of the rows of their sessions, over desks that got the receipts
-- `told`, and each thread's pass has, as its own entries, those of its desk's receipts.
pub record LeavesPasses (seed threads requests : ℕ) (left : PassesLeft) : Type 0 where
  pub told : List (List Receipt)
  pub counted : CountsDrill seed threads requests told left.bodies
  pub own : map (λ p. own_in (view_of p)) left.passes ≡ map entries_in told
