-- The two passes of a new book whose callers take turns.
use Rattle.std.specs.Prelude.{◌≡◌, ℕ, List}
use Rattle.atomic_table.specs.Seated.{TableId}
use Rattle.lb_passes.specs.PassDesks.{table_in}
use Rattle.lb_passes.specs.Passes.{AreNewPasses}
use Rattle.lb_passes.specs.declared.pass.Pass.{Pass}
use Rattle.lb_passes.specs.declared.pass_book.PassBook.{PassBook}
use Rattle.lb_passes.specs.declared.pass_view.Origin.{Origin}

-- The book is of this place, which has two passes, and these are the two.
pub record ArePair (table : TableId) (origin : Origin) (given : ℕ) (book : PassBook) (passes : List Pass) : Type 0 where
  pub of : table_in book ≡ table
  pub dealt : AreNewPasses origin table 2 passes
  pub two : given ≡ 2
