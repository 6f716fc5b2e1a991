-- The desk of a drill's thread: one part of the ledger, no ticket held, a receipt of each entry that it added.
use Rattle.std.specs.Prelude.{◌≡◌, ℕ, List, [], length, Some, None}
use Rattle.lb_book.specs.Desks.{DeskState}

-- A desk with one part of the ledger, over balancers of these sizes, that holds no ticket and has a receipt of each entry
-- that it added.
pub record IsWholeDesk (sizes : List ℕ) (desk : DeskState) : Type 0 where
  pub none_held : desk.held ≡ []
  pub one_part : desk.parts ≡ Some 1
  pub counted : desk.added ≡ length desk.receipts
  pub no_caller : desk.caller ≡ None
  pub sized : desk.sizes ≡ sizes
