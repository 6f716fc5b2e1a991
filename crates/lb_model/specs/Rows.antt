-- Rows of a view whose redirects stay within it.
use Rattle.std.specs.Prelude.{◌≡◌, ℕ, ◌<◌, List, length, Some, slice_get}
use Rattle.lb_model.specs.declared.view.MemberRow.{MemberRow}

-- Each row's redirect is one of the rows.
pub record HaveRedirectsWithin (rows : List MemberRow) : Type 0 where
  pub at : (i : ℕ) (r : MemberRow) → slice_get rows i ≡ Some r → (t : ℕ) → r.redirect ≡ Some t → t < length rows
