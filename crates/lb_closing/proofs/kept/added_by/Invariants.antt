-- The count of the entries that the Books so far added.
use Rattle.std.proofs.Common.{◌≡◌, take}
use Rattle.lb_shared.specs.Sites.{added_in}
use Rattle.lb_closing.proofs.kept.added_by.Given as goal

abbrev pub invariant-loop-book : goal.invariant-loop-book
invariant-loop-book l = l.added ≡ added_in (take l.book-index l.books)
