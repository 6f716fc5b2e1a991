-- The Books so far are sound.
use Rattle.std.proofs.Common.{◌≡◌, ◌<◌, ℕ, Some}
use Rattle.std.specs.Prelude.{slice_get}
use Rattle.lb_book.specs.Journal.{IsSound, Journal}
use Rattle.lb_book.proofs.plain_desk.vouch.Given as goal

abbrev pub invariant-loop-book : goal.invariant-loop-book
invariant-loop-book l = (k : ℕ) (b : Journal) → k < l.book-index → slice_get l.books k ≡ Some b → IsSound b
