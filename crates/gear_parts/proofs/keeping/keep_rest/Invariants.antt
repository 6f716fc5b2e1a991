-- The segments of the Books so far were kept.
use Rattle.std.proofs.Common.{◌≡◌, ◌+◌, length}
use Rattle.gear_parts.proofs.KeepingLaws.{AreCutSoFar}
use Rattle.gear_parts.proofs.keeping.keep_rest.Given as goal

abbrev pub invariant-books : goal.invariant-books
invariant-books g l = record {
  cut : AreCutSoFar l.fn.books l.lb l.book-iterator.rest.items (g.S.Shelf.shelved l.initial.shelf) (g.S.Shelf.shelved l.shelf);
  counted : l.lb + length l.book-iterator.rest.items ≡ length l.fn.books;
  steady : g.S.Shelf.faults l.shelf ≡ g.S.Shelf.faults l.initial.shelf;
}
