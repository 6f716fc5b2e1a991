-- When a Site may begin with one Book.
use Rattle.std.specs.Prelude.{◌≡◌, ◌<◌, ℕ, List, [], ◌∷◌}
use Rattle.std.specs.declared.sync.ledger.Blank.{Blank}
use Rattle.lb_model.specs.Journal.{members}
use Rattle.lb_book.specs.Journal.{Journal, next_number}

-- The blank ledger has the Site's name and its parts, and the Book has as many members and the first number that are told of the Site.
pub record OpensSite (name parts : ℕ) (sizes firsts : List ℕ) (blank : Blank) (book : Journal) : Type 0 where
  pub named : blank.name ≡ name
  pub split : blank.parts ≡ parts
  pub some : 0 < parts
  pub sized : members book.opening ∷ [] ≡ sizes
  pub numbered : next_number book ∷ [] ≡ firsts
