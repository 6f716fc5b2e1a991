-- The Site's name: the ledgers of the blank, and the Book that is put under it.
use Rattle.lb_book.specs.ToldBooks.{sizes_of}
use Rattle.lb_shared.specs.Histories.{starts_of}
use Rattle.lb_shared.specs.Sites.{nexts_of}
use Rattle.drill.proofs.running.drilled_book.Given as goal

abbrev pub ghosts-drill_in-L-Ledger : goal.ghosts-drill_in-L-Ledger
ghosts-drill_in-L-Ledger g a = record { name = a.blank.entries.name; parts = a.blank.entries.parts }

abbrev pub ghosts-drill_in-L-SiteName : goal.ghosts-drill_in-L-SiteName
ghosts-drill_in-L-SiteName g a = record { starts = starts_of a.books; sizes = sizes_of a.books; firsts = nexts_of a.books; cut_at = 0; cuts_name = a.blank.cuts.name }
