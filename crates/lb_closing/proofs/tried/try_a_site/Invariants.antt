-- The Site's name: the ledgers of the blank, and the Books that are put under it.
use Rattle.lb_book.specs.ToldBooks.{sizes_of}
use Rattle.lb_shared.specs.Histories.{starts_of}
use Rattle.lb_shared.specs.Sites.{nexts_of}
use Rattle.lb_closing.proofs.tried.try_a_site.Given as goal

abbrev pub ghosts-in_site-L-Ledger : goal.ghosts-in_site-L-Ledger
ghosts-in_site-L-Ledger g a = record { name = a.blank.entries.name; parts = a.blank.entries.parts }

abbrev pub ghosts-in_site-L-SiteName : goal.ghosts-in_site-L-SiteName
ghosts-in_site-L-SiteName g a = record { starts = starts_of a.books; sizes = sizes_of a.books; firsts = nexts_of a.books; cut_at = 0; cuts_name = a.blank.cuts.name }
