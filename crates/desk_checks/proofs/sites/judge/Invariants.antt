-- The Site's name is the Book's, for rows that are judged on it.
use Rattle.std.specs.Prelude.{[], ◌∷◌}
use Rattle.lb_model.specs.Journal.{members}
use Rattle.lb_book.specs.Journal.{next_number}
use Rattle.desk_checks.proofs.sites.judge.Given as goal

abbrev pub ghosts-judge_site-L-Ledger : goal.ghosts-judge_site-L-Ledger
ghosts-judge_site-L-Ledger g a = record { name = a.blank.name; parts = a.blank.parts }

abbrev pub ghosts-judge_site-L-SiteName : goal.ghosts-judge_site-L-SiteName
ghosts-judge_site-L-SiteName g a = record { starts = a.fresh.book.opening ∷ []; sizes = members a.fresh.book.opening ∷ []; firsts = next_number a.fresh.book ∷ []; cut_at = 0; cuts_name = 0 }
