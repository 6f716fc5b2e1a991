-- The Site's name is the Book's, for desks that are judged over it.
use Rattle.std.specs.Prelude.{[], ◌∷◌}
use Rattle.lb_model.specs.Journal.{members}
use Rattle.lb_book.specs.Journal.{next_number}
use Rattle.desk_checks.proofs.desks.judge_over.Given as goal

abbrev pub ghosts-judge-L-Ledger : goal.ghosts-judge-L-Ledger
ghosts-judge-L-Ledger g a = record { name = a.blank.entries.name; parts = a.blank.entries.parts }

abbrev pub ghosts-judge-L-SiteName : goal.ghosts-judge-L-SiteName
ghosts-judge-L-SiteName g a = record { starts = a.fresh.book.opening ∷ []; sizes = members a.fresh.book.opening ∷ []; firsts = next_number a.fresh.book ∷ []; cut_at = a.cut_at; cuts_name = a.blank.cuts.name }
