-- The Site's name: the ledgers of the blank, the balancers of the configuration, and the cut.
use Rattle.exchange.specs.Requests.{sizes_of}
use Rattle.lb_shared.specs.Histories.{starts_of}
use Rattle.jk_server.specs.Headline.{firsts_of}
use Rattle.jk_server.proofs.runs.serve.serve_gears.Given as goal

abbrev pub ghosts-over_site-L-Ledger : goal.ghosts-over_site-L-Ledger
ghosts-over_site-L-Ledger g a = record { name = a.new.blank.entries.name; parts = a.new.blank.entries.parts }

abbrev pub ghosts-over_site-L-SiteName : goal.ghosts-over_site-L-SiteName
ghosts-over_site-L-SiteName g a = record { starts = starts_of a.new.books; sizes = sizes_of a.plan.cfg.now.lbs; firsts = firsts_of a.plan.cfg.now.lbs; cut_at = a.plan.cut; cuts_name = a.new.blank.cuts.name }
