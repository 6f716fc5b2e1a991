-- The Books of a site as they start. Read this first.
use Rattle.std.specs.Prelude.{ℕ, List}
use Rattle.std.specs.List.{AllZip}
use Rattle.lb_book.specs.Journal.{IsStart, Journal}
use Rattle.site_config.specs.declared.balancer.Lb.{Lb}

-- Each balancer has its Book, which starts with the balancer's configuration at this moment, and whose first entry has
-- this number.
abbrev pub AreStarts : List Lb → (at first : ℕ) → List Journal → Type 0
AreStarts lbs at first books = AllZip (λ lb b. IsStart b lb.book at first) lbs books
