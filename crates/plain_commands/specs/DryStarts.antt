-- The start of a session over memory: its desk, its reach and its client before anything was done.
use Rattle.std.specs.Prelude.{◌≡◌, List, [], None}
use Rattle.jk_io.specs.Memory.{MemLinkState}
use Rattle.jk_io.specs.MemReaches.{MemReachState}
use Rattle.exchange.specs.Requests.{sizes_of}
use Rattle.lb_book.specs.Desks.{DeskState}
use Rattle.lb_book.specs.Journal.{Journal}
use Rattle.lb_book.specs.PlainDesks.{plain_state}
use Rattle.site_reports.specs.Starts.{AreStarts}
use Rattle.site_config.specs.declared.balancer.Lb.{Lb}

-- The Books of these balancers as they start, no ticket and no receipt.
pub record IsFirstDesk (lbs : List Lb) (desk : DeskState) : Type 0 where
  pub books : List Journal
  pub started : AreStarts lbs 0 0 books
  pub is : desk ≡ plain_state books [] [] 0 0 0

-- The reach before any talk.
pub record IsFirstReach (lbs : List Lb) (reach : MemReachState) : Type 0 where
  pub idle : reach.book.begun ≡ None
  pub no_talk : reach.book.talks ≡ []
  pub sizes : reach.sizes ≡ sizes_of lbs
  pub no_fault : reach.faults ≡ 0

-- The client's link before anything was read or written.
pub record IsFirstClient (client : MemLinkState) : Type 0 where
  pub received : client.received ≡ []
  pub sent : client.sent ≡ []
  pub no_fault : client.faults ≡ 0
