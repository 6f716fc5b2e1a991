-- The desk with which the session of a row starts.
use Rattle.std.specs.Prelude.{◌≡◌, List, None}
use Rattle.lb_book.specs.Desks.{DeskState}
use Rattle.exchange.specs.Requests.{sizes_of}
use Rattle.site_config.specs.declared.balancer.Lb.{Lb}

-- The desk has the sizes of these balancers, and no fixed caller.
pub record IsDeskOf (lbs : List Lb) (desk : DeskState) : Type 0 where
  pub sizes : desk.sizes ≡ sizes_of lbs
  pub caller : desk.caller ≡ None
