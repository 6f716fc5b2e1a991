-- A desk and a reach that are ready for a session: of its site's sizes, and with no running talk.
use Rattle.std.specs.Prelude.{◌≡◌, true, false, IfSome}
use Rattle.jk_io.specs.declared.reaching.Beside.{Beside}
use Rattle.lb_book.specs.Desks.{DeskState}
use Rattle.exchange.specs.Requests.{sizes_of}
use Rattle.site_mounts.specs.Sites.{stands_in}
use Rattle.client_session.specs.Requests.{Visit}

-- All that the map names stands in the configuration, desk and reach have the sizes of its balancers, the session is the
-- number of the desk's caller where that is fixed, and no talk runs.
pub record IsReady (v : Visit) (desk : DeskState) (beside : Beside) : Type 0 where
  pub stands : stands_in v.cfg v.rules ≡ true
  pub caller : IfSome desk.caller (λ n. v.session ≡ n)
  pub desk_sizes : desk.sizes ≡ sizes_of v.cfg.lbs
  pub reach_sizes : beside.sizes ≡ sizes_of v.cfg.lbs
  pub idle : beside.runs ≡ false
