-- An exchange of which EndToEndOfExchange speaks: its last talk is the one that FirstGet works out. Read this after FirstGet.
use Rattle.std.specs.Prelude.{◌≡◌, ℕ, Bool, List, Some, slice_get}
use Rattle.jk_io.specs.declared.reaching.Talk.{Talk}
use Rattle.lb_model.specs.declared.ask.Terms.{Terms}
use Rattle.lb_model.specs.declared.member.MemberConfig.{MemberConfig}
use Rattle.http_front.specs.declared.body.BodyIn.{BodyIn}
use Rattle.site_config.specs.declared.balancer.Lb.{Lb}
use Rattle.site_config.specs.declared.endpoint.Endpoint.{Endpoint}
use Rattle.ajp_request.specs.declared.forward.Forward.{Forward}
use Rattle.exchange.specs.OneTalk.{Around}
use Rattle.ajp_container.specs.declared.app_config.AppConfig.{AppConfig}
use Rattle.drill.specs.FirstGet.{IsFirstGet, first_errand, first_reply, no_data}
use Rattle.drill.specs.Meeting.{IsExchangeWith}

-- With member m of the balancer there is such an exchange, over a link that is newly dialled or not, after these talks, which
-- failed before its last; and its client gets just this.
abbrev pub FirstExchange : Type 0
FirstExchange =
    (app : AppConfig) (balancer : Lb) (m : ℕ) (member : MemberConfig) (endpoint : Endpoint) (body : BodyIn) (session lb : ℕ) (terms : Terms)
    (dialled : Bool) (failed : List Talk)
    → IsFirstGet app balancer endpoint body → slice_get balancer.book.members m ≡ Some member → slice_get balancer.ends m ≡ Some endpoint
    → (f : Forward) × (s : Around) × (n : Around)
    × (held : IsExchangeWith app (first_errand session lb balancer terms) m no_data f s n)
    × (held.last.talk.dialled ≡ dialled) × (held.last.others ≡ failed) × (s.body.body ≡ body) × (n.client.sent ≡ Some first_reply)
