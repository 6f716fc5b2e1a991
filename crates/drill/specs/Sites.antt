-- The site of a drill: one balancer of two members.
use Rattle.std.specs.Prelude.{◌≡◌, ℕ, true, false, List, [], ◌∷◌, Some, None, codes, slice_get}
use Rattle.ajp_container.specs.declared.app_config.AppConfig.{AppConfig}
use Rattle.exchange.specs.Requests.{sizes_of}
use Rattle.lb_model.specs.declared.config.LbConfig.{LbConfig}
use Rattle.lb_model.specs.declared.member.Activation.TheVariants as activation
use Rattle.lb_model.specs.declared.member.MemberConfig.{MemberConfig}
use Rattle.lb_model.specs.declared.member.Method.TheVariants as method
use Rattle.site_config.specs.declared.balancer.Lb.{Lb}
use Rattle.site_config.specs.declared.config.Config.{Config}
use Rattle.site_config.specs.declared.endpoint.Endpoint.{Endpoint}
use Rattle.site_mounts.specs.Sites.{stands_in}
use Rattle.site_mounts.specs.declared.rule.Rule.{Rule}

-- a member of a name and factor, with the pool of 64
abbrev pub member_of : (name : List ℕ) → (factor : ℕ) → MemberConfig
member_of name factor = record {
  name = name;
  route = name;
  factor = factor;
  distance = 0;
  activation = activation.Active;
  redirect = None;
  pool = 64;
}

-- member a of factor 1, and member b of factor 2
abbrev pub two_members : List MemberConfig
two_members = member_of (codes "a") 1 ∷ member_of (codes "b") 2 ∷ []

-- The balancer of a drill, an lb worker of those two members, balanced by requests. A session stays with its member, and goes
-- to another where that one doesn't serve. Maintenance is due after a minute, and so is recovery.
pub record IsDrillBook (c : LbConfig) : Type 0 where
  pub method_is : c.method ≡ method.Request
  pub members_are : c.members ≡ two_members
  pub sticks : c.sticky ≡ true
  pub unforced : c.force ≡ false
  pub indirect : c.direct ≡ false
  pub maintains : c.maintain ≡ 60
  pub recovers : c.recover ≡ 60

-- How a member is reached and used: as one of which workers.properties says nothing.
pub record IsDrillEnd (e : Endpoint) : Type 0 where
  pub host : e.host ≡ codes "localhost"
  pub port : e.port ≡ 8009
  pub retries : e.retries ≡ 2
  pub packet : e.packet ≡ 8192
  pub secret : e.secret ≡ None
  pub recovery : e.recovery ≡ 0
  pub ping_new : e.ping_new ≡ false
  pub ping_each : e.ping_each ≡ false
  pub ping_idle : e.ping_idle ≡ false
  pub fail_on : e.fail_on ≡ []

-- The balancer lb of a drill, each of whose members is reached so. A session's id stands where a servlet container has it.
pub record IsDrillLb (lb : Lb) : Type 0 where
  pub name_is : lb.name ≡ codes "lb"
  pub balances : IsDrillBook lb.book
  pub ends : (m : ℕ) (e : Endpoint) → slice_get lb.ends m ≡ Some e → IsDrillEnd e
  pub cookie : lb.cookie ≡ codes "JSESSIONID"
  pub path : lb.path ≡ codes ";jsessionid"

-- The container that both members are takes packets as large as theirs, and asks for no secret.
pub record IsDrillApp (app : AppConfig) : Type 0 where
  pub route : app.route ≡ codes "drill"
  pub secret : app.secret ≡ None
  pub packet : app.packet ≡ 8192

-- A site with that balancer alone, and rules that name it alone. A minute goes by between two maintenances.
pub record IsDrillSite (cfg : Config) (rules : List Rule) : Type 0 where
  pub stands : stands_in cfg rules ≡ true
  pub sized : sizes_of cfg.lbs ≡ 2 ∷ []
  pub balancer : (lb : Lb) → slice_get cfg.lbs 0 ≡ Some lb → IsDrillLb lb
  pub maintains : cfg.maintain ≡ 60
