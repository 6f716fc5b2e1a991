-- The settings of a worker: the values of the directives in force, or their defaults.
use Rattle.std.specs.Prelude.{◌≡◌, ℕ, ◌+◌, Bool, false, List, [], ◌∷◌, Option, Some, None, if◌then◌else◌, ◌==◌, ◌&&◌, ◌||◌, not, unwrap_or, length, codes, nat_lt}
use Rattle.std.specs.Option.{is_some, option_and_then}
use Rattle.std.specs.Str.{bytes_eq}
use Rattle.lb_model.specs.declared.member.Activation.{Activation}
use Rattle.lb_model.specs.declared.member.Activation.TheVariants as activation
use Rattle.lb_model.specs.declared.member.Method.{Method}
use Rattle.lb_model.specs.declared.member.Method.TheVariants as method
use Rattle.lb_model.specs.declared.member.MemberConfig.{MemberConfig}
use Rattle.site_config.specs.declared.property.Property.{Property}
use Rattle.site_config.specs.declared.values.Pings.{Pings}
use Rattle.site_config.specs.declared.values.WorkerKind.{WorkerKind}
use Rattle.site_config.specs.declared.values.WorkerKind.TheVariants as kind
use Rattle.site_config.specs.declared.directive.Directive.{Directive}
use Rattle.site_config.specs.declared.directive.Directive.TheVariants as directive
use Rattle.site_config.specs.declared.endpoint.Endpoint.{Endpoint}
use Rattle.site_config.specs.declared.limits.MemberLimits.{MemberLimits}
use Rattle.site_workers.specs.Given.{or_else}
use Rattle.site_config.specs.declared.value.Value.{Value}
use Rattle.site_config.specs.declared.value.Value.TheVariants as value
use Rattle.site_config.specs.Meanings.{says}
use Rattle.site_config.specs.Values.{statuses_of}

-- the value of a directive in force
abbrev pub text_in : Option Property → Option (List ℕ)
text_in None = None
text_in (Some p) = Some p.value

abbrev pub text_or : List ℕ → Option Property → List ℕ
text_or default p = unwrap_or (text_in p) default

-- a value, or the default where it is empty
abbrev pub filled : List ℕ → List ℕ → List ℕ
filled default text = if nat_lt 0 (length text) then text else default

abbrev pub filled_or : List ℕ → Option Property → List ℕ
filled_or default p = filled default (text_or default p)

-- what a line in force says of its directive
abbrev pub said_in : Directive → Option Property → Option Value
said_in d None = None
said_in d (Some p) = says d p

-- the number, the truth value, the type, the activation, the method and the pings that a value is, if it is that
abbrev pub as_number : Option Value → Option ℕ
as_number (Some (value.Number n)) = Some n
as_number v = None

abbrev pub as_truth : Option Value → Option Bool
as_truth (Some (value.Truth t)) = Some t
as_truth v = None

abbrev pub as_kind : Option Value → Option WorkerKind
as_kind (Some (value.Kind k)) = Some k
as_kind v = None

abbrev pub as_activation : Option Value → Option Activation
as_activation (Some (value.Activation a)) = Some a
as_activation v = None

abbrev pub as_method : Option Value → Option Method
as_method (Some (value.Method m)) = Some m
as_method v = None

abbrev pub as_pings : Option Value → Option Pings
as_pings (Some (value.Pings p)) = Some p
as_pings v = None

-- a number and a truth value that a directive is given, by the lines in force
abbrev pub number_in : (Directive → Option Property) → Directive → Option ℕ
number_in v d = as_number (said_in d (v d))

abbrev pub number_or : (Directive → Option Property) → Directive → (default : ℕ) → ℕ
number_or v d default = unwrap_or (number_in v d) default

abbrev pub truth_in : (Directive → Option Property) → Directive → Option Bool
truth_in v d = as_truth (said_in d (v d))

abbrev pub truth_or : (Directive → Option Property) → Directive → (default : Bool) → Bool
truth_or v d default = unwrap_or (truth_in v d) default

-- whether a limit is given that isn't 0
abbrev pub is_limited : Option ℕ → Bool
is_limited None = false
is_limited (Some n) = nat_lt 0 n

abbrev pub kind_in : Option Property → WorkerKind
kind_in p = unwrap_or (as_kind (said_in directive.Kind p)) kind.Ajp13

abbrev pub activation_in : Option Property → Activation
activation_in p = unwrap_or (as_activation (said_in directive.Activation p)) activation.Active

abbrev pub method_in : Option Property → Method
method_in p = unwrap_or (as_method (said_in directive.Method p)) method.Request

abbrev pub no_pings : Pings
no_pings = record { dialled = false; each = false; idle = false }

abbrev pub pings_in : Option Property → Pings
pings_in p = unwrap_or (as_pings (said_in directive.PingMode p)) no_pings

abbrev pub statuses_in : Option Property → List (ℕ × Bool)
statuses_in p = unwrap_or (option_and_then statuses_of (text_in p)) []

-- the time limits that are set, each in its directive's unit: at most a day
pub record AreLimits (v : Directive → Option Property) (l : MemberLimits) : Type 0 where
  pub dial : l.socket_connect_timeout ≡ number_in v directive.DialTimeout
  pub first_pong : l.connect_timeout ≡ number_in v directive.ConnectTimeout
  pub each_pong : l.prepost_timeout ≡ number_in v directive.PrepostTimeout
  pub ping : l.ping_timeout ≡ number_in v directive.PingTimeout
  pub wait : l.socket_timeout ≡ number_in v directive.SocketTimeout
  pub reply : l.reply_timeout ≡ number_in v directive.ReplyTimeout
  pub keepalive : l.socket_keepalive ≡ truth_in v directive.Keepalive
  pub pool : l.connection_pool_timeout ≡ number_in v directive.PoolTimeout
  pub interval : l.connection_ping_interval ≡ number_in v directive.PingInterval

-- how the member is reached and used, by the directives in force; a limit of the first or of each CPong asks for it too
pub record IsEndpoint (v : Directive → Option Property) (e : Endpoint) : Type 0 where
  pub host : e.host ≡ text_or (codes "localhost") (v directive.Host)
  pub port : e.port ≡ number_or v directive.Port 8009
  pub retries : e.retries ≡ number_or v directive.Retries 2
  pub packet : e.packet ≡ number_or v directive.PacketSize 8192
  pub secret : e.secret ≡ text_in (v directive.Secret)
  pub recovery : e.recovery ≡ number_or v directive.RecoveryOptions 0
  pub ping_new : e.ping_new ≡ ((pings_in (v directive.PingMode)).dialled || is_limited (number_in v directive.ConnectTimeout))
  pub ping_each : e.ping_each ≡ ((pings_in (v directive.PingMode)).each || is_limited (number_in v directive.PrepostTimeout))
  pub ping_idle : e.ping_idle ≡ (pings_in (v directive.PingMode)).idle
  pub fail_on : e.fail_on ≡ statuses_in (v directive.FailOnStatus)
  pub limits : AreLimits v e.limits

-- a member without a secret of its own has that of its balancer
abbrev pub shared : Option (List ℕ) → Endpoint → Endpoint
shared common e = record e { secret = or_else e.secret common }

-- a status worker whose directives name users is closed: jkd knows none
abbrev pub is_closed : (Directive → Option Property) → Bool
is_closed v = is_some (v directive.User) || (is_some (v directive.Good) || is_some (v directive.Bad))

-- the place of the first route that is the text, other than place i; the routes' places begin at j
abbrev pub other_at : ℕ → List ℕ → ℕ → List (List ℕ) → Option ℕ
other_at i text j [] = None
other_at i text j (route ∷ routes) = if bytes_eq route text && not (j == i) then Some j else other_at i text (j + 1) routes

-- the member that a redirect names: the first other one of that route
abbrev pub redirect_in : List (List ℕ) → ℕ → Option (List ℕ) → Option ℕ
redirect_in routes i None = None
redirect_in routes i (Some text) = other_at i text 0 routes

-- member i of a balancer whose members have these routes
pub record IsMember (v : Directive → Option Property) (name : List ℕ) (routes : List (List ℕ)) (i : ℕ) (m : MemberConfig) : Type 0 where
  pub named : m.name ≡ name
  pub route : m.route ≡ text_or name (v directive.Route)
  pub factor : m.factor ≡ number_or v directive.Factor 1
  pub distance : m.distance ≡ number_or v directive.Distance 0
  pub activation : m.activation ≡ activation_in (v directive.Activation)
  pub redirect : m.redirect ≡ redirect_in routes i (text_in (v directive.Redirect))
  pub pool : m.pool ≡ number_or v directive.PoolSize 64
