-- The keys of a workers.properties: which directive of which worker a line gives.
use Rattle.std.specs.Prelude.{ℕ, List, [], ◌∷◌, Option, Some, None, if◌then◌else◌, drop, codes}
use Rattle.std.specs.List.{starts_with}
use Rattle.std.specs.Bool.{nat_eq}
use Rattle.std.specs.Str.{bytes_eq}
use Rattle.site_config.specs.Cut.{cut_at}
use Rattle.site_config.specs.declared.directive.Directive.{Directive}
use Rattle.site_config.specs.declared.directive.Directive.TheVariants as directive

-- each directive that is built, by its name in the Tomcat Connectors reference
unfoldable pub name_of : Directive → List ℕ
name_of directive.Kind = codes "type"
name_of directive.Reference = codes "reference"
name_of directive.Host = codes "host"
name_of directive.Port = codes "port"
name_of directive.Factor = codes "lbfactor"
name_of directive.Distance = codes "distance"
name_of directive.Route = codes "route"
name_of directive.Redirect = codes "redirect"
name_of directive.Activation = codes "activation"
name_of directive.PoolSize = codes "connection_pool_size"
name_of directive.Retries = codes "retries"
name_of directive.PacketSize = codes "max_packet_size"
name_of directive.Secret = codes "secret"
name_of directive.PingMode = codes "ping_mode"
name_of directive.RecoveryOptions = codes "recovery_options"
name_of directive.FailOnStatus = codes "fail_on_status"
name_of directive.BalanceWorkers = codes "balance_workers"
name_of directive.Method = codes "method"
name_of directive.Sticky = codes "sticky_session"
name_of directive.Force = codes "sticky_session_force"
name_of directive.RecoverTime = codes "recover_time"
name_of directive.Cookie = codes "session_cookie"
name_of directive.Path = codes "session_path"
name_of directive.ReadOnly = codes "read_only"
name_of directive.DialTimeout = codes "socket_connect_timeout"
name_of directive.ConnectTimeout = codes "connect_timeout"
name_of directive.PrepostTimeout = codes "prepost_timeout"
name_of directive.PingTimeout = codes "ping_timeout"
name_of directive.SocketTimeout = codes "socket_timeout"
name_of directive.ReplyTimeout = codes "reply_timeout"
name_of directive.Keepalive = codes "socket_keepalive"
name_of directive.PoolTimeout = codes "connection_pool_timeout"
name_of directive.PingInterval = codes "connection_ping_interval"
name_of directive.User = codes "user"
name_of directive.Good = codes "good"
name_of directive.Bad = codes "bad"

-- the place of a directive among them
abbrev pub slot_of : Directive → ℕ
slot_of directive.Kind = 0
slot_of directive.Reference = 1
slot_of directive.Host = 2
slot_of directive.Port = 3
slot_of directive.Factor = 4
slot_of directive.Distance = 5
slot_of directive.Route = 6
slot_of directive.Redirect = 7
slot_of directive.Activation = 8
slot_of directive.PoolSize = 9
slot_of directive.Retries = 10
slot_of directive.PacketSize = 11
slot_of directive.Secret = 12
slot_of directive.PingMode = 13
slot_of directive.RecoveryOptions = 14
slot_of directive.FailOnStatus = 15
slot_of directive.BalanceWorkers = 16
slot_of directive.Method = 17
slot_of directive.Sticky = 18
slot_of directive.Force = 19
slot_of directive.RecoverTime = 20
slot_of directive.Cookie = 21
slot_of directive.Path = 22
slot_of directive.ReadOnly = 23
slot_of directive.DialTimeout = 24
slot_of directive.ConnectTimeout = 25
slot_of directive.PrepostTimeout = 26
slot_of directive.PingTimeout = 27
slot_of directive.SocketTimeout = 28
slot_of directive.ReplyTimeout = 29
slot_of directive.Keepalive = 30
slot_of directive.PoolTimeout = 31
slot_of directive.PingInterval = 32
slot_of directive.User = 33
slot_of directive.Good = 34
slot_of directive.Bad = 35

-- all of them, in this order
abbrev pub directives : List Directive
directives = directive.Kind ∷ directive.Reference ∷ directive.Host ∷ directive.Port ∷ directive.Factor ∷ directive.Distance ∷ directive.Route ∷ directive.Redirect ∷ directive.Activation ∷ directive.PoolSize ∷ directive.Retries ∷ directive.PacketSize ∷ directive.Secret ∷ directive.PingMode ∷ directive.RecoveryOptions ∷ directive.FailOnStatus ∷ directive.BalanceWorkers ∷ directive.Method ∷ directive.Sticky ∷ directive.Force ∷ directive.RecoverTime ∷ directive.Cookie ∷ directive.Path ∷ directive.ReadOnly ∷ directive.DialTimeout ∷ directive.ConnectTimeout ∷ directive.PrepostTimeout ∷ directive.PingTimeout ∷ directive.SocketTimeout ∷ directive.ReplyTimeout ∷ directive.Keepalive ∷ directive.PoolTimeout ∷ directive.PingInterval ∷ directive.User ∷ directive.Good ∷ directive.Bad ∷ []

-- the first of these directives that has this name
abbrev pub directive_among : List Directive → List ℕ → Option Directive
directive_among [] text = None
directive_among (d ∷ ds) text = if bytes_eq (name_of d) text then Some d else directive_among ds text

-- the directive of this name
abbrev pub directive_of : List ℕ → Option Directive
directive_of text = directive_among directives text

unfoldable pub worker_prefix : List ℕ
worker_prefix = codes "worker."

-- what follows `worker.` at the start of a text
abbrev pub behind_worker : List ℕ → Option (List ℕ)
behind_worker text = if starts_with nat_eq text worker_prefix then Some (drop 7 text) else None

-- NAME and DIRECTIVE of a key `worker.NAME.DIRECTIVE`; NAME goes to the first dot
abbrev pub parts_of : Option (List ℕ) → Option (List ℕ × List ℕ)
parts_of None = None
parts_of (Some text) = cut_at 46 text

abbrev pub worker_part : List ℕ → Option (List ℕ × List ℕ)
worker_part key = parts_of (behind_worker key)

unfoldable pub list_key : List ℕ
list_key = codes "worker.list"

unfoldable pub maintain_key : List ℕ
maintain_key = codes "worker.maintain"
