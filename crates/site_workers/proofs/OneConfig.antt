-- A text has at most one configuration.
use Rattle.std.proofs.Common.{◌≡◌, ℕ, ◌+◌, ◌<◌, ◌≤◌, ◌^◌, true, List, [], ◌∷◌, length, map, Option, Result, Ok, refl, sym, ◌∙◌, ap, subst, suc}
use denote.Struct.Props.{props}
use mathlib.Core.HLevel.{is_prop→PathP}
use Rattle.lb_model.specs.Multiple.{multiple_of}
use Rattle.lb_model.specs.Ranges.{IsCount, AreInRange, IsPeriod, factors_in}
use Rattle.lb_model.specs.declared.member.MemberConfig.{MemberConfig}
use Rattle.lb_model.specs.declared.config.LbConfig.{LbConfig}
use Rattle.site_config.specs.Places.{are_places}
use Rattle.site_config.specs.declared.property.Property.{Property}
use Rattle.site_config.specs.declared.directive.Directive.{Directive}
use Rattle.site_config.specs.declared.directive.Directive.TheVariants as directive
use Rattle.site_config.specs.declared.values.WorkerKind.{WorkerKind}
use Rattle.site_config.specs.declared.values.WorkerKind.TheVariants as kind
use Rattle.site_config.specs.Properties.{read_text}
use Rattle.site_config.specs.declared.error.PropsRefusal.{PropsRefusal}
use Rattle.site_config.specs.declared.balancer.Lb.{Lb}
use Rattle.site_config.specs.declared.config.Config.{Config}
use Rattle.site_config.specs.declared.config.Status.{Status}
use Rattle.site_config.specs.declared.endpoint.Endpoint.{Endpoint}
use Rattle.site_config.specs.declared.limits.MemberLimits.{MemberLimits}
use Rattle.site_config.specs.Bounds.{is_at_most}
use Rattle.site_workers.specs.declared.draft.Draft.{Draft}
use Rattle.site_workers.specs.Given.{in_force}
use Rattle.site_workers.specs.Lists.{Listing, firsts, site_list, members_in}
use Rattle.site_workers.specs.Settings.{AreLimits, IsEndpoint, IsMember, kind_in, shared, text_in, text_or}
use Rattle.site_workers.specs.Site.{AreMembers, routes_of, IsLb, IsDirect, AddsListing, AddsKind, Builds, with_lb, with_status, no_workers, draft_of, maintain_of, ignored_of, IsConfig}
use Rattle.site_workers.proofs.ChainLemmas.{chain_one}

-- values with the same fields are the same; what a type keeps of them besides has one proof
limits_is : (l m : MemberLimits) → l.socket_connect_timeout ≡ m.socket_connect_timeout → l.connect_timeout ≡ m.connect_timeout
    → l.prepost_timeout ≡ m.prepost_timeout → l.ping_timeout ≡ m.ping_timeout → l.socket_timeout ≡ m.socket_timeout
    → l.reply_timeout ≡ m.reply_timeout → l.socket_keepalive ≡ m.socket_keepalive
    → l.connection_pool_timeout ≡ m.connection_pool_timeout → l.connection_ping_interval ≡ m.connection_ping_interval → l ≡ m
limits_is l m dial first each ping wait reply alive pool interval = λ i. record {
  socket_connect_timeout = dial i;
  connect_timeout = first i;
  prepost_timeout = each i;
  ping_timeout = ping i;
  socket_timeout = wait i;
  reply_timeout = reply i;
  socket_keepalive = alive i;
  connection_pool_timeout = pool i;
  connection_ping_interval = interval i;
  dial_below = is_prop→PathP (λ j. is_at_most 86400000 (dial j) ≡ true) (λ j. hlevel props) l.dial_below m.dial_below i;
  first_pong_below = is_prop→PathP (λ j. is_at_most 86400000 (first j) ≡ true) (λ j. hlevel props) l.first_pong_below m.first_pong_below i;
  each_pong_below = is_prop→PathP (λ j. is_at_most 86400000 (each j) ≡ true) (λ j. hlevel props) l.each_pong_below m.each_pong_below i;
  ping_below = is_prop→PathP (λ j. is_at_most 86400000 (ping j) ≡ true) (λ j. hlevel props) l.ping_below m.ping_below i;
  wait_below = is_prop→PathP (λ j. is_at_most 86400 (wait j) ≡ true) (λ j. hlevel props) l.wait_below m.wait_below i;
  reply_below = is_prop→PathP (λ j. is_at_most 86400000 (reply j) ≡ true) (λ j. hlevel props) l.reply_below m.reply_below i;
  pool_below = is_prop→PathP (λ j. is_at_most 86400 (pool j) ≡ true) (λ j. hlevel props) l.pool_below m.pool_below i;
  interval_below = is_prop→PathP (λ j. is_at_most 86400 (interval j) ≡ true) (λ j. hlevel props) l.interval_below m.interval_below i;
}

limits_one : (v : Directive → Option Property) (l m : MemberLimits) → AreLimits v l → AreLimits v m → l ≡ m
limits_one v l m x y =
    limits_is l m (x.dial ∙ sym y.dial) (x.first_pong ∙ sym y.first_pong) (x.each_pong ∙ sym y.each_pong) (x.ping ∙ sym y.ping) (x.wait ∙ sym y.wait)
    (x.reply ∙ sym y.reply) (x.keepalive ∙ sym y.keepalive) (x.pool ∙ sym y.pool) (x.interval ∙ sym y.interval)

endpoint_is : (e f : Endpoint) → e.host ≡ f.host → e.port ≡ f.port → e.retries ≡ f.retries → e.packet ≡ f.packet → e.secret ≡ f.secret
    → e.recovery ≡ f.recovery → e.ping_new ≡ f.ping_new → e.ping_each ≡ f.ping_each → e.ping_idle ≡ f.ping_idle → e.fail_on ≡ f.fail_on → e.limits ≡ f.limits → e ≡ f
endpoint_is e f host port retries packet secret recovery ping_new ping_each ping_idle fail_on limits = λ i. record {
  host = host i;
  port = port i;
  retries = retries i;
  packet = packet i;
  secret = secret i;
  recovery = recovery i;
  ping_new = ping_new i;
  ping_each = ping_each i;
  ping_idle = ping_idle i;
  fail_on = fail_on i;
  limits = limits i;
  port_above = is_prop→PathP (λ j. 1 ≤ port j) (λ j. hlevel props) e.port_above f.port_above i;
  retries_above = is_prop→PathP (λ j. 1 ≤ retries j) (λ j. hlevel props) e.retries_above f.retries_above i;
  retries_below = is_prop→PathP (λ j. retries j ≤ 10) (λ j. hlevel props) e.retries_below f.retries_below i;
  packet_above = is_prop→PathP (λ j. 8192 ≤ packet j) (λ j. hlevel props) e.packet_above f.packet_above i;
  packet_below = is_prop→PathP (λ j. packet j ≤ 65536) (λ j. hlevel props) e.packet_below f.packet_below i;
  recovery_below = is_prop→PathP (λ j. recovery j ≤ 31) (λ j. hlevel props) e.recovery_below f.recovery_below i;
}

book_is : (a b : LbConfig) → a.method ≡ b.method → a.sticky ≡ b.sticky → a.force ≡ b.force → a.direct ≡ b.direct → a.maintain ≡ b.maintain
    → a.recover ≡ b.recover → a.members ≡ b.members → a ≡ b
book_is a b method sticky force direct maintain recover members = λ i. record {
  method = method i;
  sticky = sticky i;
  force = force i;
  direct = direct i;
  maintain = maintain i;
  recover = recover i;
  members = members i;
  count = is_prop→PathP (λ j. IsCount (length (members j))) (λ j. hlevel props) a.count b.count i;
  in_range = is_prop→PathP (λ j. AreInRange (members j)) (λ j. hlevel props) a.in_range b.in_range i;
  maintains = is_prop→PathP (λ j. IsPeriod (maintain j)) (λ j. hlevel props) a.maintains b.maintains i;
  recovers = is_prop→PathP (λ j. IsPeriod (recover j)) (λ j. hlevel props) a.recovers b.recovers i;
  narrow = is_prop→PathP (λ j. multiple_of (factors_in (members j)) < 2 ^ 32) (λ j. hlevel props) a.narrow b.narrow i;
}

lb_is : (a b : Lb) → a.name ≡ b.name → a.book ≡ b.book → a.ends ≡ b.ends → a.cookie ≡ b.cookie → a.path ≡ b.path → a ≡ b
lb_is a b name book ends cookie path = λ i. record {
  name = name i;
  book = book i;
  ends = ends i;
  cookie = cookie i;
  path = path i;
  paired = is_prop→PathP (λ j. length (ends j) ≡ length ((book j).members)) (λ j. hlevel props) a.paired b.paired i;
  cookie_filled = is_prop→PathP (λ j. 0 < length (cookie j)) (λ j. hlevel props) a.cookie_filled b.cookie_filled i;
  path_filled = is_prop→PathP (λ j. 0 < length (path j)) (λ j. hlevel props) a.path_filled b.path_filled i;
}

config_is : (a b : Config) → a.lbs ≡ b.lbs → a.statuses ≡ b.statuses → a.listed ≡ b.listed → a.maintain ≡ b.maintain → a.ignored ≡ b.ignored → a ≡ b
config_is a b lbs statuses listed maintain ignored = λ i. record {
  lbs = lbs i;
  statuses = statuses i;
  listed = listed i;
  maintain = maintain i;
  ignored = ignored i;
  few = is_prop→PathP (λ j. length (lbs j) ≤ 1024) (λ j. hlevel props) a.few b.few i;
  placed = is_prop→PathP (λ j. are_places (length (lbs j)) (length (statuses j)) (listed j) ≡ true) (λ j. hlevel props) a.placed b.placed i;
  maintain_above = is_prop→PathP (λ j. 1 ≤ maintain j) (λ j. hlevel props) a.maintain_above b.maintain_above i;
  maintain_below = is_prop→PathP (λ j. maintain j ≤ 86400) (λ j. hlevel props) a.maintain_below b.maintain_below i;
}

-- the directives in force are one member's
pub endpoint_one : (v : Directive → Option Property) (e f : Endpoint) → IsEndpoint v e → IsEndpoint v f → e ≡ f
endpoint_one v e f x y =
    endpoint_is e f (x.host ∙ sym y.host) (x.port ∙ sym y.port) (x.retries ∙ sym y.retries) (x.packet ∙ sym y.packet) (x.secret ∙ sym y.secret)
    (x.recovery ∙ sym y.recovery) (x.ping_new ∙ sym y.ping_new) (x.ping_each ∙ sym y.ping_each) (x.ping_idle ∙ sym y.ping_idle)
    (x.fail_on ∙ sym y.fail_on) (limits_one v e.limits f.limits x.limits y.limits)

pub member_one : (v : Directive → Option Property) (name : List ℕ) (routes : List (List ℕ)) (i : ℕ) (m n : MemberConfig) → IsMember v name routes i m → IsMember v name routes i n → m ≡ n
member_one v name routes i m n x y = λ k. record {
  name = (x.named ∙ sym y.named) k;
  route = (x.route ∙ sym y.route) k;
  factor = (x.factor ∙ sym y.factor) k;
  distance = (x.distance ∙ sym y.distance) k;
  activation = (x.activation ∙ sym y.activation) k;
  redirect = (x.redirect ∙ sym y.redirect) k;
  pool = (x.pool ∙ sym y.pool) k;
}

-- the routes of listed members don't rest on the redirects
pub routes_one : (ps : List Property) (some other : List (List ℕ)) (i : ℕ) (ls : List Listing) (ms ns : List MemberConfig) (es fs : List Endpoint)
    → AreMembers ps some i ls ms es → AreMembers ps other i ls ns fs → routes_of ms ≡ routes_of ns
routes_one ps some other i [] [] [] es fs a b = refl
routes_one ps some other i [] [] (n ∷ ns) es fs a b = absurd b
routes_one ps some other i [] (m ∷ ms) ns es fs a b = absurd a
routes_one ps some other i (l ∷ ls) [] ns es fs a b = absurd a
routes_one ps some other i (l ∷ ls) (m ∷ ms) [] es fs a b = absurd b
routes_one ps some other i (l ∷ ls) (m ∷ ms) (n ∷ ns) [] fs a b = absurd a
routes_one ps some other i (l ∷ ls) (m ∷ ms) (n ∷ ns) (e ∷ es) [] a b = absurd b
routes_one ps some other i (l ∷ ls) (m ∷ ms) (n ∷ ns) (e ∷ es) (f ∷ fs) a b =
    let chains = chain_one ps l.name a.0.0 b.0.0 a.0.1 b.0.1 in
    let route : m.route ≡ n.route =
    a.0.2.route ∙ ap (λ (c : List (List ℕ)). text_or l.name (in_force ps l.name c directive.Route)) chains ∙ sym b.0.2.route in
    ap (λ (r : List ℕ). r ∷ routes_of ms) route ∙ ap (λ (rs : List (List ℕ)). n.route ∷ rs) (routes_one ps some other (i + 1) ls ms ns es fs a.1 b.1)

pub members_one : (ps : List Property) (routes : List (List ℕ)) (i : ℕ) (ls : List Listing) (ms ns : List MemberConfig) (es fs : List Endpoint)
    → AreMembers ps routes i ls ms es → AreMembers ps routes i ls ns fs → (ms ≡ ns) × (es ≡ fs)
members_one ps routes i [] [] [] [] [] a b = (refl, refl)
members_one ps routes i [] [] [] [] (f ∷ fs) a b = absurd b
members_one ps routes i [] [] [] (e ∷ es) fs a b = absurd a
members_one ps routes i [] [] (n ∷ ns) es fs a b = absurd b
members_one ps routes i [] (m ∷ ms) ns es fs a b = absurd a
members_one ps routes i (l ∷ ls) [] ns es fs a b = absurd a
members_one ps routes i (l ∷ ls) (m ∷ ms) [] es fs a b = absurd b
members_one ps routes i (l ∷ ls) (m ∷ ms) (n ∷ ns) [] fs a b = absurd a
members_one ps routes i (l ∷ ls) (m ∷ ms) (n ∷ ns) (e ∷ es) [] a b = absurd b
members_one ps routes i (l ∷ ls) (m ∷ ms) (n ∷ ns) (e ∷ es) (f ∷ fs) a b =
    let chains = chain_one ps l.name b.0.0 a.0.0 b.0.1 a.0.1 in
    let also : IsMember (in_force ps l.name a.0.0) l.name routes i n =
    subst (λ (c : List (List ℕ)). IsMember (in_force ps l.name c) l.name routes i n) chains b.0.2 in
    let reached : IsEndpoint (in_force ps l.name a.0.0) f =
    subst (λ (c : List (List ℕ)). IsEndpoint (in_force ps l.name c) f) chains b.0.3 in
    let member = member_one (in_force ps l.name a.0.0) l.name routes i m n a.0.2 also in
    let end = endpoint_one (in_force ps l.name a.0.0) e f a.0.3 reached in
    let rest = members_one ps routes (i + 1) ls ms ns es fs a.1 b.1 in (
      ap (λ (x : MemberConfig). x ∷ ms) member ∙ ap (λ (xs : List MemberConfig). n ∷ xs) rest.0,
      ap (λ (x : Endpoint). x ∷ es) end ∙ ap (λ (xs : List Endpoint). f ∷ xs) rest.1,
    )

-- as many members as are listed
pub members_counted : (ps : List Property) (routes : List (List ℕ)) (i : ℕ) (ls : List Listing) (ms : List MemberConfig) (es : List Endpoint) → AreMembers ps routes i ls ms es → length ls ≡ length ms
members_counted ps routes i [] [] es a = refl
members_counted ps routes i [] (m ∷ ms) es a = absurd a
members_counted ps routes i (l ∷ ls) [] es a = absurd a
members_counted ps routes i (l ∷ ls) (m ∷ ms) [] a = absurd a
members_counted ps routes i (l ∷ ls) (m ∷ ms) (e ∷ es) a = ap suc (members_counted ps routes (i + 1) ls ms es a.1)

-- two lists of members of the same names, each with its own routes
pub same_members : (ps : List Property) (ls : List Listing) (ms ns : List MemberConfig) (es fs : List Endpoint)
    → AreMembers ps (routes_of ms) 0 ls ms es → AreMembers ps (routes_of ns) 0 ls ns fs → (ms ≡ ns) × (es ≡ fs)
same_members ps ls ms ns es fs a b =
    let routes = routes_one ps (routes_of ns) (routes_of ms) 0 ls ns ms fs es b a in
    let also : AreMembers ps (routes_of ms) 0 ls ns fs = subst (λ (r : List (List ℕ)). AreMembers ps r 0 ls ns fs) routes b in
    members_one ps (routes_of ms) 0 ls ms ns es fs a also

pub lb_one : (ps : List Property) (v : Directive → Option Property) (maintain : ℕ) (name : List ℕ) (ls : List Listing) (a b : Lb)
    → IsLb ps v maintain name ls a → IsLb ps v maintain name ls b → a ≡ b
lb_one ps v maintain name ls a b x y =
    let same = same_members ps ls a.book.members b.book.members x.own y.own x.members y.members in
    let ends = x.ends ∙ ap (λ (es : List Endpoint). map (shared (text_in (v directive.Secret))) es) same.1 ∙ sym y.ends in
    let book = book_is a.book b.book (x.method ∙ sym y.method) (x.sticky ∙ sym y.sticky) (x.force ∙ sym y.force) (x.indirect ∙ sym y.indirect)
    (x.period ∙ sym y.period) (x.recover ∙ sym y.recover) same.0 in
    lb_is a b (x.named ∙ sym y.named) book ends (x.cookie ∙ sym y.cookie) (x.path ∙ sym y.path)

pub direct_one : (ps : List Property) (maintain : ℕ) (l : Listing) (a b : Lb) → IsDirect ps maintain l a → IsDirect ps maintain l b → a ≡ b
direct_one ps maintain l a b x y =
    let same = same_members ps (l ∷ []) a.book.members b.book.members a.ends b.ends x.members y.members in
    let book = book_is a.book b.book (x.method ∙ sym y.method) (x.sticky ∙ sym y.sticky) (x.force ∙ sym y.force) (x.direct ∙ sym y.direct)
    (x.period ∙ sym y.period) (x.recover ∙ sym y.recover) same.0 in
    lb_is a b (x.named ∙ sym y.named) book same.1 (x.cookie ∙ sym y.cookie) (x.path ∙ sym y.path)

-- what a listed worker adds
kind_one : (ps : List Property) (maintain : ℕ) (l : Listing) (v : Directive → Option Property) (k : WorkerKind) (old a b : Draft)
    → AddsKind ps maintain l v k old a → AddsKind ps maintain l v k old b → a ≡ b
kind_one ps maintain l v kind.Status old a b x y =
    let same : x.0 ≡ y.0 = λ i. record { name = (x.1 ∙ sym y.1) i; read_only = (x.2 ∙ sym y.2) i; closed = (x.3 ∙ sym y.3) i } in
    x.4 ∙ ap (λ (s : Status). with_status old l.name s) same ∙ sym y.4
kind_one ps maintain l v kind.Ajp13 old a b x y =
    x.3 ∙ ap (λ (lb : Lb). with_lb old l.name lb) (direct_one ps maintain l x.1 y.1 x.2 y.2) ∙ sym y.3
kind_one ps maintain l v kind.Lb old a b x y =
    let members = firsts (members_in ps (v directive.BalanceWorkers)) in
    x.5 ∙ ap (λ (lb : Lb). with_lb old l.name lb) (lb_one ps v maintain l.name members x.3 y.3 x.4 y.4) ∙ sym y.5

pub adds_one : (ps : List Property) (maintain : ℕ) (l : Listing) (old a b : Draft) → AddsListing ps maintain l old a → AddsListing ps maintain l old b → a ≡ b
adds_one ps maintain l old a b x y =
    let chains = chain_one ps l.name y.1 x.1 y.2 x.2 in
    let also : AddsKind ps maintain l (in_force ps l.name x.1) (kind_in (in_force ps l.name x.1 directive.Kind)) old b =
    subst (λ (c : List (List ℕ)). AddsKind ps maintain l (in_force ps l.name c) (kind_in (in_force ps l.name c directive.Kind)) old b) chains y.3 in
    kind_one ps maintain l (in_force ps l.name x.1) (kind_in (in_force ps l.name x.1 directive.Kind)) old a b x.3 also

builds_one : (ps : List Property) (maintain : ℕ) (ls : List Listing) (old a b : Draft) → Builds ps maintain ls old a → Builds ps maintain ls old b → a ≡ b
builds_one ps maintain [] old a b x y = x ∙ sym y
builds_one ps maintain (l ∷ ls) old a b x y =
    let mid = adds_one ps maintain l old y.0 x.0 y.1 x.1 in
    builds_one ps maintain ls x.0 a b x.2 (subst (λ (d : Draft). Builds ps maintain ls d b) mid y.2)

pub same_properties : (a b : List Property) (r : Result (List Property) PropsRefusal) → r ≡ Ok a → r ≡ Ok b → a ≡ b
same_properties a b r x y = cc

-- a text has one configuration
pub config_one : (text : List ℕ) (a b : Config) → IsConfig text a → IsConfig text b → a ≡ b
config_one text a b x y =
    let ps = same_properties y.properties x.properties (read_text true text) y.read x.read in
    let also : Builds x.properties (maintain_of x.properties) (firsts (site_list x.properties)) no_workers (draft_of b) =
    subst (λ (p : List Property). Builds p (maintain_of p) (firsts (site_list p)) no_workers (draft_of b)) ps y.workers in
    let drafts = builds_one x.properties (maintain_of x.properties) (firsts (site_list x.properties)) no_workers (draft_of a) (draft_of b) x.workers also in
    config_is a b (ap (λ (d : Draft). d.lbs) drafts) (ap (λ (d : Draft). d.statuses) drafts) (ap (λ (d : Draft). d.listed) drafts)
    (x.maintain ∙ ap maintain_of (sym ps) ∙ sym y.maintain) (x.ignored ∙ ap ignored_of (sym ps) ∙ sym y.ignored)
