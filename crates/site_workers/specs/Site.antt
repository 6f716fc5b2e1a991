-- The configuration of a workers.properties, or its first refusal.
use Rattle.std.specs.Prelude.{◌≡◌, ℕ, ◌+◌, ◌<◌, ◌≤◌, ◌^◌, Bool, true, false, List, [], ◌∷◌, ◌++◌, Option, Some, None, Ok, Err, ◌⊎◌, ◌≢◌, if◌then◌else◌, not, length, map, filter, codes, unwrap_or}
use Rattle.std.specs.Option.{is_some, option_and_then}
use Rattle.std.specs.Str.{bytes_eq}
use Rattle.lb_model.specs.Limits.{most_balancers, most_members}
use Rattle.lb_model.specs.Multiple.{multiple_of}
use Rattle.lb_model.specs.Ranges.{factors_in}
use Rattle.lb_model.specs.declared.member.MemberConfig.{MemberConfig}
use Rattle.lb_model.specs.declared.member.Method.TheVariants as method
use Rattle.site_config.specs.declared.property.Property.{Property}
use Rattle.site_config.specs.declared.values.WorkerKind.{WorkerKind}
use Rattle.site_config.specs.declared.values.WorkerKind.TheVariants as kind
use Rattle.site_config.specs.declared.directive.Directive.{Directive}
use Rattle.site_config.specs.declared.directive.Directive.TheVariants as directive
use Rattle.site_config.specs.declared.error.PropsReason.TheVariants as reason
use Rattle.site_config.specs.declared.endpoint.Endpoint.{Endpoint}
use Rattle.site_config.specs.declared.balancer.Lb.{Lb}
use Rattle.site_config.specs.declared.config.Status.{Status}
use Rattle.site_config.specs.declared.config.Config.{Config}
use Rattle.site_workers.specs.declared.draft.Draft.{Draft}
use Rattle.site_config.specs.declared.config.Named.TheVariants as named
use Rattle.site_config.specs.declared.error.PropsRefusal.{PropsRefusal}
use Rattle.site_config.specs.Refusals.{refusal}
use Rattle.site_config.specs.Directives.{directive_of, worker_part, list_key, maintain_key}
use Rattle.site_config.specs.Meanings.{period_of}
use Rattle.site_config.specs.Properties.{read_text}
use Rattle.site_workers.specs.Given.{IsChain, in_force, is_given, last_of, BreaksAt}
use Rattle.site_workers.specs.Lists.{Listing, firsts, site_list, members_in}
use Rattle.site_workers.specs.Settings.{IsEndpoint, IsMember, filled_or, is_closed, kind_in, method_in, number_or, shared, text_in, truth_or}

-- the members of these names, from place i on, with how each is reached
abbrev pub AreMembers : List Property → List (List ℕ) → ℕ → List Listing → List MemberConfig → List Endpoint → Type 0
AreMembers ps routes i [] [] [] = Unit {0}
AreMembers ps routes i (l ∷ ls) (m ∷ ms) (e ∷ es) =
    ((more : List (List ℕ)) × IsChain ps l.name more × IsMember (in_force ps l.name more) l.name routes i m × IsEndpoint (in_force ps l.name more) e)
    × AreMembers ps routes (i + 1) ls ms es
AreMembers ps routes i ls ms es = ⊥

abbrev pub routes_of : List MemberConfig → List (List ℕ)
routes_of ms = map (λ m. m.route) ms

-- a balancer of these members, with the directives in force; `own` is how each is reached by its own directives
pub record IsLb (ps : List Property) (v : Directive → Option Property) (maintain : ℕ) (name : List ℕ) (ls : List Listing) (lb : Lb) : Type 0 where
  pub named : lb.name ≡ name
  pub method : lb.book.method ≡ method_in (v directive.Method)
  pub sticky : lb.book.sticky ≡ truth_or v directive.Sticky true
  pub force : lb.book.force ≡ truth_or v directive.Force false
  pub indirect : lb.book.direct ≡ false
  pub period : lb.book.maintain ≡ maintain
  pub recover : lb.book.recover ≡ number_or v directive.RecoverTime 60
  pub own : List Endpoint
  pub members : AreMembers ps (routes_of lb.book.members) 0 ls lb.book.members own
  pub ends : lb.ends ≡ map (shared (text_in (v directive.Secret))) own
  pub cookie : lb.cookie ≡ filled_or (codes "JSESSIONID") (v directive.Cookie)
  pub path : lb.path ≡ filled_or (codes ";jsessionid") (v directive.Path)

-- the balancer of one worker that is listed itself: the defaults, not sticky, direct
pub record IsDirect (ps : List Property) (maintain : ℕ) (l : Listing) (lb : Lb) : Type 0 where
  pub named : lb.name ≡ l.name
  pub method : lb.book.method ≡ method.Request
  pub sticky : lb.book.sticky ≡ false
  pub force : lb.book.force ≡ false
  pub direct : lb.book.direct ≡ true
  pub period : lb.book.maintain ≡ maintain
  pub recover : lb.book.recover ≡ 60
  pub members : AreMembers ps (routes_of lb.book.members) 0 (l ∷ []) lb.book.members lb.ends
  pub cookie : lb.cookie ≡ codes "JSESSIONID"
  pub path : lb.path ≡ codes ";jsessionid"

-- `fine` holds of each
abbrev pub Each : (Listing → Type 0) → List Listing → Type 0
Each fine [] = Unit {0}
Each fine (l ∷ ls) = fine l × Each fine ls

-- the first that isn't fine is refused
abbrev pub FirstBad : (Listing → Type 0) → (Listing → PropsRefusal → Type 0) → List Listing → PropsRefusal → Type 0
FirstBad fine bad [] r = ⊥
FirstBad fine bad (l ∷ ls) r = bad l r ⊎ (fine l × FirstBad fine bad ls r)

abbrev pub HasChain : List Property → List ℕ → Type 0
HasChain ps name = (more : List (List ℕ)) × IsChain ps name more

-- the worker's type
abbrev pub HasKind : List Property → List ℕ → WorkerKind → Type 0
HasKind ps name k = (more : List (List ℕ)) × IsChain ps name more × (kind_in (in_force ps name more directive.Kind) ≡ k)

abbrev pub Breaks : List Property → Listing → PropsRefusal → Type 0
Breaks ps l r = (line : ℕ) × BreaksAt ps l.name line × (r ≡ refusal line reason.BadReference)

abbrev pub IsUnknown : List Property → Listing → PropsRefusal → Type 0
IsUnknown ps l r = (is_given ps l.name ≡ false) × (r ≡ refusal l.line reason.UnknownWorker)

abbrev pub IsNoAjp13 : List Property → Listing → PropsRefusal → Type 0
IsNoAjp13 ps l r = ((k : WorkerKind) × (k ≢ kind.Ajp13) × HasKind ps l.name k) × (r ≡ refusal l.line reason.NoAjp13)

-- what each member of an lb worker passes: its references lead on, it has a directive, and its type is ajp13
abbrev pub Chained : List Property → Listing → Type 0
Chained ps l = HasChain ps l.name

abbrev pub Known : List Property → Listing → Type 0
Known ps l = is_given ps l.name ≡ true

-- a listed worker has a directive, and its references lead on
pub record IsTraced (ps : List Property) (l : Listing) : Type 0 where
  pub known : Known ps l
  pub chained : Chained ps l

abbrev pub IsAjp13 : List Property → Listing → Type 0
IsAjp13 ps l = HasKind ps l.name kind.Ajp13

-- the refusals of a balancer's members themselves: none, more than 64, factors that are too wide
abbrev pub RefusesBook : List Property → ℕ → List Listing → PropsRefusal → Type 0
RefusesBook ps line members r =
    ((length members ≡ 0) × (r ≡ refusal line reason.NoMembers))
    ⊎ (((most_members < length members) × (r ≡ refusal line reason.TooManyMembers))
    ⊎ ((ms : List MemberConfig) × (es : List Endpoint) × (1 ≤ length members) × (length members ≤ most_members)
    × AreMembers ps (routes_of ms) 0 members ms es × (2 ^ 32 ≤ multiple_of (factors_in ms)) × (r ≡ refusal line reason.TooWide)))

abbrev pub line_in : Option Property → ℕ
line_in None = 0
line_in (Some p) = p.line

-- the refusals of an lb after `count` balancers, each after those before it
abbrev pub RefusesLb : List Property → ℕ → Listing → (Directive → Option Property) → List Listing → PropsRefusal → Type 0
RefusesLb ps count l v members r =
    FirstBad (Chained ps) (Breaks ps) members r
    ⊎ ((Each (Chained ps) members × FirstBad (Known ps) (IsUnknown ps) members r)
    ⊎ ((Each (Chained ps) members × Each (Known ps) members × (most_balancers ≤ count) × (r ≡ refusal l.line reason.TooManyBalancers))
    ⊎ ((Each (Chained ps) members × Each (Known ps) members × (count < most_balancers) × FirstBad (IsAjp13 ps) (IsNoAjp13 ps) members r)
    ⊎ (Each (Known ps) members × (count < most_balancers) × Each (IsAjp13 ps) members × RefusesBook ps (line_in (v directive.Kind)) (firsts members) r))))

abbrev pub RefusesKind : List Property → ℕ → Listing → (Directive → Option Property) → WorkerKind → PropsRefusal → Type 0
RefusesKind ps count l v kind.Status r = ⊥
RefusesKind ps count l v kind.Ajp13 r = (most_balancers ≤ count) × (r ≡ refusal l.line reason.TooManyBalancers)
RefusesKind ps count l v kind.Lb r = RefusesLb ps count l v (members_in ps (v directive.BalanceWorkers)) r

-- the refusals of a listed worker after `count` balancers
abbrev pub RefusesListing : List Property → ℕ → Listing → PropsRefusal → Type 0
RefusesListing ps count l r =
    Breaks ps l r
    ⊎ (IsUnknown ps l r
    ⊎ (Known ps l × (more : List (List ℕ)) × IsChain ps l.name more
    × RefusesKind ps count l (in_force ps l.name more) (kind_in (in_force ps l.name more directive.Kind)) r))

-- a balancer, or a status worker, and its name at the end of those so far
abbrev pub with_lb : Draft → List ℕ → Lb → Draft
with_lb d name lb = record { lbs = d.lbs ++ lb ∷ []; statuses = d.statuses; listed = d.listed ++ (name, named.Balancer (length d.lbs)) ∷ [] }

abbrev pub with_status : Draft → List ℕ → Status → Draft
with_status d name s = record { lbs = d.lbs; statuses = d.statuses ++ s ∷ []; listed = d.listed ++ (name, named.Status (length d.statuses)) ∷ [] }

-- what an accepted worker of this type adds
abbrev pub AddsKind : List Property → ℕ → Listing → (Directive → Option Property) → WorkerKind → Draft → Draft → Type 0
AddsKind ps maintain l v kind.Status old new =
    (s : Status) × (s.name ≡ l.name) × (s.read_only ≡ truth_or v directive.ReadOnly false) × (s.closed ≡ is_closed v) × (new ≡ with_status old l.name s)
AddsKind ps maintain l v kind.Ajp13 old new =
    (length old.lbs < most_balancers) × (lb : Lb) × IsDirect ps maintain l lb × (new ≡ with_lb old l.name lb)
AddsKind ps maintain l v kind.Lb old new =
    let members = members_in ps (v directive.BalanceWorkers) in
    (length old.lbs < most_balancers) × Each (Known ps) members × Each (IsAjp13 ps) members
    × (lb : Lb) × IsLb ps v maintain l.name (firsts members) lb × (new ≡ with_lb old l.name lb)

abbrev pub AddsListing : List Property → ℕ → Listing → Draft → Draft → Type 0
AddsListing ps maintain l old new =
    Known ps l × (more : List (List ℕ)) × IsChain ps l.name more
    × AddsKind ps maintain l (in_force ps l.name more) (kind_in (in_force ps l.name more directive.Kind)) old new

-- the listed workers, in order, all accepted
abbrev pub Builds : List Property → ℕ → List Listing → Draft → Draft → Type 0
Builds ps maintain [] old new = new ≡ old
Builds ps maintain (l ∷ ls) old new = (mid : Draft) × AddsListing ps maintain l old mid × Builds ps maintain ls mid new

-- the listed workers, in order, up to the first that is refused
abbrev pub StopsAtListing : List Property → ℕ → List Listing → Draft → PropsRefusal → Type 0
StopsAtListing ps maintain [] old r = ⊥
StopsAtListing ps maintain (l ∷ ls) old r = RefusesListing ps (length old.lbs) l r ⊎ ((mid : Draft) × AddsListing ps maintain l old mid × StopsAtListing ps maintain ls mid r)

-- the seconds between two maintenances
abbrev pub is_maintain_line : Property → Bool
is_maintain_line p = bytes_eq p.key maintain_key

abbrev pub maintain_in : Option Property → ℕ
maintain_in p = unwrap_or (option_and_then period_of (text_in p)) 60

abbrev pub maintain_of : List Property → ℕ
maintain_of ps = maintain_in (last_of is_maintain_line ps)

-- whether a key has an effect
abbrev pub is_built_part : Option (List ℕ × List ℕ) → List ℕ → Bool
is_built_part None key = if bytes_eq key list_key then true else bytes_eq key maintain_key
is_built_part (Some parts) key = is_some (directive_of parts.1)

abbrev pub is_built : List ℕ → Bool
is_built key = is_built_part (worker_part key) key

abbrev pub ignored_of : List Property → List (ℕ × List ℕ)
ignored_of ps = map (λ p. (p.line, p.key)) (filter (λ p. not (is_built p.key)) ps)

abbrev pub no_workers : Draft
no_workers = record { lbs = []; statuses = []; listed = [] }

abbrev pub draft_of : Config → Draft
draft_of c = record { lbs = c.lbs; statuses = c.statuses; listed = c.listed }

-- the configuration of a text
pub record IsConfig (text : List ℕ) (c : Config) : Type 0 where
  pub properties : List Property
  pub read : read_text true text ≡ Ok properties
  pub maintain : c.maintain ≡ maintain_of properties
  pub workers : Builds properties (maintain_of properties) (firsts (site_list properties)) no_workers (draft_of c)
  pub ignored : c.ignored ≡ ignored_of properties

-- the first refusal of the workers that these lines give, each of which passes by itself
abbrev pub RefusesWorkers : List Property → PropsRefusal → Type 0
RefusesWorkers ps r = StopsAtListing ps (maintain_of ps) (firsts (site_list ps)) no_workers r

-- the first refusal of a text: of a line by itself, or else of the workers
abbrev pub IsRefusedText : List ℕ → PropsRefusal → Type 0
IsRefusedText text r =
    (read_text true text ≡ Err r) ⊎ ((ps : List Property) × (read_text true text ≡ Ok ps) × RefusesWorkers ps r)
