-- Notes on a workers.properties: on each line of which a site of mod_jk would expect an effect, and which has none, or another one.
use Rattle.std.specs.Prelude.{◌≡◌, ℕ, Bool, true, false, List, [], ◌∷◌, ◌++◌, Option, Some, None, Ok, codes, is_some, map, slice_get, if◌then◌else◌, ◌||◌, ◌==◌}
use Rattle.std.specs.Bool.{nat_eq}
use Rattle.std.specs.List.{flat_map, list_any, starts_with}
use Rattle.std.specs.Str.{bytes_eq}
use Rattle.lb_model.specs.declared.member.MemberConfig.{MemberConfig}
use Rattle.site_config.specs.declared.directive.Directive.{Directive}
use Rattle.site_config.specs.declared.directive.Directive.TheVariants as directive
use Rattle.site_config.specs.declared.property.Property.{Property}
use Rattle.site_config.specs.declared.values.WorkerKind.{WorkerKind}
use Rattle.site_config.specs.declared.values.WorkerKind.TheVariants as kind
use Rattle.site_config.specs.Directives.{behind_worker, directive_of, list_key, maintain_key, worker_part}
use Rattle.site_config.specs.Properties.{read_text}
use Rattle.site_config.specs.declared.balancer.Lb.{Lb}
use Rattle.site_config.specs.declared.config.Config.{Config}
use Rattle.site_config.specs.declared.config.Named.{Named}
use Rattle.site_config.specs.declared.config.Named.TheVariants as named
use Rattle.site_workers.specs.Given.{or_else}
use Rattle.site_reports.specs.Again.{is_again}
use Rattle.site_reports.specs.declared.no_effect.NoEffect.{NoEffect}
use Rattle.site_reports.specs.declared.no_effect.NoEffect.TheVariants as why
use Rattle.site_reports.specs.declared.no_effect.WorkersNote.{WorkersNote}

-- a balancer that was made of one listed worker is of type ajp13
abbrev pub balancer_kind : Option Lb → WorkerKind
balancer_kind None = kind.Lb
balancer_kind (Some lb) = if lb.book.direct then kind.Ajp13 else kind.Lb

abbrev pub listed_kind : List Lb → Named → WorkerKind
listed_kind lbs (named.Status i) = kind.Status
listed_kind lbs (named.Balancer i) = balancer_kind (slice_get lbs i)

abbrev pub member_kinds : Lb → List (List ℕ × WorkerKind)
member_kinds lb = map (λ m. (m.name, kind.Ajp13)) lb.book.members

-- the workers of a configuration with their types: the members of each balancer, then those that are listed
abbrev pub kinds_of : Config → List (List ℕ × WorkerKind)
kinds_of c = flat_map member_kinds c.lbs ++ map (λ entry. (entry.0, listed_kind c.lbs entry.1)) c.listed

-- the type of a worker of this name; of one that stands there twice the last one counts
abbrev pub kind_among : List ℕ → List (List ℕ × WorkerKind) → Option WorkerKind
kind_among name [] = None
kind_among name (entry ∷ kinds) = or_else (kind_among name kinds) (if bytes_eq entry.0 name then Some entry.1 else None)

-- the members of a configuration whose redirect names another one, as workers with their type
abbrev pub redirected_kind : MemberConfig → List (List ℕ × WorkerKind)
redirected_kind m = if is_some m.redirect then (m.name, kind.Ajp13) ∷ [] else []

abbrev pub redirected_kinds : Lb → List (List ℕ × WorkerKind)
redirected_kinds lb = flat_map redirected_kind lb.book.members

abbrev pub redirecting : Config → List (List ℕ × WorkerKind)
redirecting c = flat_map redirected_kinds c.lbs

-- what is noted of lines rests on the workers with their types, and on those whose redirect names another one
pub record SiteKinds : Type 0 where
  pub kinds : List (List ℕ × WorkerKind)
  pub redirects : List (List ℕ × WorkerKind)

abbrev pub site_kinds : Config → SiteKinds
site_kinds c = record { kinds = kinds_of c; redirects = redirecting c }

-- the type of worker that a directive is for; `type` and `reference` are for each
abbrev pub owner_of : Directive → Option WorkerKind
owner_of directive.Kind = None
owner_of directive.Reference = None
owner_of directive.BalanceWorkers = Some kind.Lb
owner_of directive.Method = Some kind.Lb
owner_of directive.Sticky = Some kind.Lb
owner_of directive.Force = Some kind.Lb
owner_of directive.RecoverTime = Some kind.Lb
owner_of directive.Cookie = Some kind.Lb
owner_of directive.Path = Some kind.Lb
owner_of directive.ReadOnly = Some kind.Status
owner_of directive.User = Some kind.Status
owner_of directive.Good = Some kind.Status
owner_of directive.Bad = Some kind.Status
owner_of d = Some kind.Ajp13

-- of a directive for the first type of worker that is given to a worker of the second
abbrev pub misplaced : WorkerKind → WorkerKind → Option NoEffect
misplaced kind.Ajp13 kind.Ajp13 = None
misplaced kind.Lb kind.Lb = None
misplaced kind.Status kind.Status = None
misplaced of at = Some (why.OtherType at)

abbrev pub misplaced_at : Option WorkerKind → Option WorkerKind → Option NoEffect
misplaced_at None at = None
misplaced_at (Some of) None = None
misplaced_at (Some of) (Some at) = misplaced of at

-- a balancer's secret is that of its members that have none
abbrev pub secret_at : Option WorkerKind → Option NoEffect
secret_at (Some kind.Status) = Some (why.OtherType kind.Status)
secret_at at = None

-- jkd knows no users
abbrev pub users_at : Option WorkerKind → Option NoEffect
users_at (Some kind.Status) = Some why.Users
users_at at = misplaced_at (Some kind.Status) at

-- of a directive that is given to a worker of this type, or to one that has no part in the configuration
abbrev pub directive_at : Option Directive → Option WorkerKind → Option NoEffect
directive_at None at = Some why.Unsupported
directive_at (Some directive.Secret) at = secret_at at
directive_at (Some directive.User) at = users_at at
directive_at (Some directive.Good) at = users_at at
directive_at (Some directive.Bad) at = users_at at
directive_at (Some d) at = misplaced_at (owner_of d) at

-- of a key that gives no worker a directive
abbrev pub other_key : List ℕ → Option NoEffect
other_key key =
    if bytes_eq key list_key || bytes_eq key maintain_key then None
    else (if is_some (behind_worker key) then Some why.NoDirective
    else Some why.NoWorker)

abbrev pub key_with : List (List ℕ × WorkerKind) → List ℕ → Option (List ℕ × List ℕ) → Option NoEffect
key_with kinds key None = other_key key
key_with kinds key (Some parts) = directive_at (directive_of parts.1) (kind_among parts.0 kinds)

-- of a key
abbrev pub key_at : List (List ℕ × WorkerKind) → List ℕ → Option NoEffect
key_at kinds key = key_with kinds key (worker_part key)

-- a text has `$(`, which in mod_jk begins the name of another property
abbrev pub has_variable : List ℕ → Bool
has_variable [] = false
has_variable (b ∷ bs) = starts_with nat_eq (b ∷ bs) (codes "$(") || has_variable bs

-- a text has `#`, at which it would end in mod_jk
abbrev pub has_hash : List ℕ → Bool
has_hash text = list_any (λ b. b == 35) text

-- of the redirect of a worker, where it is a member and its redirect names no other
abbrev pub redirect_at : (at : Option WorkerKind) → (redirects : Bool) → Option NoEffect
redirect_at (Some kind.Ajp13) false = Some why.Redirect
redirect_at at redirects = None

-- of the value of a directive, besides
abbrev pub given_at : SiteKinds → (name : List ℕ) → Option Directive → (value : List ℕ) → Option NoEffect
given_at k name (Some directive.Redirect) value = redirect_at (kind_among name k.kinds) (is_some (kind_among name k.redirects))
given_at k name (Some directive.Host) [] = Some why.NoHost
given_at k name d value = None

abbrev pub value_with : SiteKinds → Option (List ℕ × List ℕ) → (value : List ℕ) → Option NoEffect
value_with k None value = None
value_with k (Some parts) value = given_at k parts.0 (directive_of parts.1) value

-- of a value that has an effect, though not the one that mod_jk gives it
abbrev pub value_at : SiteKinds → Property → Option NoEffect
value_at k p =
    if has_variable p.value then Some why.Variable
    else (if has_hash p.value then Some why.Hash
    else value_with k (worker_part p.key) p.value)

abbrev pub or_again : Option NoEffect → (again : Bool) → (besides : Option NoEffect) → Option NoEffect
or_again None false besides = besides
or_again None true besides = Some why.Again
or_again (Some w) again besides = Some w

-- why one of these lines has no effect: by its key, since a later line gives it again, or by its value
abbrev pub no_effect : SiteKinds → List Property → Property → Option NoEffect
no_effect k ps p = or_again (key_at k.kinds p.key) (is_again ps p) (value_at k p)

abbrev pub note_with : Property → Option NoEffect → List WorkersNote
note_with p None = []
note_with p (Some w) = record { line = p.line; key = p.key; why = w } ∷ []

abbrev pub note_on : SiteKinds → List Property → Property → List WorkersNote
note_on k ps p = note_with p (no_effect k ps p)

-- the notes on these lines, in their order
abbrev pub notes_of : SiteKinds → List Property → List WorkersNote
notes_of k ps = flat_map (note_on k ps) ps

-- the notes are those on the lines of a workers.properties that gives this configuration
abbrev pub AreNotes : (text : List ℕ) → Config → List WorkersNote → Type 0
AreNotes text c notes = (ps : List Property) → read_text true text ≡ Ok ps → notes ≡ notes_of (site_kinds c) ps
