-- The directives that the lines of a workers.properties give a worker: of each the last line, and where there is none, the
-- line that holds for the worker that its reference names.
use Rattle.std.specs.Prelude.{◌≡◌, ℕ, Bool, true, false, List, [], ◌∷◌, Option, Some, None, if◌then◌else◌, ◌&&◌, unwrap_or}
use Rattle.std.specs.List.{list_any}
use Rattle.std.specs.Str.{bytes_eq}
use Rattle.site_config.specs.declared.property.Property.{Property}
use Rattle.site_config.specs.declared.directive.Directive.{Directive}
use Rattle.site_config.specs.declared.directive.Directive.TheVariants as directive
use Rattle.site_config.specs.Directives.{name_of, worker_part}
use Rattle.site_config.specs.Values.{target_of}

-- a key's parts are those of this worker, and of this directive
abbrev pub names_worker : List ℕ → Option (List ℕ × List ℕ) → Bool
names_worker name None = false
names_worker name (Some parts) = bytes_eq parts.0 name

abbrev pub names_both : List ℕ → List ℕ → Option (List ℕ × List ℕ) → Bool
names_both name directive None = false
names_both name directive (Some parts) = bytes_eq parts.0 name && bytes_eq parts.1 directive

-- the line gives the worker a directive, also one that isn't built
abbrev pub concerns : List ℕ → Property → Bool
concerns name p = names_worker name (worker_part p.key)

-- the line gives the worker this directive
abbrev pub gives : List ℕ → Directive → Property → Bool
gives name d p = names_both name (name_of d) (worker_part p.key)

-- the worker has a directive
abbrev pub is_given : List Property → List ℕ → Bool
is_given ps name = list_any (concerns name) ps

abbrev pub or_else : {A : Type 0} → Option A → Option A → Option A
or_else None other = other
or_else (Some x) other = Some x

-- a later line replaces an earlier one: of the lines that pass, the last
abbrev pub last_of : (Property → Bool) → List Property → Option Property
last_of passes [] = None
last_of passes (p ∷ ps) = or_else (last_of passes ps) (if passes p then Some p else None)

abbrev pub last_given : List Property → List ℕ → Directive → Option Property
last_given ps name d = last_of (gives name d) ps

-- the worker that a reference names
abbrev pub target_name : Property → List ℕ
target_name p = unwrap_or (target_of p.value) []

abbrev pub target_in : Option Property → Option (List ℕ)
target_in None = None
target_in (Some p) = Some (target_name p)

abbrev pub target_at : List Property → List ℕ → Option (List ℕ)
target_at ps name = target_in (last_given ps name directive.Reference)

-- the references from a worker on lead to these, one after another, each with a directive, and the last has none
abbrev pub IsChain : List Property → List ℕ → List (List ℕ) → Type 0
IsChain ps name [] = target_at ps name ≡ None
IsChain ps name (next ∷ more) = (target_at ps name ≡ Some next) × (is_given ps next ≡ true) × IsChain ps next more

-- the line that holds for the worker: its own, else that of the first on its chain that has one
abbrev pub in_force : List Property → List ℕ → List (List ℕ) → Directive → Option Property
in_force ps name [] d = last_given ps name d
in_force ps name (next ∷ more) d = or_else (last_given ps name d) (in_force ps next more d)

-- the name is among them
abbrev pub is_among : List ℕ → List (List ℕ) → Bool
is_among name names = list_any (λ n. bytes_eq n name) names

-- a walk along references, from `start` to `name`, past the workers `past`, the newest first: each has a directive,
-- and none comes twice
abbrev pub Walks : List Property → List ℕ → List (List ℕ) → List ℕ → Type 0
Walks ps start [] name = name ≡ start
Walks ps start (before ∷ past) name =
    (target_at ps before ≡ Some name) × (is_given ps name ≡ true) × (is_among name (before ∷ past) ≡ false) × Walks ps start past before

-- the walk hasn't passed the worker
abbrev pub not_passed : List ℕ → List (List ℕ) → Bool
not_passed target passed = if is_among target passed then false else true

-- walking from the worker, this is the line of the first reference whose target has no directive, or was passed before
pub record BreaksAt (ps : List Property) (start : List ℕ) (line : ℕ) : Type 0 where
  pub past : List (List ℕ)
  pub name : List ℕ
  pub walked : Walks ps start past name
  pub reference : Property
  pub last : last_given ps name directive.Reference ≡ Some reference
  pub at_line : reference.line ≡ line
  pub target : List ℕ
  pub names : target_at ps name ≡ Some target
  pub bad : (is_given ps target && not_passed target (name ∷ past)) ≡ false
