-- The mount of a path: the worker that the rules of a map give it, and the terms.
use Rattle.std.specs.Prelude.{ℕ, ◌+◌, Bool, true, false, not, List, [], ◌∷◌, Option, Some, None, is_some, if◌then◌else◌, ◌==◌, ◌||◌, ◌&&◌, nat_lt, length, find, unwrap_or}
use Rattle.std.specs.Option.{option_map, option_and_then}
use Rattle.std.specs.List.{list_all, list_any}
use Rattle.lb_model.specs.declared.ask.Terms.{Terms}
use Rattle.site_config.specs.declared.config.Named.{Named}
use Rattle.site_mounts.specs.declared.rule.Mount.{Mount}
use Rattle.site_mounts.specs.declared.rule.Rule.{Rule}
use Rattle.site_mounts.specs.Patterns.{has_wildcard, matches}
use Rattle.site_mounts.specs.Roles.{mount_of, excludes}

-- a rule that isn't an exclusion, and matches
abbrev pub mounts : List ℕ → Rule → Bool
mounts path r = is_some (mount_of r.role) && matches r.pattern path

-- the longer pattern goes first, and of equal lengths the later line
abbrev pub is_longer_or_later : (size line size' line' : ℕ) → Bool
is_longer_or_later size line size' line' = nat_lt size' size || ((size == size') && nat_lt line' line)

-- a rule without wildcards goes before one with
abbrev pub is_before_by : (wild : Bool) (size line : ℕ) (wild' : Bool) (size' line' : ℕ) → Bool
is_before_by false size line true size' line' = true
is_before_by true size line false size' line' = false
is_before_by false size line false size' line' = is_longer_or_later size line size' line'
is_before_by true size line true size' line' = is_longer_or_later size line size' line'

abbrev pub is_before : Rule → Rule → Bool
is_before q r =
    is_before_by (has_wildcard q.pattern) (length q.pattern) q.line (has_wildcard r.pattern) (length r.pattern) r.line

-- no rule that mounts the path goes before this one
abbrev pub is_best : List Rule → List ℕ → Rule → Bool
is_best rules path r = mounts path r && list_all (λ q. not (mounts path q && is_before q r)) rules

abbrev pub best : List Rule → List ℕ → Option Rule
best rules path = find (is_best rules path) rules

-- some exclusion takes the path away from this worker
abbrev pub is_excluded : List Rule → List ℕ → Named → Bool
is_excluded rules path worker = list_any (λ r. excludes r.role worker && matches r.pattern path) rules

-- exclusions are looked at after the best rule is found
abbrev pub unless_excluded : List Rule → List ℕ → Option Mount → Option Mount
unless_excluded rules path None = None
unless_excluded rules path (Some m) = if is_excluded rules path m.worker then None else Some m

abbrev pub taken : List Rule → List ℕ → Option Mount
taken rules path = unless_excluded rules path (option_and_then (λ r. mount_of r.role) (best rules path))

-- the worker at which a path is mounted
abbrev pub mount : List Rule → List ℕ → Option Named
mount rules path = option_map (λ m. m.worker) (taken rules path)

abbrev pub no_terms : Terms
no_terms = record { sticky_ignore = false; disabled = 0; stopped = 0; reply_timeout = None }

abbrev pub terms_by : Option Mount → Terms
terms_by None = no_terms
terms_by (Some m) = m.terms

-- the terms of the rule that mounts a path
abbrev pub terms : List Rule → List ℕ → Terms
terms rules path = terms_by (taken rules path)

-- the line of the first exclusion that takes the path away from this worker
abbrev pub exclusion_line : List Rule → List ℕ → Named → Option ℕ
exclusion_line [] path worker = None
exclusion_line (r ∷ rules) path worker = if excludes r.role worker && matches r.pattern path then Some r.line else exclusion_line rules path worker

abbrev pub line_by : List Rule → List ℕ → Option Rule → Option ℕ
line_by rules path None = None
line_by rules path (Some r) = option_map (λ m. unwrap_or (exclusion_line rules path m.worker) r.line) (mount_of r.role)

-- the line of the rule that decides about a path: the one that mounts it, or the first exclusion that takes it away
abbrev pub deciding_line : List Rule → List ℕ → Option ℕ
deciding_line rules path = line_by rules path (best rules path)

-- how many other lines rules stand on after one of this line; the rules of one line stand together
abbrev pub lines_behind : ℕ → List Rule → ℕ
lines_behind line [] = 0
lines_behind line (r ∷ rules) = if r.line == line then lines_behind line rules else lines_behind r.line rules + 1

-- how many lines rules stand on; lines are counted from 1
abbrev pub line_count : List Rule → ℕ
line_count rules = lines_behind 0 rules
