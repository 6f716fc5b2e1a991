-- Lines of a workers.properties that a later line with the same key replaces.
use Rattle.std.specs.Prelude.{◌≡◌, ℕ, Bool, true, false, List, Option, Some, None, nat_lt, ◌&&◌}
use Rattle.std.specs.Option.{option_map}
use Rattle.std.specs.Str.{bytes_eq}
use Rattle.std.specs.HashMap.{HashMap, get_by}
use Rattle.std.specs.declared.hash.FoldHasher.{FoldHasher}
use Rattle.std.specs.declared.hash.BuildHasherDefault.{BuildHasherDefault}
use Rattle.site_config.specs.declared.directive.Directive.{Directive}
use Rattle.site_config.specs.declared.directive.Directive.TheVariants as directive
use Rattle.site_config.specs.declared.property.Property.{Property}
use Rattle.site_config.specs.Directives.{directive_of, maintain_key, worker_part}
use Rattle.site_workers.specs.Given.{last_of}
use denote.Ref.{Bor}

-- a directive that is built, other than the lists of members, which are joined
abbrev pub is_single_directive : Option Directive → Bool
is_single_directive None = false
is_single_directive (Some directive.BalanceWorkers) = false
is_single_directive (Some d) = true

abbrev pub is_single_with : List ℕ → Option (List ℕ × List ℕ) → Bool
is_single_with key None = bytes_eq key maintain_key
is_single_with key (Some parts) = is_single_directive (directive_of parts.1)

-- a key of which the last line alone counts
abbrev pub is_single : List ℕ → Bool
is_single key = is_single_with key (worker_part key)

-- a line of this key, where the last one alone counts
abbrev pub gives_single : List ℕ → Property → Bool
gives_single key p = is_single p.key && bytes_eq p.key key

-- the last line of this key
abbrev pub last_line : List ℕ → List Property → Option ℕ
last_line key ps = option_map (λ p. p.line) (last_of (gives_single key) ps)

abbrev pub is_before : ℕ → Option ℕ → Bool
is_before line None = false
is_before line (Some last) = nat_lt line last

-- a later one of these lines gives the key again
abbrev pub is_again : List Property → Property → Bool
is_again ps p = is_before p.line (last_line p.key ps)

-- the table finds the last line of each key, and nothing else
abbrev pub IsLineTable : HashMap (Bor (List ℕ)) ℕ (BuildHasherDefault FoldHasher) → List Property → Type 0
IsLineTable table ps = (key : List ℕ) → get_by (λ k. bytes_eq key k.now) table ≡ last_line key ps
