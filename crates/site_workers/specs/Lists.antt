-- Lists of workers: `worker.list` and `balance_workers`. Their lines are joined, and a repeated name counts once.
use Rattle.std.specs.Prelude.{ℕ, Bool, true, false, List, [], ◌∷◌, Option, Some, None, map, filter, if◌then◌else◌}
use Rattle.std.specs.List.{flat_map}
use Rattle.std.specs.Str.{bytes_eq}
use Rattle.site_config.specs.declared.property.Property.{Property}
use Rattle.site_config.specs.declared.directive.Directive.TheVariants as directive
use Rattle.site_config.specs.Directives.{worker_part, list_key}
use Rattle.site_config.specs.Names.{words}
use Rattle.site_workers.specs.Given.{gives}

-- a name of a list, and the line on which it stands
pub record Listing : Type 0 where
  pub name : List ℕ
  pub line : ℕ

abbrev pub listing_at : ℕ → List ℕ → Listing
listing_at line name = record { name = name; line = line }

abbrev pub listings_of : Property → List Listing
listings_of p = map (listing_at p.line) (words p.value)

-- the names of these lines, one line after another
abbrev pub joined : (Property → Bool) → List Property → List Listing
joined passes ps = flat_map listings_of (filter passes ps)

abbrev pub is_list_line : Property → Bool
is_list_line p = bytes_eq p.key list_key

abbrev pub site_list : List Property → List Listing
site_list ps = joined is_list_line ps

abbrev pub name_part : Option (List ℕ × List ℕ) → List ℕ
name_part None = []
name_part (Some parts) = parts.0

-- the members that a worker's own lines list
abbrev pub own_members : List Property → List ℕ → List Listing
own_members ps owner = joined (gives owner directive.BalanceWorkers) ps

-- the members that are in force: those of the worker whose line is
abbrev pub members_in : List Property → Option Property → List Listing
members_in ps None = []
members_in ps (Some p) = own_members ps (name_part (worker_part p.key))

-- the name stands among these
abbrev pub is_named : List ℕ → List Listing → Bool
is_named name [] = false
is_named name (l ∷ ls) = if bytes_eq l.name name then true else is_named name ls

-- a list without the later places of a name
abbrev pub drop_name : List ℕ → List Listing → List Listing
drop_name name [] = []
drop_name name (l ∷ ls) = if bytes_eq l.name name then drop_name name ls else l ∷ drop_name name ls

-- each name once, where it stands first
abbrev pub firsts : List Listing → List Listing
firsts [] = []
firsts (l ∷ ls) = l ∷ drop_name l.name (firsts ls)
