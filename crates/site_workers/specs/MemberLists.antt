-- The lists of members, by the number of the worker whose lines they are.
use Rattle.std.specs.Prelude.{◌≡◌, ℕ, Bool, false, List, [], ◌++◌, Option, Some, None, length, slice_get, if◌then◌else◌, ◌==◌}
use Rattle.site_config.specs.declared.property.Property.{Property}
use Rattle.site_config.specs.declared.directive.Directive.TheVariants as directive
use Rattle.site_workers.specs.declared.listing.Listing as declared
use Rattle.site_workers.specs.Given.{gives}
use Rattle.site_workers.specs.Lists.{firsts, listings_of, own_members}
use Rattle.site_workers.specs.Listings.{as_listings}
use Rattle.site_workers.specs.Numbers.{number_of}
use Rattle.site_workers.specs.Rows.{AreRows}

-- the worker of this number is meant
abbrev pub is_number : ℕ → Option ℕ → Bool
is_number i None = false
is_number i (Some j) = i == j

-- each worker's list has the names of its own lines, one line after another
abbrev pub HaveLines : List Property → List (List ℕ) → List (List declared.Listing) → Type 0
HaveLines ps names lists = AreRows (λ name list. as_listings list ≡ own_members ps name) names lists

-- each worker's list has the names of its own lines, each once
abbrev pub HaveMembers : List Property → List (List ℕ) → List (List declared.Listing) → Type 0
HaveMembers ps names lists = AreRows (λ name list. as_listings list ≡ firsts (own_members ps name)) names lists

-- the lists after a line: the names of the members that it gives a worker are added to that worker's list
pub record AddsLine (names : List (List ℕ)) (p : Property) (old new : List (List declared.Listing)) : Type 0 where
  pub count : length new ≡ length old
  pub each : (name : List ℕ) (i : ℕ) (list : List declared.Listing) → number_of name names ≡ Some i → slice_get new i ≡ Some list
      → (before : List declared.Listing) × (slice_get old i ≡ Some before)
      × (as_listings list ≡ as_listings before ++ (if gives name directive.BalanceWorkers p then listings_of p else []))
