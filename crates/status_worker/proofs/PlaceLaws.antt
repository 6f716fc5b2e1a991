-- A listed name that is a balancer's stands for one that is there.
use Rattle.std.proofs.Common.{◌≡◌, ◌<◌, ℕ, Bool, true, false, List, [], ◌∷◌, Option, Some, None, refl, sym, subst, cond, length, slice_get, get_or, ◌∙◌, arith}
use Rattle.std.proofs.lemmas.Bool.{and_parts, ltb-true}
use Rattle.std.proofs.lemmas.List.{length-map}
use Rattle.std.proofs.lemmas.Option.{get_or_from_slice_get, same_Some, slice_get-get_or, slice_get_within}
use Rattle.std.specs.List.{list_all}
use Rattle.std.specs.Str.{bytes_eq}
use Rattle.site_config.specs.Places.{are_places, is_place, named_among}
use Rattle.site_config.specs.declared.balancer.Lb.{Lb}
use Rattle.site_config.specs.declared.config.Config.{Config}
use Rattle.site_config.specs.declared.config.Named.{Named}
use Rattle.site_config.specs.declared.config.Named.TheVariants as named
use Rattle.status_worker.specs.Asking.{IsNamedBalancer}
use Rattle.status_worker.specs.Desks.{members_in}
use Rattle.status_worker.specs.Effects.{worker_of}
use Rattle.status_worker.specs.declared.command.StatusCommand.{StatusCommand}

named_place : (lbs statuses : ℕ) (name : List ℕ) (listed : List (List ℕ × Named)) (worker : Named) → are_places lbs statuses listed ≡ true
    → named_among name listed ≡ Some worker → is_place lbs statuses worker ≡ true
named_place lbs statuses name [] worker all is = absurd cc
named_place lbs statuses name (entry ∷ listed) worker all is =
    let both = and_parts (is_place lbs statuses entry.1) (are_places lbs statuses listed) all in
    by_test (bytes_eq entry.0 name) both.0 (named_place lbs statuses name listed worker both.1) is
  where
    by_test : (t : Bool) → is_place lbs statuses entry.1 ≡ true → (named_among name listed ≡ Some worker → is_place lbs statuses worker ≡ true)
        → cond t (Some entry.1) (named_among name listed) ≡ Some worker → is_place lbs statuses worker ≡ true
    by_test true first later e = subst (λ (w : Named). is_place lbs statuses w ≡ true) (same_Some entry.1 worker e) first
    by_test false first later e = later e

pub place_within : (cfg : Config) (name : List ℕ) (place : ℕ) → are_places (length cfg.lbs) (length cfg.statuses) cfg.listed ≡ true
    → named_among name cfg.listed ≡ Some (named.Balancer place) → place < length cfg.lbs
place_within cfg name place all is =
    ltb-true place (length cfg.lbs) (named_place (length cfg.lbs) (length cfg.statuses) name cfg.listed (named.Balancer place) all is)

first_lb : (lbs : List Lb) (place : ℕ) → place < length lbs → (lb : Lb) × (slice_get lbs place ≡ Some lb)
first_lb (lb ∷ lbs) place within = (get_or (lb ∷ lbs) place lb, slice_get-get_or (lb ∷ lbs) place lb within)
first_lb [] place within = absurd (omega (arith, within))

-- the balancer that a command names
pub names_balancer : (cfg : Config) (c : StatusCommand) (name : List ℕ) (place : ℕ) → are_places (length cfg.lbs) (length cfg.statuses) cfg.listed ≡ true
    → worker_of c ≡ Some name → named_among name cfg.listed ≡ Some (named.Balancer place) → IsNamedBalancer cfg c (Some place)
names_balancer cfg c name place all of is =
    let found = first_lb cfg.lbs place (place_within cfg name place all is) in
    (name, found.0, of, record { named = is; stands = found.1 })

-- its place is one of the configuration
pub named_within : (cfg : Config) (c : StatusCommand) (place : ℕ) → IsNamedBalancer cfg c (Some place) → place < length cfg.lbs
named_within cfg c place is = slice_get_within cfg.lbs place is.1 is.3.stands

-- the balancer at the place is the one that is named
pub same_lb : (lbs : List Lb) (place : ℕ) (mine other : Lb) → place < length lbs → mine ≡ get_or lbs place mine → slice_get lbs place ≡ Some other
    → mine ≡ other
same_lb lbs place mine other within is there = is ∙ get_or_from_slice_get lbs place other mine there

-- the desk has a size for each balancer
pub in_sizes : (sizes : List ℕ) (lbs : List Lb) (lb : ℕ) → sizes ≡ members_in lbs → lb < length lbs → lb < length sizes
in_sizes sizes lbs lb are within =
    subst (λ (ns : List ℕ). lb < length ns) (sym are) (subst (λ (n : ℕ). lb < n) (sym (length-map lbs (λ (b : Lb). length b.book.members))) within)
