-- Listed workers that are checked one after another, in a loop that stops at the first bad one.
use Rattle.std.proofs.Common.{ℕ, ◌+◌, ◌<◌, ◌≤◌, List, [], ◌∷◌, length, get_or, drop, suc, zero, ◌≡◌, Option, arith, sym, refl, subst, inl, inr}
use Rattle.std.proofs.lemmas.List.{drop_all, drop_more}
use Rattle.site_config.specs.declared.directive.Directive.{Directive}
use Rattle.site_config.specs.declared.directive.Directive.TheVariants as directive
use Rattle.site_config.specs.declared.property.Property.{Property}
use Rattle.site_config.specs.declared.error.WorkersError.{WorkersError}
use Rattle.site_config.specs.declared.error.PropsRefusal.{PropsRefusal}
use Rattle.site_config.specs.Refusals.{IsRefusal}
use Rattle.site_workers.specs.Checks.{Checked}
use Rattle.site_workers.specs.declared.listing.Listing as declared
use Rattle.site_workers.specs.declared.row.Row.{Row}
use Rattle.site_workers.specs.Lists.{Listing}
use Rattle.site_workers.specs.Listings.{as_listing, as_listings}
use Rattle.site_workers.specs.Rows.{HasForce, property_at}
use Rattle.site_workers.specs.Settings.{kind_in}
use Rattle.site_workers.specs.Site.{Chained, Each, FirstBad, IsTraced, Known, RefusesListing, RefusesKind}
use Rattle.site_workers.proofs.WorkerLemmas.{force_lines, wider_refusal}

pub each_at : (fine : Listing → Type 0) (ls : List declared.Listing) (i : ℕ) (d : declared.Listing) → i < length ls → Each fine (as_listings ls) → fine (as_listing (get_or ls i d))
each_at fine [] i d h e = absurd (omega arith)
each_at fine (l ∷ ls) zero d h e = e.0
each_at fine (l ∷ ls) (suc i) d h e = each_at fine ls i d (omega arith) e.1

-- each has a directive, and each one's references lead on
pub each_traced : (ps : List Property) (ls : List Listing) → Each (Known ps) ls → Each (Chained ps) ls → Each (IsTraced ps) ls
each_traced ps [] known chained = tt
each_traced ps (l ∷ ls) known chained = (record { known = known.0; chained = chained.0 }, each_traced ps ls known.1 chained.1)

-- what is left begins with the worker at this place
rest_at : (ls : List declared.Listing) (i : ℕ) (d : declared.Listing) → i < length ls → as_listings (drop i ls) ≡ as_listing (get_or ls i d) ∷ as_listings (drop (i + 1) ls)
rest_at ls i d h = rw (drop_more ls i d h) refl

-- one worker more is fine
pub checked_more : (fine : Listing → Type 0) (bad : Listing → PropsRefusal → Type 0) (ls : List declared.Listing) (i : ℕ) (d : declared.Listing) → i < length ls → fine (as_listing (get_or ls i d)) → Checked fine bad (as_listings (drop i ls)) (as_listings ls) → Checked fine bad (as_listings (drop (i + 1) ls)) (as_listings ls)
checked_more fine bad ls i d h ok k = record {
  each = λ rest. k.each (subst (λ (xs : List Listing). Each fine xs) (sym (rest_at ls i d h)) (ok, rest));
  first = λ r rest. k.first r (subst (λ (xs : List Listing). FirstBad fine bad xs r) (sym (rest_at ls i d h)) (inr (ok, rest)));
}

-- a worker that isn't fine stops it, and after the last one each is
pub checked_stops : (fine : Listing → Type 0) (bad : Listing → PropsRefusal → Type 0) (ls : List declared.Listing) (i : ℕ) (d : declared.Listing) (e : WorkersError) → i < length ls → IsRefusal (bad (as_listing (get_or ls i d))) e → Checked fine bad (as_listings (drop i ls)) (as_listings ls) → IsRefusal (FirstBad fine bad (as_listings ls)) e
checked_stops fine bad ls i d e h is k =
    wider_refusal (bad (as_listing (get_or ls i d))) (FirstBad fine bad (as_listings ls)) e is
    (λ r refused. k.first r (subst (λ (xs : List Listing). FirstBad fine bad xs r) (sym (rest_at ls i d h)) (inl refused)))

pub checked_ends : (fine : Listing → Type 0) (bad : Listing → PropsRefusal → Type 0) (ls : List declared.Listing) (i : ℕ) → length ls ≤ i → Checked fine bad (as_listings (drop i ls)) (as_listings ls) → Each fine (as_listings ls)
checked_ends fine bad ls i h k = k.each (subst (λ (xs : List declared.Listing). Each fine (as_listings xs)) (sym (drop_all i ls h)) tt)

pub checked_starts : (fine : Listing → Type 0) (bad : Listing → PropsRefusal → Type 0) (ls : List Listing) → Checked fine bad ls ls
checked_starts fine bad ls = record { each = λ h. h; first = λ r h. h }

-- what is refused of a worker by its row is refused of it
pub refuses_kind : (ps : List Property) (count : ℕ) (l : Listing) (row : Row) (r : PropsRefusal) → Known ps l → HasForce ps l.name row → RefusesKind ps count l (property_at ps row) (kind_in (property_at ps row directive.Kind)) r → RefusesListing ps count l r
refuses_kind ps count l row r known h a = inr (inr (known, h.0, h.1, subst (λ (v : Directive → Option Property). RefusesKind ps count l v (kind_in (v directive.Kind)) r) (force_lines ps l.name row h) a))
