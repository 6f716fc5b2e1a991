-- The second pass: lists, refusals, and workers one after another.
use Rattle.std.proofs.Common.{◌≡◌, ℕ, ◌+◌, ◌<◌, ◌≤◌, List, [], ◌∷◌, length, drop, get_or, Option, Result, Ok, Err, IfErr, OnOk, refl, sym, ◌∙◌, subst, inl, inr, arith, ◌%◌}
use Rattle.std.proofs.lemmas.List.{drop_all, drop_more}
use Rattle.std.proofs.lemmas.Nat.Gcd.{IsGcd-from_zero, IsGcd-from_mod, IsGcd-swap}
use Rattle.lb_model.specs.Multiple.{multiple_of}
use Rattle.lb_model.proofs.MultipleFacts.{multiple_of_two-by}
use Rattle.site_config.specs.declared.property.Property.{Property}
use Rattle.site_config.specs.declared.directive.Directive.{Directive}
use Rattle.site_config.specs.declared.directive.Directive.TheVariants as directive
use Rattle.site_workers.specs.declared.draft.Draft.{Draft}
use Rattle.site_config.specs.declared.error.WorkersError.{WorkersError}
use Rattle.site_config.specs.declared.error.WorkersError.TheVariants as errors
use Rattle.site_workers.specs.declared.listing.Listing as declared
use Rattle.site_workers.specs.declared.row.Row.{Row}
use Rattle.site_workers.specs.Building.{IsBuilding}
use Rattle.site_workers.specs.Given.{in_force}
use Rattle.site_workers.specs.Lists.{Listing}
use Rattle.site_workers.specs.Listings.{as_listing, as_listings}
use Rattle.site_config.specs.declared.error.PropsRefusal.{PropsRefusal}
use Rattle.site_config.specs.Refusals.{IsRefusal}
use Rattle.site_workers.specs.Rows.{HasForce, property_at}
use Rattle.site_workers.specs.Settings.{kind_in}
use Rattle.site_workers.specs.Site.{AddsListing, AddsKind, Builds, Known, RefusesListing, StopsAtListing}

-- what a call makes at Ok is what its caller means
pub on_ok : {T E : Type 0} (r : Result T E) (P Q : Type 0) → OnOk r P → (P → Q) → OnOk r Q
on_ok (Ok x) P Q h f = f h
on_ok (Err e) P Q h f = tt

-- it holds anyway
pub ok_anyway : {T E : Type 0} (r : Result T E) (P : Type 0) → P → OnOk r P
ok_anyway (Ok x) P h = h
ok_anyway (Err e) P h = tt

-- a refusal of one kind is one of a wider kind
pub wider_refusal : (P Q : PropsRefusal → Type 0) (e : WorkersError) → IsRefusal P e → ((r : PropsRefusal) → P r → Q r) → IsRefusal Q e
wider_refusal P Q (errors.Refused r) h f = f r h
wider_refusal P Q errors.NoMemory h f = tt

pub wider_refused : {T : Type 0} (r : Result T WorkersError) (P Q : PropsRefusal → Type 0) → IfErr r (IsRefusal P) → ((x : PropsRefusal) → P x → Q x) → IfErr r (IsRefusal Q)
wider_refused (Ok x) P Q h f = tt
wider_refused (Err e) P Q h f = wider_refusal P Q e h f

-- the least common multiple of one factor
pub one_factor : (f : ℕ) → multiple_of (f ∷ []) ≡ f
one_factor f =
    let none : f % 1 ≡ 0 = omega arith in
    let both = IsGcd-swap f 1 1 (IsGcd-from_mod f 1 1 (IsGcd-from_zero 1 (f % 1) none)) in
    sym (multiple_of_two-by 1 f 1 both) ∙ omega arith

-- the rows' lines are those in force
pub force_lines : (ps : List Property) (name : List ℕ) (row : Row) (h : HasForce ps name row) → property_at ps row ≡ in_force ps name h.0
force_lines ps name row h = λ i d. h.2.lines_are d i

pub adds_kind : (ps : List Property) (maintain : ℕ) (l : Listing) (row : Row) (old new : Draft) → Known ps l → HasForce ps l.name row → AddsKind ps maintain l (property_at ps row) (kind_in (property_at ps row directive.Kind)) old new → AddsListing ps maintain l old new
adds_kind ps maintain l row old new known h a = (known, h.0, h.1, subst (λ (v : Directive → Option Property). AddsKind ps maintain l v (kind_in (v directive.Kind)) old new) (force_lines ps l.name row h) a)

-- one worker more
left_at : (ls : List declared.Listing) (i : ℕ) (d : declared.Listing) → i < length ls → as_listings (drop i ls) ≡ as_listing (get_or ls i d) ∷ as_listings (drop (i + 1) ls)
left_at ls i d h = rw (drop_more ls i d h) refl

pub building_more : (ps : List Property) (maintain : ℕ) (ls : List declared.Listing) (start now next : Draft) (i : ℕ) (d : declared.Listing) → i < length ls → AddsListing ps maintain (as_listing (get_or ls i d)) now next → IsBuilding ps maintain (as_listings ls) start (as_listings (drop i ls)) now → IsBuilding ps maintain (as_listings ls) start (as_listings (drop (i + 1) ls)) next
building_more ps maintain ls start now next i d h adds b = record {
  builds = λ new rest. b.builds new (subst (λ (xs : List Listing). Builds ps maintain xs now new) (sym (left_at ls i d h)) (next, adds, rest));
  stops = λ r rest. b.stops r (subst (λ (xs : List Listing). StopsAtListing ps maintain xs now r) (sym (left_at ls i d h)) (inr (next, adds, rest)));
}

-- a worker that is refused stops it, and after the last one it is built
pub building_stops : (ps : List Property) (maintain : ℕ) (ls : List declared.Listing) (start now : Draft) (i : ℕ) (d : declared.Listing) (e : WorkersError) → i < length ls → IsRefusal (RefusesListing ps (length now.lbs) (as_listing (get_or ls i d))) e → IsBuilding ps maintain (as_listings ls) start (as_listings (drop i ls)) now → IsRefusal (StopsAtListing ps maintain (as_listings ls) start) e
building_stops ps maintain ls start now i d e h bad b =
    wider_refusal (RefusesListing ps (length now.lbs) (as_listing (get_or ls i d))) (StopsAtListing ps maintain (as_listings ls) start) e bad
    (λ r refuses. b.stops r (subst (λ (xs : List Listing). StopsAtListing ps maintain xs now r) (sym (left_at ls i d h)) (inl refuses)))

pub building_ends : (ps : List Property) (maintain : ℕ) (ls : List declared.Listing) (start now : Draft) (i : ℕ) → length ls ≤ i → IsBuilding ps maintain (as_listings ls) start (as_listings (drop i ls)) now → Builds ps maintain (as_listings ls) start now
building_ends ps maintain ls start now i h b =
    b.builds now (subst (λ (xs : List declared.Listing). Builds ps maintain (as_listings xs) now now) (sym (drop_all i ls h)) refl)

pub building_starts : (ps : List Property) (maintain : ℕ) (ls : List declared.Listing) (start : Draft) → IsBuilding ps maintain (as_listings ls) start (as_listings ls) start
building_starts ps maintain ls start = record { builds = λ new h. h; stops = λ r h. h }
