-- A configuration that is being made: at most 1,024 balancers, and names that stand for what is there.
use Rattle.std.proofs.Common.{◌≡◌, ℕ, ◌+◌, ◌<◌, ◌≤◌, true, List, [], ◌∷◌, ◌++◌, length, refl, sym, subst, arith, lit≤, nat_lt, Option, length-append}
use Rattle.std.proofs.lemmas.Bool.{and_parts}
use Rattle.site_config.specs.declared.property.Property.{Property}
use Rattle.site_config.specs.declared.directive.Directive.{Directive}
use Rattle.site_config.specs.declared.values.WorkerKind.{WorkerKind}
use Rattle.site_config.specs.declared.values.WorkerKind.TheVariants as kind
use Rattle.site_config.specs.declared.balancer.Lb.{Lb}
use Rattle.site_config.specs.declared.config.Named.{Named}
use Rattle.site_config.specs.declared.config.Named.TheVariants as named
use Rattle.site_config.specs.Places.{are_places, is_place}
use Rattle.site_workers.specs.declared.draft.Draft.{Draft}
use Rattle.site_workers.specs.Given.{in_force}
use Rattle.site_workers.specs.Lists.{Listing}
use Rattle.site_workers.specs.Settings.{kind_in}
use Rattle.site_config.specs.declared.directive.Directive.TheVariants as directive
use Rattle.site_workers.specs.Site.{AddsKind, Builds, no_workers, with_lb}

below_more : (i a b : ℕ) → a ≤ b → nat_lt i a ≡ true → nat_lt i b ≡ true
below_more i a b h below =
    let less : i < a = grind (arith, below) in
    let more : i < b = omega arith in
    grind arith

last_place : (n : ℕ) → nat_lt n (n + 1) ≡ true
last_place n =
    let less : n < n + 1 = omega arith in
    grind arith

-- a place stays one where there is more
place_grows : (a b c d : ℕ) (n : Named) → a ≤ c → b ≤ d → is_place a b n ≡ true → is_place c d n ≡ true
place_grows a b c d (named.Balancer i) ac bd h = below_more i a c ac h
place_grows a b c d (named.Status i) ac bd h = below_more i b d bd h

places_grow : (a b c d : ℕ) (listed : List (List ℕ × Named)) (name : List ℕ) (n : Named) → a ≤ c → b ≤ d → are_places a b listed ≡ true → is_place c d n ≡ true → are_places c d (listed ++ (name, n) ∷ []) ≡ true
places_grow a b c d [] name n ac bd h new = rw new refl
places_grow a b c d (e ∷ listed) name n ac bd h new =
    let both = and_parts (is_place a b e.1) (are_places a b listed) h in
    let here : is_place c d e.1 ≡ true = place_grows a b c d e.1 ac bd both.0 in
    let rest : are_places c d (listed ++ (name, n) ∷ []) ≡ true = places_grow a b c d listed name n ac bd both.1 new in
    rw (here, rest) refl

-- a draft that may become a configuration
pub record IsSound (d : Draft) : Type 0 where
  pub few : length d.lbs ≤ 1024
  pub placed : are_places (length d.lbs) (length d.statuses) d.listed ≡ true

sound_lb : (old : Draft) (name : List ℕ) (lb : Lb) → length old.lbs < 1024 → IsSound old → IsSound (with_lb old name lb)
sound_lb old name lb room h = record {
  few = rw length-append (omega arith);
  placed = places_grow (length old.lbs) (length old.statuses) (length (old.lbs ++ lb ∷ [])) (length old.statuses) old.listed name (named.Balancer (length old.lbs)) (rw length-append (omega arith)) (omega arith) h.placed (rw length-append (last_place (length old.lbs)));
}

sound_kind : (ps : List Property) (maintain : ℕ) (l : Listing) (v : Directive → Option Property) (k : WorkerKind) (old new : Draft) → AddsKind ps maintain l v k old new → IsSound old → IsSound new
sound_kind ps maintain l v kind.Status old new a h = subst IsSound (sym a.4) (record {
  few = h.few;
  placed = places_grow (length old.lbs) (length old.statuses) (length old.lbs) (length (old.statuses ++ a.0 ∷ [])) old.listed l.name (named.Status (length old.statuses)) (omega arith) (rw length-append (omega arith)) h.placed (rw length-append (last_place (length old.statuses)));
})
sound_kind ps maintain l v kind.Ajp13 old new a h = subst IsSound (sym a.3) (sound_lb old l.name a.1 a.0 h)
sound_kind ps maintain l v kind.Lb old new a h = subst IsSound (sym a.5) (sound_lb old l.name a.3 a.0 h)

pub sound_builds : (ps : List Property) (maintain : ℕ) (ls : List Listing) (old new : Draft) → Builds ps maintain ls old new → IsSound old → IsSound new
sound_builds ps maintain [] old new b h = subst IsSound (sym b) h
sound_builds ps maintain (l ∷ ls) old new b h = sound_builds ps maintain ls b.0 new b.2 (sound_kind ps maintain l (in_force ps l.name b.1.1) (kind_in (in_force ps l.name b.1.1 directive.Kind)) old b.0 b.1.3 h)

pub sound_start : IsSound no_workers
sound_start = record { few = lit≤ tt; placed = refl }
