-- The names that a row of a worker may tell.
use Rattle.std.proofs.Common.{◌≡◌, ℕ, ◌≤◌, ◌<◌, List, length, get_or, slice_get, Some, true, refl, sym, ap, ◌∙◌, subst, arith}
use Rattle.std.specs.List.{All}
use Rattle.std.proofs.lemmas.Bool.{ltb-true}
use Rattle.std.proofs.lemmas.Option.{get_or_from_slice_get, same_Some, slice_get_read, slice_get_within}
use Rattle.lb_model.specs.declared.member.MemberConfig.{MemberConfig}
use Rattle.site_config.specs.declared.balancer.Lb.{Lb}
use Rattle.site_config.specs.declared.config.Config.{Config}
use Rattle.site_config.specs.declared.config.Named.{Named}
use Rattle.site_config.specs.declared.config.Named.TheVariants as named
use Rattle.site_config.specs.declared.config.Status.{Status}
use Rattle.site_mounts.specs.Sites.{is_worker}
use Rattle.client_session.specs.Concluding.{HasNamesWithin}

pub status_within : (cfg : Config) (worker : Named) (place : ℕ) → is_worker cfg worker ≡ true → worker ≡ named.Status place → place < length cfg.statuses
status_within cfg worker place stands is = ltb-true place (length cfg.statuses) (subst (λ (w : Named). is_worker cfg w ≡ true) is stands)

pub balancer_within : (cfg : Config) (worker : Named) (lb : ℕ) → is_worker cfg worker ≡ true → worker ≡ named.Balancer lb → lb < length cfg.lbs
balancer_within cfg worker lb stands is = ltb-true lb (length cfg.lbs) (subst (λ (w : Named). is_worker cfg w ≡ true) is stands)

pub names_of_status : (cfg : Config) (place : ℕ) (here : Status) (longest : ℕ) → here ≡ get_or cfg.statuses place here → place < length cfg.statuses
    → longest ≡ length here.name → HasNamesWithin cfg (named.Status place) longest
names_of_status cfg place here longest is within long = λ status there.
    let same : here ≡ status = same_Some here status (sym (slice_get_read cfg.statuses (length cfg.statuses) place here refl within is) ∙ there) in
    let as_long : length here.name ≡ length status.name = ap (λ (s : Status). length s.name) same in
    omega (arith, long, as_long)

pub names_of_balancer : (cfg : Config) (lb : ℕ) (here : Lb) (members : List MemberConfig) (longest : ℕ) → here ≡ get_or cfg.lbs lb here → lb < length cfg.lbs
    → members ≡ here.book.members → All (λ (m : MemberConfig). length m.name ≤ longest) members → HasNamesWithin cfg (named.Balancer lb) longest
names_of_balancer cfg lb here members longest is within are all = λ balancer m config there named.
    let same : here ≡ balancer = same_Some here balancer (sym (slice_get_read cfg.lbs (length cfg.lbs) lb here refl within is) ∙ there) in
    let theirs : members ≡ balancer.book.members = are ∙ ap (λ (b : Lb). b.book.members) same in
    let stands : slice_get members m ≡ Some config = subst (λ (ms : List MemberConfig). slice_get ms m ≡ Some config) (sym theirs) named in
    subst (λ (c : MemberConfig). length c.name ≤ longest) (get_or_from_slice_get members m config config stands)
    (all m config (slice_get_within members m config stands))
