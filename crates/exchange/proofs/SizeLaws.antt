-- The numbers of members of a site's balancers.
use Rattle.std.proofs.Common.{◌≡◌, ℕ, zero, suc, ◌<◌, List, [], ◌∷◌, length, get_or, slice_get, slice_index, Some, refl, sym, ap, ◌∙◌, subst}
use Rattle.std.proofs.lemmas.List.{length-map}
use Rattle.std.proofs.lemmas.Option.{slice_get_read}
use Rattle.site_config.specs.declared.balancer.Lb.{Lb}
use Rattle.exchange.specs.Exchanges.{IsExchange}
use Rattle.exchange.specs.Requests.{Errand, sizes_of}
use Rattle.exchange.specs.Rounds.{Scene}
use Rattle.exchange.specs.declared.ending.ExchangeEnd.{ExchangeEnd}

pub within_sizes : (sizes : List ℕ) (lbs : List Lb) (lb : ℕ) → sizes ≡ sizes_of lbs → lb < length lbs → lb < length sizes
within_sizes sizes lbs lb are within =
    subst (λ (ns : List ℕ). lb < length ns) (sym are) (subst (λ (n : ℕ). lb < n) (sym (length-map lbs (λ (b : Lb). length b.book.members))) within)

size_at : (lbs : List Lb) (lb : ℕ) (b : Lb) → slice_get lbs lb ≡ Some b → slice_index (sizes_of lbs) lb ≡ length b.book.members
size_at [] lb b there = absurd cc
size_at (x ∷ lbs) zero b there = let same : x ≡ b = cc in ap (λ (l : Lb). length l.book.members) same
size_at (x ∷ lbs) (suc lb) b there = size_at lbs lb b there

pub size_in : (sizes : List ℕ) (lbs : List Lb) (lb : ℕ) (b : Lb) → sizes ≡ sizes_of lbs → lb < length lbs → b ≡ get_or lbs lb b
    → slice_index sizes lb ≡ length b.book.members
size_in sizes lbs lb b are within is =
    ap (λ (ns : List ℕ). slice_index ns lb) are ∙ size_at lbs lb b (slice_get_read lbs (length lbs) lb b refl within is)

-- the errand with another balancer
abbrev pub with_balancer : Errand → Lb → Errand
with_balancer q b = record q { balancer = b }

pub is_balancer : (lbs : List Lb) (lb : ℕ) (mine other : Lb) → lb < length lbs → mine ≡ get_or lbs lb mine → slice_get lbs lb ≡ Some other → mine ≡ other
is_balancer lbs lb mine other within is there =
    let here : slice_get lbs lb ≡ Some mine = slice_get_read lbs (length lbs) lb mine refl within is in
    cc

pub of_exchange : (lbs : List Lb) (lb : ℕ) (q : Errand) (s n : Scene) (end : ExchangeEnd) → lb < length lbs → q.balancer ≡ get_or lbs lb q.balancer
    → IsExchange q s n end → (balancer : Lb) → slice_get lbs lb ≡ Some balancer → IsExchange (with_balancer q balancer) s n end
of_exchange lbs lb q s n end within is did balancer there =
    subst (λ (b : Lb). IsExchange (with_balancer q b) s n end) (is_balancer lbs lb q.balancer balancer within is there) did
