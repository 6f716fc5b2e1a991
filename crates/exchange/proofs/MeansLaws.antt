-- Means that were lent come back: a fact of the struct is one of each value by itself.
use Rattle.std.proofs.Common.{◌≡◌, ◌≤◌, ℕ, List, Option, sym, ap, ◌∙◌, subst, arith}
use Rattle.jk_io.specs.declared.reaching.Beside.{Beside}
use Rattle.jk_io.specs.declared.traits.streams.Meanings.{Ghosts}
use Rattle.lb_book.specs.Desks.{DeskState}
use Rattle.http_front.specs.declared.body.BodyIn.{BodyIn}
use Rattle.exchange.specs.Clients.{MeetsAt}
use Rattle.exchange.specs.Exchanges.{IsExchange}
use Rattle.exchange.specs.Means.{scene_of}
use Rattle.exchange.specs.Requests.{Errand}
use Rattle.exchange.specs.Rounds.{IsDeskAfter, Scene, scene}
use Rattle.exchange.specs.declared.ending.ExchangeEnd.{ExchangeEnd}
use Rattle.exchange.specs.declared.sides.Means.{Means}

pub came_back : {B K R C X : Type 0} (state : B → DeskState) (answers : K → Option (List ℕ)) (of_reach : Ghosts R Beside) (of_client : Ghosts C X)
    (m : Means B K R C) (desk : B) (clock : K) (reach : R) (client : C) (body : BodyIn) (inbox : List ℕ)
    (q : Errand) (s : Scene) (end : ExchangeEnd) → desk ≡ m.desk.now → clock ≡ m.clock.now → reach ≡ m.sides.reach.now → client ≡ m.sides.client.now
    → body ≡ m.sides.body.now → inbox ≡ m.sides.inbox.now
    → IsExchange q s (scene_of state answers of_reach of_client m) end → IsExchange q s (scene state answers of_reach of_client desk clock reach client body inbox) end
came_back state answers of_reach of_client m desk clock reach client body inbox q s end is_desk is_clock is_reach is_client is_body is_inbox did =
    rw (is_desk, is_clock, is_reach, is_client, is_body, is_inbox) did

-- what fell at no step fell at none of two
pub no_fewer_twice : (before mid now : ℕ) → before ≤ mid → mid ≤ now → before ≤ now
no_fewer_twice before mid now first second = omega arith

pub as_many : (n : ℕ) → n ≤ n
as_many n = omega arith

-- ---- one value that was lent

pub same_back : {A Y : Type 0} (f : A → Y) (now known : A) (y : Y) → now ≡ known → f known ≡ y → f now ≡ y
same_back f now known y is said = ap f is ∙ said

pub no_fewer_back : {A : Type 0} (f : A → ℕ) (before : ℕ) (now known : A) → now ≡ known → before ≤ f known → before ≤ f now
no_fewer_back {A = A} f before now known is said = subst (λ (a : A). before ≤ f a) (sym is) said

pub desk_back : {B : Type 0} (state : B → DeskState) (lb session : ℕ) (before : DeskState) (now known : B) → now ≡ known
    → IsDeskAfter lb session before (state known) → IsDeskAfter lb session before (state now)
desk_back {B = B} state lb session before now known is said = subst (λ (b : B). IsDeskAfter lb session before (state b)) (sym is) said

pub met_back : {B : Type 0} (state : B → DeskState) (end : ExchangeEnd) (before : DeskState) (now known : B) → now ≡ known
    → MeetsAt end before (state known) → MeetsAt end before (state now)
met_back {B = B} state end before now known is said = subst (λ (b : B). MeetsAt end before (state b)) (sym is) said
