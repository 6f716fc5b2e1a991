-- Means and sides of an exchange, kept over several of its steps.
use Rattle.std.proofs.Common.{◌≡◌, ℕ, ◌<◌, false, List, length, slice_index, Option, None, IfSome, refl, sym, ap, ◌∙◌, subst}
use Rattle.jk_io.specs.declared.reaching.Beside.{Beside}
use Rattle.jk_io.specs.declared.traits.streams.Meanings.{Ghosts}
use Rattle.lb_model.specs.declared.ask.Ask.{Ask}
use Rattle.lb_book.specs.Desks.{Chooses, DeskState, KeepsDesk, LeaseNote, pair_of}
use Rattle.lb_book.specs.declared.desk.Choice.TheVariants as choice
use Rattle.lb_book.proofs.DeskLaws.{held_again}
use Rattle.http_front.specs.State.{failed_of, taken_of}
use Rattle.http_front.specs.declared.head.Head.{Head}
use Rattle.site_config.specs.declared.endpoint.Endpoint.{Endpoint}
use Rattle.exchange.specs.Keeping.{KeepsMeans, KeepsSides, MayAsk, MayTalk}
use Rattle.exchange.specs.Rounds.{IsDeskAfter}
use Rattle.exchange.specs.Steps.{HandsLeaseBack}
use Rattle.exchange.specs.declared.ending.Ran.{Ran}
use Rattle.exchange.specs.declared.ending.RoundVerdict.{RoundVerdict}
use Rattle.exchange.specs.declared.request.Request.{Request}
use Rattle.exchange.specs.declared.sides.Means.{Means}
use Rattle.exchange.specs.declared.sides.Sides.{Sides}
use Rattle.exchange.proofs.DeskLaws.{after_round, same_twice, untouched}
use Rattle.exchange.proofs.MeansLaws.{as_many, no_fewer_twice}

-- ---- the two sides

pub sides_untouched : {R C X : Type 0} (of_reach : Ghosts R Beside) (of_client : Ghosts C X) (s : Sides R C)
    → (of_reach.beside s.reach.now).runs ≡ false → KeepsSides of_reach of_client s s
sides_untouched of_reach of_client s idle = record {
  idle = idle;
  sizes = refl;
  beside = refl;
  reach_faults = as_many _;
  client_faults = as_many _;
  same = (refl, refl, refl, refl);
}

pub sides_twice : {R C X : Type 0} (of_reach : Ghosts R Beside) (of_client : Ghosts C X) (s m n : Sides R C)
    → KeepsSides of_reach of_client s m → KeepsSides of_reach of_client m n → KeepsSides of_reach of_client s n
sides_twice of_reach of_client s m n first second = record {
  idle = second.idle;
  sizes = second.sizes ∙ first.sizes;
  beside = second.beside ∙ first.beside;
  reach_faults = no_fewer_twice _ _ _ first.reach_faults second.reach_faults;
  client_faults = no_fewer_twice _ _ _ first.client_faults second.client_faults;
  same = (second.same.0 ∙ first.same.0, second.same.1 ∙ first.same.1, second.same.2 ∙ first.same.2, second.same.3 ∙ first.same.3);
}

-- another talk may begin on the member, where just its first piece was taken of the body
pub talks_again : {R C X : Type 0} (of_reach : Ghosts R Beside) (of_client : Ghosts C X) (lb member : ℕ) (first next : List ℕ) (s n : Sides R C)
    → MayTalk of_reach lb member first s → KeepsSides of_reach of_client s n → taken_of n.body.now ≡ length next → failed_of n.body.now ≡ None
    → MayTalk of_reach lb member next n
talks_again of_reach of_client lb member first next s n may kept taken going = record {
  idle = kept.idle;
  known = subst (λ (sizes : List ℕ). member < slice_index sizes lb) (sym kept.sizes) may.known;
  taken = taken;
  going = going;
}

-- ---- the desk and the clock beside them

pub means_untouched : {B K R C X : Type 0} (state : B → DeskState) (of_reach : Ghosts R Beside) (of_client : Ghosts C X) (q : Request) (s : Means B K R C)
    → (of_reach.beside s.sides.reach.now).runs ≡ false → KeepsMeans state of_reach of_client q s s
means_untouched state of_reach of_client q s idle = record {
  held = refl;
  kept = untouched _ _ _;
  desk = refl;
  clock = refl;
  sides = sides_untouched of_reach of_client s.sides idle;
}

pub means_twice : {B K R C X : Type 0} (state : B → DeskState) (of_reach : Ghosts R Beside) (of_client : Ghosts C X) (q : Request) (s m n : Means B K R C)
    → KeepsMeans state of_reach of_client q s m → KeepsMeans state of_reach of_client q m n → KeepsMeans state of_reach of_client q s n
means_twice state of_reach of_client q s m n first second = record {
  held = second.held ∙ first.held;
  kept = same_twice _ _ _ _ _ first.kept second.kept;
  desk = second.desk ∙ first.desk;
  clock = second.clock ∙ first.clock;
  sides = sides_twice of_reach of_client s.sides m.sides n.sides first.sides second.sides;
}

pub asks_again : {B K R C X : Type 0} (state : B → DeskState) (of_reach : Ghosts R Beside) (of_client : Ghosts C X) (q : Request) (s n : Means B K R C)
    → MayAsk state of_reach q s → KeepsMeans state of_reach of_client q s n → MayAsk state of_reach q n
asks_again state of_reach of_client q s n may kept = record {
  lb = subst (λ (sizes : List ℕ). q.lb < length sizes) (sym kept.kept.sizes) may.lb;
  caller = subst (λ (told : Option ℕ). IfSome told (λ k. q.session ≡ k)) (sym kept.kept.caller) may.caller;
  desk_size = ap (λ (sizes : List ℕ). slice_index sizes q.lb) kept.kept.sizes ∙ may.desk_size;
  reach_size = ap (λ (sizes : List ℕ). slice_index sizes q.lb) kept.sides.sizes ∙ may.reach_size;
  idle = kept.sides.idle;
}

-- ---- a lease that was spent

pub spent_held : {T : Type 0} (note : T → LeaseNote) (s m n : DeskState) (lb session at back_at : ℕ) (ask : Ask) (member : ℕ) (lease : T) (endpoint : Endpoint) (head : Head) (ran : Ran)
    (v : RoundVerdict) → Chooses note s m lb session at ask (choice.Chosen member lease) → HandsLeaseBack m n session back_at (note lease) endpoint head member ran v → n.held ≡ s.held
spent_held note s m n lb session at back_at ask member lease endpoint head ran v chose back = held_again _ _ _ _ _ chose.answered.4 (ap pair_of chose.answered.3) back.held

pub spent_desk : {T : Type 0} (note : T → LeaseNote) (s m n : DeskState) (lb session at back_at : ℕ) (ask : Ask) (member : ℕ) (lease : T) (endpoint : Endpoint) (head : Head) (ran : Ran)
    (v : RoundVerdict) → KeepsDesk s m → Chooses note s m lb session at ask (choice.Chosen member lease) → KeepsDesk m n
    → HandsLeaseBack m n session back_at (note lease) endpoint head member ran v → IsDeskAfter lb session s n
spent_desk note s m n lb session at back_at ask member lease endpoint head ran v kept chose still back =
    after_round note s m n lb session at back_at ask member lease _ back.stray kept chose still back.wides back.back
