-- A round by the desk's answer: no member, forced, full, want of memory, or a lease that is spent.
use Rattle.std.proofs.Common.{◌≡◌, ℕ, ◌≤◌, ◌^◌, Bool, List, slice_get, Option, Some, None, refl, sym, ap, subst, inl, inr, arith}
use Rattle.jk_io.specs.Answers.{Answers}
use Rattle.lb_model.specs.declared.ask.Ask.{Ask}
use Rattle.lb_model.specs.declared.member.MemberConfig.{MemberConfig}
use Rattle.lb_model.specs.declared.refusal.FullMark.{FullMark}
use Rattle.lb_model.specs.declared.refusal.RoomError.TheVariants as room
use Rattle.lb_model.specs.declared.refusal.Stray.{Stray}
use Rattle.lb_book.specs.Desks.{Chooses, DeskState, LeaseNote, RefusesChoice, pair_of, without_last}
use Rattle.lb_book.specs.declared.desk.Choice.TheVariants as choice
use Rattle.lb_book.proofs.DeskLaws.{held_again}
use Rattle.site_config.specs.declared.endpoint.Endpoint.{Endpoint}
use Rattle.exchange.specs.Ends.{outcome_for}
use Rattle.exchange.specs.OneTalk.{Around}
use Rattle.exchange.specs.Requests.{Errand, ask_for}
use Rattle.exchange.specs.Rounds.{IsBack, IsRound, Round, Scene, same_lease, same_mark}
use Rattle.exchange.specs.Steps.{IsNoLease, IsStep, verdict_back, verdict_for}
use Rattle.exchange.specs.Steps as no_lease_as
use Rattle.exchange.specs.Talks.{HasRun}
use Rattle.exchange.specs.declared.ending.ExchangeEnd.TheVariants as exchange_end
use Rattle.exchange.specs.declared.ending.Ran.{Ran}
use Rattle.exchange.specs.declared.ending.Ran.TheVariants as ran_is
use Rattle.http_out.specs.declared.own_answers.Own.{Own}
use Rattle.exchange.specs.declared.ending.RoundVerdict.{RoundVerdict}
use Rattle.exchange.specs.declared.ending.RoundVerdict.TheVariants as verdict

-- the lease's note stands for the lease
chosen : {T : Type 0} (note : T → LeaseNote) (old new : DeskState) (lb session at : ℕ) (ask : Ask) (m : ℕ) (lease : T) (told : LeaseNote) → told ≡ note lease
    → Chooses note old new lb session at ask (choice.Chosen m lease) → Chooses same_lease old new lb session at ask (choice.Chosen m told)
chosen note old new lb session at ask m lease told is chose =
    subst (λ (l : LeaseNote). Chooses same_lease old new lb session at ask (choice.Chosen m l)) (sym is)
    (record { last = chose.last; gains = chose.gains; asked = chose.asked; answered = chose.answered; full = chose.full; stray = chose.stray; wide = chose.wide; met = chose.met })

none_chosen : {T : Type 0} (note : T → LeaseNote) (old new : DeskState) (lb session at : ℕ) (ask : Ask)
    → Chooses note old new lb session at ask choice.NoMember → Chooses same_lease old new lb session at ask choice.NoMember
none_chosen note old new lb session at ask chose =
    record { last = chose.last; gains = chose.gains; asked = chose.asked; answered = chose.answered; full = chose.full; stray = chose.stray; wide = chose.wide; met = chose.met }

forced_none : {T : Type 0} (note : T → LeaseNote) (old new : DeskState) (lb session at : ℕ) (ask : Ask)
    → Chooses note old new lb session at ask choice.Forced → Chooses same_lease old new lb session at ask choice.Forced
forced_none note old new lb session at ask chose =
    record { last = chose.last; gains = chose.gains; asked = chose.asked; answered = chose.answered; full = chose.full; stray = chose.stray; wide = chose.wide; met = chose.met }

full_told : {M : Type 0} (numbers : M → FullMark) (old new : DeskState) (lb session at : ℕ) (mark : M)
    → RefusesChoice numbers old new lb session at (room.Full mark) → RefusesChoice same_mark old new lb session at (room.Full (numbers mark))
full_told numbers old new lb session at mark refused = record {
  gains = record {
    due = refused.gains.due;
    is_due = refused.gains.is_due;
    gains = refused.gains.gains;
    why = elim refused.gains.why [
      | inl found ↦ inl found
      | inr wanted ↦ absurd (let is : room.Full mark ≡ room.NoMemory = wanted.1 in cc)
    ];
  };
  held = refused.held;
  full = λ m is. refused.full mark refl;
  wanted = λ is. absurd cc;
  stray = refused.stray;
  wide = refused.wide;
  met = refused.met;
}

wanted_told : {M : Type 0} (numbers : M → FullMark) (old new : DeskState) (lb session at : ℕ)
    → RefusesChoice numbers old new lb session at room.NoMemory → RefusesChoice same_mark old new lb session at room.NoMemory
wanted_told numbers old new lb session at refused = record {
  gains = record {
    due = refused.gains.due;
    is_due = refused.gains.is_due;
    gains = refused.gains.gains;
    why = elim refused.gains.why [
      | inl found ↦ inl found
      | inr wanted ↦ inr (wanted.0, refl)
    ];
  };
  held = refused.held;
  full = λ m is. absurd cc;
  wanted = λ is. refused.wanted refl;
  stray = refused.stray;
  wide = refused.wide;
  met = refused.met;
}

-- ---- the exits where no member was chosen

pub no_member : {T : Type 0} (note : T → LeaseNote) (q : Errand) (first : List ℕ) (fresh : Bool) (s n : Scene) (at : ℕ) (ask : Ask) → ask ≡ ask_for q ask.tried
    → Answers s.clock at n.clock → n.around ≡ s.around → n.desk.held ≡ s.desk.held
    → Chooses note s.desk n.desk q.lb q.session at ask choice.NoMember → IsStep q first ask.tried fresh s n (verdict.Answer Own.ServiceUnavailable)
no_member note q first fresh s n at ask is asked same held chose =
    inl (inl (
      refl,
      record {
        at = at;
        asked_at = asked;
        why = subst (λ (a : Ask). Chooses same_lease s.desk n.desk q.lb q.session at a choice.NoMember) is (none_chosen note _ _ _ _ _ _ chose);
        held = held;
        around = same;
      },
    ))

pub forced : {T : Type 0} (note : T → LeaseNote) (q : Errand) (first : List ℕ) (fresh : Bool) (s n : Scene) (at : ℕ) (ask : Ask) → ask ≡ ask_for q ask.tried
    → Answers s.clock at n.clock → n.around ≡ s.around → n.desk.held ≡ s.desk.held
    → Chooses note s.desk n.desk q.lb q.session at ask choice.Forced → IsStep q first ask.tried fresh s n (verdict.Answer Own.InternalServerError)
forced note q first fresh s n at ask is asked same held chose =
    inl (inr (inl (
      refl,
      record {
        at = at;
        asked_at = asked;
        why = subst (λ (a : Ask). Chooses same_lease s.desk n.desk q.lb q.session at a choice.Forced) is (forced_none note _ _ _ _ _ _ chose);
        held = held;
        around = same;
      },
    )))

pub full : {M : Type 0} (numbers : M → FullMark) (q : Errand) (first : List ℕ) (tried : ℕ) (fresh : Bool) (s n : Scene) (at : ℕ) (mark : M)
    → Answers s.clock at n.clock → n.around ≡ s.around → RefusesChoice numbers s.desk n.desk q.lb q.session at (room.Full mark)
    → IsStep q first tried fresh s n (verdict.Answer Own.InternalServerError)
full numbers q first tried fresh s n at mark asked same refused =
    inl (inr (inr (inl (
      refl,
      record {
        at = at;
        asked_at = asked;
        why = (numbers mark, full_told numbers _ _ _ _ _ mark refused);
        held = refused.held;
        around = same;
      },
    ))))

pub wanted : {M : Type 0} (numbers : M → FullMark) (q : Errand) (first : List ℕ) (tried : ℕ) (fresh : Bool) (s n : Scene) (at : ℕ)
    → Answers s.clock at n.clock → n.around ≡ s.around → RefusesChoice numbers s.desk n.desk q.lb q.session at room.NoMemory
    → IsStep q first tried fresh s n (verdict.End exchange_end.NoMemory)
wanted numbers q first tried fresh s n at asked same refused =
    inl (inr (inr (inr (
      refl,
      record {
        at = at;
        asked_at = asked;
        why = wanted_told numbers _ _ _ _ _ refused;
        held = refused.held;
        around = same;
      },
    ))))

pub no_lease : {T M : Type 0} (note : T → LeaseNote) (numbers : M → FullMark) (q : Errand) (first : List ℕ) (fresh : Bool) (s n : Scene) (at : ℕ) (ask : Ask) (v : RoundVerdict)
    → ask ≡ ask_for q ask.tried → Answers s.clock at n.clock → n.around ≡ s.around → IsNoLease note numbers s.desk n.desk q.lb q.session at ask v
    → IsStep q first ask.tried fresh s n v
no_lease note numbers q first fresh s n at ask v is asked same (no_lease_as.none follows chose) =
    subst (IsStep q first ask.tried fresh s n) (sym follows) (no_member note q first fresh s n at ask is asked same chose.answered.1 chose)
no_lease note numbers q first fresh s n at ask v is asked same (no_lease_as.forced follows chose) =
    subst (IsStep q first ask.tried fresh s n) (sym follows) (forced note q first fresh s n at ask is asked same chose.answered.1 chose)
no_lease note numbers q first fresh s n at ask v is asked same (no_lease_as.full follows mark refused) =
    subst (IsStep q first ask.tried fresh s n) (sym follows) (full numbers q first ask.tried fresh s n at mark asked same refused)
no_lease note numbers q first fresh s n at ask v is asked same (no_lease_as.wanted follows refused) =
    subst (IsStep q first ask.tried fresh s n) (sym follows) (wanted numbers q first ask.tried fresh s n at asked same refused)

pub none_held : {T M : Type 0} (note : T → LeaseNote) (numbers : M → FullMark) (old new : DeskState) (lb session at : ℕ) (ask : Ask) (v : RoundVerdict)
    → IsNoLease note numbers old new lb session at ask v → new.held ≡ old.held
none_held note numbers old new lb session at ask v (no_lease_as.none follows chose) = chose.answered.1
none_held note numbers old new lb session at ask v (no_lease_as.forced follows chose) = chose.answered.1
none_held note numbers old new lb session at ask v (no_lease_as.full follows mark refused) = refused.held
none_held note numbers old new lb session at ask v (no_lease_as.wanted follows refused) = refused.held

-- ---- the exits with a lease

-- what a lease tells is at most 2^44
pub told_at_most : (q : Errand) (first : List ℕ) (member : ℕ) (config : MemberConfig) (endpoint : Endpoint) (fresh : Bool) (s n : Around) (ran : Ran)
    → HasRun q first member config endpoint fresh s n ran → (outcome_for endpoint ran).bytes ≤ 2 ^ 44
told_at_most q first member config endpoint fresh s n ran_is.TooLarge run = omega arith
told_at_most q first member config endpoint fresh s n (ran_is.Wanted bytes) (inl (fits, (before, e, runs, is))) = omega (arith, is)
told_at_most q first member config endpoint fresh s n (ran_is.Wanted bytes) (inr (inl (is, unfit, same))) = absurd cc
told_at_most q first member config endpoint fresh s n (ran_is.Wanted bytes) (inr (inr (is, same))) =
    let none : bytes ≡ 0 = cc in omega (arith, none)
told_at_most q first member config endpoint fresh s n (ran_is.Ended end bytes) (inl (fits, (before, runs, is))) = omega (arith, is)
told_at_most q first member config endpoint fresh s n (ran_is.Ended end bytes) (inr (inl (is, unfit, same))) = absurd cc
told_at_most q first member config endpoint fresh s n (ran_is.Ended end bytes) (inr (inr (is, same))) = absurd cc

-- The facts of a round whose lease came back, or was a stray.
pub record HasGoneRound {T : Type 0} (note : T → LeaseNote) (q : Errand) (first : List ℕ) (fresh : Bool) (s n : Scene) (at back_at : ℕ) (ask : Ask)
    (member : ℕ) (lease : T) (config : MemberConfig) (endpoint : Endpoint) (ran : Ran) (desk : DeskState) (clock : Option (List ℕ)) (stray : Option Stray) : Type 0 where
  pub ask_is : ask ≡ ask_for q ask.tried
  pub asked_at : Answers s.clock at clock
  pub chose : Chooses note s.desk desk q.lb q.session at ask (choice.Chosen member lease)
  pub configured : slice_get q.balancer.book.members member ≡ Some config
  pub reached : slice_get q.balancer.ends member ≡ Some endpoint
  pub talked : HasRun q first member config endpoint fresh s.around n.around ran
  pub handed_at : Answers clock back_at n.clock
  pub back : IsBack desk n.desk q.session back_at (note lease) (outcome_for endpoint ran) stray
  pub fulls : n.desk.fulls ≡ desk.fulls
  pub let_go : n.desk.held ≡ without_last desk.held (pair_of (note lease))

abbrev round_for : (at back_at member ticket : ℕ) → MemberConfig → Endpoint → Ran → Round
round_for at back_at member ticket config endpoint ran = record {
  member = member;
  ticket = ticket;
  chosen_at = at;
  returned_at = back_at;
  config = config;
  endpoint = endpoint;
  ran = ran;
}

is_round : {T : Type 0} (note : T → LeaseNote) (q : Errand) (first : List ℕ) (fresh : Bool) (s n : Scene) (at back_at : ℕ) (ask : Ask)
    (member : ℕ) (lease : T) (config : MemberConfig) (endpoint : Endpoint) (ran : Ran) (desk : DeskState) (clock : Option (List ℕ)) (stray : Option Stray)
    (gone : HasGoneRound note q first fresh s n at back_at ask member lease config endpoint ran desk clock stray)
    → IsRound q first ask.tried fresh s n (round_for at back_at member gone.chose.last.entry.seq config endpoint ran) stray
is_round note q first fresh s n at back_at ask member lease config endpoint ran desk clock stray gone =
    let told : LeaseNote = record { lb = q.lb; member = member; ticket = gone.chose.last.entry.seq } in
    let is : told ≡ note lease = sym gone.chose.answered.3 in
    record {
      desk = desk;
      clock = clock;
      configured = gone.configured;
      reached = gone.reached;
      asked_at = gone.asked_at;
      chose = subst (λ (a : Ask). Chooses same_lease s.desk desk q.lb q.session at a (choice.Chosen member told)) gone.ask_is
          (chosen note _ _ _ _ _ ask member lease told is gone.chose);
      talked = gone.talked;
      handed_at = gone.handed_at;
      back = subst (λ (l : LeaseNote). IsBack desk n.desk q.session back_at l (outcome_for endpoint ran) stray) (sym is) gone.back;
      fulls = gone.fulls;
      held = held_again _ _ _ _ _ gone.chose.answered.4 (ap pair_of gone.chose.answered.3) gone.let_go;
    }

pub came_back : {T : Type 0} (note : T → LeaseNote) (q : Errand) (first : List ℕ) (fresh : Bool) (s n : Scene) (at back_at : ℕ) (ask : Ask)
    (member : ℕ) (lease : T) (config : MemberConfig) (endpoint : Endpoint) (ran : Ran) (desk : DeskState) (clock : Option (List ℕ)) (v : RoundVerdict)
    → HasGoneRound note q first fresh s n at back_at ask member lease config endpoint ran desk clock None
    → v ≡ verdict_for endpoint q.head member ran → IsStep q first ask.tried fresh s n v
came_back note q first fresh s n at back_at ask member lease config endpoint ran desk clock v gone is =
    inr (inl (_, is_round note q first fresh s n at back_at ask member lease config endpoint ran desk clock None gone, is))

pub was_stray : {T : Type 0} (note : T → LeaseNote) (q : Errand) (first : List ℕ) (fresh : Bool) (s n : Scene) (at back_at : ℕ) (ask : Ask)
    (member : ℕ) (lease : T) (config : MemberConfig) (endpoint : Endpoint) (ran : Ran) (desk : DeskState) (clock : Option (List ℕ)) (stray : Stray)
    → HasGoneRound note q first fresh s n at back_at ask member lease config endpoint ran desk clock (Some stray)
    → IsStep q first ask.tried fresh s n (verdict.End (exchange_end.Stray stray.ticket stray.returned_at))
was_stray note q first fresh s n at back_at ask member lease config endpoint ran desk clock stray gone =
    inr (inr (_, stray, is_round note q first fresh s n at back_at ask member lease config endpoint ran desk clock (Some stray) gone, refl))

pub went_back : {T : Type 0} (note : T → LeaseNote) (q : Errand) (first : List ℕ) (fresh : Bool) (s n : Scene) (at back_at : ℕ) (ask : Ask)
    (member : ℕ) (lease : T) (config : MemberConfig) (endpoint : Endpoint) (ran : Ran) (desk : DeskState) (clock : Option (List ℕ)) (stray : Option Stray) (v : RoundVerdict)
    → HasGoneRound note q first fresh s n at back_at ask member lease config endpoint ran desk clock stray
    → v ≡ verdict_back stray endpoint q.head member ran → IsStep q first ask.tried fresh s n v
went_back note q first fresh s n at back_at ask member lease config endpoint ran desk clock None v gone is =
    came_back note q first fresh s n at back_at ask member lease config endpoint ran desk clock v gone is
went_back note q first fresh s n at back_at ask member lease config endpoint ran desk clock (Some stray) v gone is =
    subst (IsStep q first ask.tried fresh s n) (sym is) (was_stray note q first fresh s n at back_at ask member lease config endpoint ran desk clock stray gone)
