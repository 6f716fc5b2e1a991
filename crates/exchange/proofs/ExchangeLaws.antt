-- The rounds of an exchange, one after another.
use Rattle.std.proofs.Common.{◌≡◌, ℕ, ◌+◌, ◌<◌, ◌≤◌, ◌^◌, Bool, true, false, List, [], ◌∷◌, length, slice_get, slice_index, Option, Some, None, refl, ap, ◌∙◌, subst, inl, inr, arith}
use Rattle.lb_model.specs.Free.{is_in}
use Rattle.lb_model.specs.declared.ask.Ask.{Ask}
use Rattle.lb_model.specs.declared.member.MemberConfig.{MemberConfig}
use Rattle.lb_model.specs.declared.refusal.Stray.{Stray}
use Rattle.jk_io.specs.Moments.{Moment}
use Rattle.ajp_talk.specs.Moments.{BodyAt, IsUsed}
use Rattle.std.proofs.lemmas.Option.{get_or_from_slice_get, slice_get_within}
use Rattle.forwarding.proofs.FirstPieceLaws.{within_each}
use Rattle.forwarding.specs.FirstPiece.{piece_for}
use Rattle.http_front.specs.declared.body.BodyIn.{BodyIn}
use Rattle.http_front.specs.Unread.{unread}
use Rattle.http_front.specs.declared.head.BodyPlan.{BodyPlan}
use Rattle.http_front.specs.declared.head.BodyPlan.TheVariants as plan_is
use Rattle.ajp_talk.specs.declared.ending.TalkEnd.{TalkEnd}
use Rattle.forwarding.specs.FirstPiece.{first_len}
use Rattle.site_config.specs.declared.endpoint.Endpoint.{Endpoint}
use Rattle.exchange.specs.Exchanges.{GoesThrough, IsCalmExchange, IsExchange, begun_with}
use Rattle.exchange.specs.FirstPiece.{IsFirstFailure, TakesFirst}
use Rattle.exchange.specs.OneTalk.{Around}
use Rattle.exchange.specs.Requests.{Errand, ask_for, own_kind, plan_for}
use Rattle.exchange.specs.Rounds.{HaveGoneOn, IsRound, MayGoOn, Round, Scene, is_later, tried_in}
use Rattle.http_out.specs.declared.own_answers.Own.{Own}
use Rattle.exchange.specs.Steps.{Concludes, IsNoChoice, IsStep, IsWritten}
use Rattle.exchange.specs.Talks.{HasRun, is_fresh}
use Rattle.exchange.specs.declared.ending.ExchangeEnd.{ExchangeEnd}
use Rattle.exchange.specs.declared.ending.ExchangeEnd.TheVariants as exchange_end
use Rattle.exchange.specs.declared.ending.Ran.{Ran}
use Rattle.exchange.specs.declared.ending.Ran.TheVariants as ran_is
use Rattle.exchange.specs.declared.ending.RoundVerdict.{RoundVerdict}
use Rattle.exchange.specs.declared.ending.RoundVerdict.TheVariants as verdict
use Rattle.exchange.proofs.EndLaws.{ends_in, goes_on_after}
use Rattle.exchange.proofs.UnmovedLaws.{IsUnmoved, all_unmoved, follow_unmoved, may_follow, still, unmoved_twice}

-- Members were tried, and another one is to be asked for.
pub record IsSearching (q : Errand) (first : List ℕ) (s n : Scene) (ask : Ask) (fresh : Bool) : Type 0 where
  pub past : List Round
  pub gone_on : HaveGoneOn q first s past n
  pub ask_is : ask ≡ ask_for q (tried_in past)
  pub fresh_is : fresh ≡ is_later past
  pub unmoved : IsUnmoved s.around n.around

pub begins : (q : Errand) (first : List ℕ) (s : Scene) (ask : Ask) → ask ≡ ask_for q 0 → IsSearching q first s s ask false
begins q first s ask is = record {
  past = [];
  gone_on = refl;
  ask_is = is;
  fresh_is = refl;
  unmoved = still s.around;
}

run_unmoved : (q : Errand) (first : List ℕ) (member : ℕ) (config : MemberConfig) (endpoint : Endpoint) (fresh : Bool) (s n : Around) (end : TalkEnd) (bytes : ℕ)
    → HasRun q first member config endpoint fresh s n (ran_is.Ended end bytes) → may_follow endpoint q.head end ≡ true → IsUnmoved s n
run_unmoved q first member config endpoint fresh s n end bytes (inl (fits, (before, runs, told))) may =
    unmoved_twice s runs.mid n (all_unmoved q.lb member endpoint q.head (plan_for q first config endpoint) fresh s before runs.mid runs.failed)
    (follow_unmoved q.lb member endpoint q.head (plan_for q first config endpoint) (is_fresh fresh before) runs.mid n end runs.final may)
run_unmoved q first member config endpoint fresh s n end bytes (inr (inl (is, unfit, same))) may = absurd cc
run_unmoved q first member config endpoint fresh s n end bytes (inr (inr (is, same))) may = absurd cc

-- nobody was chosen, so no other round follows
none_again : (q : Errand) (tried : ℕ) (s n : Scene) (m : ℕ) → IsNoChoice q tried s n (verdict.Again m) → ⊥
none_again q tried s n m (inl none) = let is : verdict.Again m ≡ verdict.Answer Own.ServiceUnavailable = none.0 in cc
none_again q tried s n m (inr (inl forced)) = let is : verdict.Again m ≡ verdict.Answer Own.InternalServerError = forced.0 in cc
none_again q tried s n m (inr (inr (inl full))) = let is : verdict.Again m ≡ verdict.Answer Own.InternalServerError = full.0 in cc
none_again q tried s n m (inr (inr (inr wanted))) = let is : verdict.Again m ≡ verdict.End exchange_end.NoMemory = wanted.0 in cc

pub record HasTried (q : Errand) (first : List ℕ) (tried : ℕ) (fresh : Bool) (s n : Scene) (m : ℕ) : Type 0 where
  pub round : Round
  pub is_round : IsRound q first tried fresh s n round None
  pub member : m ≡ round.member
  pub again : MayGoOn q round
  pub unmoved : IsUnmoved s.around n.around

-- a round after which another try is allowed wrote and took nothing
pub round_unmoved : (q : Errand) (first : List ℕ) (tried : ℕ) (fresh : Bool) (s n : Scene) (r : Round) (stray : Option Stray) → IsRound q first tried fresh s n r stray
    → MayGoOn q r → IsUnmoved s.around n.around
round_unmoved q first tried fresh s n r stray round next =
    run_unmoved q first r.member r.config r.endpoint fresh s.around n.around _ next.ended.0
    (subst (λ (ran : Ran). HasRun q first r.member r.config r.endpoint fresh s.around n.around ran) next.ended.1 round.talked) next.allowed

pub has_tried : (q : Errand) (first : List ℕ) (tried : ℕ) (fresh : Bool) (s n : Scene) (m : ℕ) → IsStep q first tried fresh s n (verdict.Again m) → HasTried q first tried fresh s n m
has_tried q first tried fresh s n m (inl none) = absurd (none_again q tried s n m none)
has_tried q first tried fresh s n m (inr (inl (r, round, is))) =
    let next : (m ≡ r.member) × MayGoOn q r = goes_on_after q r m r.ran refl is in
    record { round = r; is_round = round; member = next.0; again = next.1; unmoved = round_unmoved q first tried fresh s n r None round next.1 }
has_tried q first tried fresh s n m (inr (inr (r, stray, round, is))) = absurd cc

-- the member is another one, and one of the balancer's
pub is_another : (q : Errand) (first : List ℕ) (tried : ℕ) (fresh : Bool) (s n : Scene) (m size : ℕ) → slice_index s.desk.sizes q.lb ≡ size → size ≤ 64
    → IsStep q first tried fresh s n (verdict.Again m) → (m < 64) × (is_in tried m ≡ false)
is_another q first tried fresh s n m size sized few step =
    let had : HasTried q first tried fresh s n m = has_tried q first tried fresh s n m step in
    let within : had.round.member < slice_index s.desk.sizes q.lb = had.is_round.chose.answered.5 in
    let untried : is_in tried had.round.member ≡ false = had.is_round.chose.answered.6 in
    (omega (arith, within, sized, few, had.member), ap (λ (x : ℕ). is_in tried x) had.member ∙ untried)

pub searches_on : (q : Errand) (first : List ℕ) (s n m : Scene) (ask next : Ask) (fresh : Bool) (member : ℕ) → IsSearching q first s n ask fresh
    → IsStep q first ask.tried fresh n m (verdict.Again member) → next ≡ record ask { tried = ask.tried + 2 ^ member }
    → IsSearching q first s m next true
searches_on q first s n m ask next fresh member way step is =
    let had : HasTried q first ask.tried fresh n m member = has_tried q first ask.tried fresh n m member step in
    let tried : ask.tried ≡ tried_in way.past = ap (λ (a : Ask). a.tried) way.ask_is in
    record {
      past = had.round ∷ way.past;
      gone_on = (
        n,
        way.gone_on,
        subst (λ (f : Bool). IsRound q first (tried_in way.past) f n m had.round None) way.fresh_is
            (subst (λ (t : ℕ). IsRound q first t fresh n m had.round None) tried had.is_round),
        had.again,
      );
      ask_is = is ∙ ap (λ (a : Ask). record a { tried = a.tried + 2 ^ member }) way.ask_is
          ∙ ap (λ (x : ℕ). ask_for q (tried_in way.past + 2 ^ x)) had.member;
      fresh_is = refl;
      unmoved = unmoved_twice s.around n.around m.around way.unmoved had.unmoved;
    }

pub goes_through : (q : Errand) (first : List ℕ) (b n m e : Scene) (ask : Ask) (fresh : Bool) (v : RoundVerdict) (end : ExchangeEnd)
    → IsSearching q first b n ask fresh → IsStep q first ask.tried fresh n m v → Concludes (own_kind q) v m e end → GoesThrough q first b e end
goes_through q first b n m e ask fresh v end way step concluded = record {
  past = way.past;
  asked = n;
  ruled = m;
  gone_on = way.gone_on;
  ends_in = ends_in q first way.past n m e v end
      (subst (λ (f : Bool). IsStep q first (tried_in way.past) f n m v) way.fresh_is
      (subst (λ (t : ℕ). IsStep q first t fresh n m v) (ap (λ (a : Ask). a.tried) way.ask_is) step)) concluded;
}

pub is_exchange : (q : Errand) (first : List ℕ) (s e : Scene) (client : Moment) (body : BodyAt) (end : ExchangeEnd)
    → TakesFirst (first_len q.head.plan q.balancer.ends) s.around.body body first → client.sent ≡ s.around.client.sent → client.faults ≡ s.around.client.faults
    → GoesThrough q first (begun_with s client body) e end → IsExchange q s e end
is_exchange q first s e client body end took unwritten steady through =
    inr (record { first = first; client = client; body = body; took = took; unwritten = unwritten; steady = steady; through = through })

pub never_began : (q : Errand) (s n : Scene) (end : ExchangeEnd)
    → IsFirstFailure (first_len q.head.plan q.balancer.ends) s.around.body s.around.client.faults n.around.client.faults end
    → n.desk ≡ s.desk → n.clock ≡ s.clock → n.around.talks ≡ s.around.talks → n.around.faults ≡ s.around.faults
    → n.around.client.sent ≡ s.around.client.sent → (IsCalmExchange end → n.around.client.faults ≡ s.around.client.faults)
    → IsUsed s.around.body n.around.body → IsExchange q s n end
never_began q s n end why desk clock talks faults written steady used =
    inl (record { why = why; desk = desk; clock = clock; talks = talks; faults = faults; written = written; steady = steady; used = used })

pub goes_own : (q : Errand) (first : List ℕ) (b n m : Scene) (ask : Ask) (fresh : Bool) (own : Own) (client : Moment) (body : BodyAt) (end : ExchangeEnd)
    → IsSearching q first b n ask fresh → IsStep q first ask.tried fresh n m (verdict.Answer own) → body ≡ m.around.body → m.around.client.faults ≤ client.faults
    → IsWritten own (own_kind q) m.around.client client end → GoesThrough q first b (record m { around = record m.around { client = client; body = body } }) end
goes_own q first b n m ask fresh own client body end way step same no_fewer written =
    let with : BodyAt → Scene = λ x. record m { around = record m.around { client = client; body = x } } in
    goes_through q first b n m (with body) ask fresh (verdict.Answer own) end way step (ap with same, no_fewer, written)

abbrev pub body_with : BodyIn → List ℕ → Option (List ℕ) → BodyAt
body_with body inbox told = record { body = body; unread = unread inbox told }

pub same_body : (body : BodyIn) (inbox : List ℕ) (now before : Option (List ℕ)) → now ≡ before → body_with body inbox now ≡ body_with body inbox before
same_body body inbox now before same = ap (body_with body inbox) same

-- what was taken fits a packet for each member
first_fits : (plan : BodyPlan) (ends : List Endpoint) (m : ℕ) (endpoint : Endpoint) → slice_get ends m ≡ Some endpoint → m < length ends
    → first_len plan ends ≤ piece_for endpoint
first_fits plan_is.None ends m endpoint there within = omega arith
first_fits plan_is.Chunked ends m endpoint there within = omega arith
first_fits (plan_is.Exact n) ends m endpoint there within =
    subst (λ (e : Endpoint). first_len (plan_is.Exact n) ends ≤ piece_for e) (get_or_from_slice_get ends m endpoint endpoint there) (within_each n ends m endpoint within)

pub first_fits_each : (plan : BodyPlan) (ends : List Endpoint) (s n : BodyAt) (first : List ℕ) → TakesFirst (first_len plan ends) s n first
    → (endpoint : Endpoint) → (m : ℕ) → slice_get ends m ≡ Some endpoint → length first ≤ piece_for endpoint
first_fits_each plan ends s n first took endpoint m there =
    let fits : first_len plan ends ≤ piece_for endpoint = first_fits plan ends m endpoint there (slice_get_within ends m endpoint there) in
    omega (arith, took.short, fits)
