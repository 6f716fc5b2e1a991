-- Where an exchange ended otherwise than by its client's fault or a stray, no call of the client had failed.
use Rattle.std.proofs.Common.{◌≡◌, ℕ, Bool, List, None, Ok, Err, refl, ap, ◌∙◌, subst, inl, inr}
use Rattle.jk_io.specs.Moments.{Moment}
use Rattle.jk_io.specs.declared.failures.NoMemory.{NoMemory}
use Rattle.ajp_talk.specs.Talk.{IsCalmEnd}
use Rattle.ajp_talk.specs.declared.ending.TalkEnd.{TalkEnd}
use Rattle.ajp_talk.specs.declared.plan.TalkPlan.{TalkPlan}
use Rattle.site_config.specs.declared.endpoint.Endpoint.{Endpoint}
use Rattle.exchange.specs.Exchanges.{EndsIn, HasNoRound, IsCalmExchange, IsExchange, IsLast, IsOwnCause, begun_with}
use Rattle.exchange.specs.OneTalk.{Around, IsOneTalk}
use Rattle.exchange.specs.Requests.{Errand, plan_for}
use Rattle.exchange.specs.Rounds.{HasEnded, Round, Scene, is_later}
use Rattle.exchange.specs.Talks.{HasRun}
use Rattle.exchange.specs.declared.ending.ExchangeEnd.{ExchangeEnd}
use Rattle.exchange.specs.declared.ending.ExchangeEnd.TheVariants as exchange_end
use Rattle.exchange.specs.declared.ending.Ran.{Ran}
use Rattle.exchange.specs.declared.ending.Ran.TheVariants as ran_is
use Rattle.exchange.proofs.EarlyLaws.{IsEarly, final_of_round, rounds_unmoved, starts_early, still_early}
use Rattle.exchange.proofs.GrowLaws.{rounds_grow}
use Rattle.exchange.proofs.UnmovedLaws.{all_unmoved}

one_calm : (lb member : ℕ) (endpoint : Endpoint) (plan : TalkPlan) (fresh : Bool) (b n : Around) (end : TalkEnd) → IsOneTalk lb member endpoint plan fresh b n (Ok end)
    → IsCalmEnd (Ok end) → n.client.faults ≡ b.client.faults
one_calm lb member endpoint plan fresh b n end (inl held) calm = held.calm calm
one_calm lb member endpoint plan fresh b n end (inr (inl linkless)) calm = ap (λ (x : Moment). x.faults) linkless.1.client
one_calm lb member endpoint plan fresh b n end (inr (inr wanted)) calm = absurd (let apart : Ok end ≡ Err wanted.0 = wanted.1 in cc)

-- by the last talk of the last round
final_calm : (q : Errand) (first : List ℕ) (s : Around) (past : List Round) (a m : Scene) (r : Round) (end : TalkEnd) → IsEarly q first s a.around → IsLast q first past a m r
    → HasEnded r end → IsCalmEnd (Ok end) → m.around.client.faults ≡ s.client.faults
final_calm q first s past a m r end early round ended calm =
    let final = final_of_round q first s _ _ a m r None end early round ended in
    one_calm _ _ _ _ final.fresh final.begun m.around end final.talk calm ∙ final.early.client_faults

large_calm : (q : Errand) (first : List ℕ) (r : Round) (fresh : Bool) (a m : Around) → HasRun q first r.member r.config r.endpoint fresh a m ran_is.TooLarge
    → m.client.faults ≡ a.client.faults
large_calm q first r fresh a m (inl (fits, run)) = absurd run
large_calm q first r fresh a m (inr (inl (is, unfit, same))) = ap (λ (x : Around). x.client.faults) same
large_calm q first r fresh a m (inr (inr (is, same))) = absurd cc

one_wanted : (lb member : ℕ) (endpoint : Endpoint) (plan : TalkPlan) (fresh : Bool) (b n : Around) (e : NoMemory) → IsOneTalk lb member endpoint plan fresh b n (Err e)
    → n.client.faults ≡ b.client.faults
one_wanted lb member endpoint plan fresh b n e (inl held) = held.calm tt
one_wanted lb member endpoint plan fresh b n e (inr (inl linkless)) = ap (λ (x : Moment). x.faults) linkless.1.client
one_wanted lb member endpoint plan fresh b n e (inr (inr wanted)) = ap (λ (x : Moment). x.faults) wanted.2.client

-- want of memory raises no count
wanted_calm : (q : Errand) (first : List ℕ) (r : Round) (fresh : Bool) (bytes : ℕ) (a m : Around) → HasRun q first r.member r.config r.endpoint fresh a m (ran_is.Wanted bytes)
    → m.client.faults ≡ a.client.faults
wanted_calm q first r fresh bytes a m (inl (fits, (before, e, runs, told))) =
    one_wanted _ _ _ _ _ runs.mid m e runs.final
    ∙ (all_unmoved q.lb r.member r.endpoint q.head (plan_for q first r.config r.endpoint) fresh a before runs.mid runs.failed).client_faults
wanted_calm q first r fresh bytes a m (inr (inl (is, unfit, same))) = absurd cc
wanted_calm q first r fresh bytes a m (inr (inr (is, same))) = ap (λ (x : Around). x.client.faults) same

own_calm : (q : Errand) (first : List ℕ) (s : Around) (past : List Round) (a m : Scene) (status : ℕ) → IsEarly q first s a.around → IsOwnCause q first past a m status
    → m.around.client.faults ≡ s.client.faults
own_calm q first s past a m status early (inl none) = ap (λ (x : Around). x.client.faults) none.1.around ∙ early.client_faults
own_calm q first s past a m status early (inr (inl forced)) = ap (λ (x : Around). x.client.faults) forced.1.around ∙ early.client_faults
own_calm q first s past a m status early (inr (inr (inl full))) = ap (λ (x : Around). x.client.faults) full.1.around ∙ early.client_faults
own_calm q first s past a m status early (inr (inr (inr (r, round, inl (large, by))))) =
    large_calm q first r (is_later past) a.around m.around
    (subst (λ (ran : Ran). HasRun q first r.member r.config r.endpoint (is_later past) a.around m.around ran) large round.talked) ∙ early.client_faults
own_calm q first s past a m status early (inr (inr (inr (r, round, inr (inl (cause, given, by)))))) =
    final_calm q first s past a m r _ early round given.ended tt
own_calm q first s past a m status early (inr (inr (inr (r, round, inr (inr bad))))) = final_calm q first s past a m r _ early round bad.ended tt

same_end : (m n : Scene) (faults : ℕ) → n ≡ m → m.around.client.faults ≡ faults → n.around.client.faults ≡ faults
same_end m n faults same is = ap (λ (x : Scene). x.around.client.faults) same ∙ is

last_calm : (q : Errand) (first : List ℕ) (s : Around) (past : List Round) (a m n : Scene) (end : ExchangeEnd) → IsEarly q first s a.around → EndsIn q first past a m n end
    → IsCalmExchange end → n.around.client.faults ≡ s.client.faults
last_calm q first s past a m n (exchange_end.Done member told) early (r, round, is, has, rest) calm =
    same_end m n s.client.faults rest (final_calm q first s past a m r _ early round has.ended tt)
last_calm q first s past a m n (exchange_end.Own status) early (cause, writes) calm = writes.steady ∙ own_calm q first s past a m status early cause
last_calm q first s past a m n (exchange_end.Cut member told) early (r, round, is, rest, inl (cause, given)) calm =
    same_end m n s.client.faults rest (final_calm q first s past a m r _ early round given.ended tt)
last_calm q first s past a m n (exchange_end.Cut member told) early (r, round, is, rest, inr (status, bad)) calm =
    same_end m n s.client.faults rest (final_calm q first s past a m r _ early round bad.ended tt)
last_calm q first s past a m n exchange_end.ClientFault early ends_in calm = absurd calm
last_calm q first s past a m n exchange_end.Truncated early (r, round, gone, rest) calm =
    same_end m n s.client.faults rest (final_calm q first s past a m r _ early round gone.ended tt)
last_calm q first s past a m n (exchange_end.Stray ticket returned_at) early ends_in calm = absurd calm
last_calm q first s past a m n exchange_end.NoMemory early (inl (none, rest)) calm =
    same_end m n s.client.faults rest (ap (λ (x : Around). x.client.faults) none.around ∙ early.client_faults)
last_calm q first s past a m n exchange_end.NoMemory early (inr (inl (r, bytes, round, is, rest))) calm =
    same_end m n s.client.faults rest
    (wanted_calm q first r (is_later past) bytes a.around m.around
    (subst (λ (ran : Ran). HasRun q first r.member r.config r.endpoint (is_later past) a.around m.around ran) is round.talked) ∙ early.client_faults)
last_calm q first s past a m n exchange_end.NoMemory early (inr (inr (status, cause, wants))) calm =
    wants.steady ∙ own_calm q first s past a m status early cause

none_calm : (q : Errand) (s n : Scene) (end : ExchangeEnd) → (none : HasNoRound q s n end) → IsCalmExchange end → n.around.client.faults ≡ s.around.client.faults
none_calm q s n (exchange_end.Done member told) none calm = absurd none.why
none_calm q s n (exchange_end.Own status) none calm = absurd none.why
none_calm q s n (exchange_end.Cut member told) none calm = absurd none.why
none_calm q s n exchange_end.ClientFault none calm = absurd calm
none_calm q s n exchange_end.Truncated none calm = none.steady tt
none_calm q s n (exchange_end.Stray ticket returned_at) none calm = absurd calm
none_calm q s n exchange_end.NoMemory none calm = none.steady tt

pub calm_at : (q : Errand) (s n : Scene) (end : ExchangeEnd) → IsExchange q s n end → IsCalmExchange end → n.around.client.faults ≡ s.around.client.faults
calm_at q s n end (inl none) calm = none_calm q s n end none calm
calm_at q s n end (inr rounds) calm =
    let start = begun_with s rounds.client rounds.body in
    last_calm q rounds.first s.around rounds.through.past rounds.through.asked rounds.through.ruled n end
    (still_early q rounds.first s.around start.around rounds.through.asked.around (starts_early q rounds.first s rounds.client rounds.body rounds.took rounds.unwritten rounds.steady)
    (rounds_unmoved q rounds.first start rounds.through.past rounds.through.asked rounds.through.gone_on)
    (rounds_grow q rounds.first start rounds.through.past rounds.through.asked rounds.through.gone_on))
    rounds.through.ends_in calm
