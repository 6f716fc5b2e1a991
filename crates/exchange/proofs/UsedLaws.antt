-- The client's bytes are used from the front, and none comes back.
use Rattle.std.proofs.Common.{◌≡◌, ℕ, Bool, List, [], ◌∷◌, ◌++◌, Option, Some, None, Result, Ok, Err, refl, sym, ap, ◌∙◌, subst, inl, inr, append_assoc}
use Rattle.jk_io.specs.Told.{prepended}
use Rattle.jk_io.specs.declared.failures.NoMemory.{NoMemory}
use Rattle.lb_model.specs.declared.member.MemberConfig.{MemberConfig}
use Rattle.lb_model.specs.declared.refusal.Stray.{Stray}
use Rattle.jk_io.specs.Moments.{Moment}
use Rattle.ajp_talk.specs.Moments.{BodyAt, IsUsed, TakesOfBody}
use Rattle.ajp_talk.specs.Talk.{IsTalk}
use Rattle.ajp_talk.specs.declared.ending.TalkEnd.{TalkEnd}
use Rattle.ajp_talk.specs.declared.ending.TalkEnd.TheVariants as ends
use Rattle.ajp_talk.specs.declared.plan.TalkPlan.{TalkPlan}
use Rattle.http_front.specs.declared.head.Head.{Head}
use Rattle.site_config.specs.declared.endpoint.Endpoint.{Endpoint}
use Rattle.exchange.specs.Exchanges.{EndsIn, IsExchange, IsOwnCause}
use Rattle.exchange.specs.OneTalk.{Around, IsOneTalk}
use Rattle.exchange.specs.Requests.{Errand, plan_for}
use Rattle.exchange.specs.Rounds.{HaveGoneOn, IsRound, Round, Scene}
use Rattle.exchange.specs.Talks.{HasRun, HaveFailed}
use Rattle.exchange.specs.declared.ending.ExchangeEnd.{ExchangeEnd}
use Rattle.exchange.specs.declared.ending.ExchangeEnd.TheVariants as exchange_end
use Rattle.exchange.specs.declared.ending.Ran.{Ran}
use Rattle.exchange.specs.declared.ending.Ran.TheVariants as ran_is

prepended_twice : (a b : List ℕ) (told : Option (List ℕ)) → prepended a (prepended b told) ≡ prepended (a ++ b) told
prepended_twice a b None = refl
prepended_twice a b (Some bytes) = ap Some (sym (append_assoc a b bytes))

prepended_none : (told : Option (List ℕ)) → told ≡ prepended [] told
prepended_none None = refl
prepended_none (Some bytes) = refl

used_none : (b : BodyAt) → IsUsed b b
used_none b = record { gone = []; used = prepended_none b.unread; most = refl }

-- memory was wanted before anything was done
pub unasked : (q : Errand) (s : Scene) → IsExchange q s s exchange_end.NoMemory
unasked q s = inl (record { why = tt; desk = refl; clock = refl; talks = refl; faults = refl; written = refl; steady = λ calm. refl; used = used_none s.around.body })

same_used : (s n : BodyAt) → n ≡ s → IsUsed s n
same_used s n same = subst (IsUsed s) (sym same) (used_none s)

used_twice : (s m n : BodyAt) → IsUsed s m → IsUsed m n → IsUsed s n
used_twice s m n first second = record {
  gone = first.gone ++ second.gone;
  used = first.used ∙ ap (prepended first.gone) second.used ∙ prepended_twice first.gone second.gone n.unread;
  most = second.most ∙ first.most;
}

used_by : (s n : BodyAt) (taken : List ℕ) → TakesOfBody s n taken → IsUsed s n
used_by s n taken takes = record { gone = takes.uses.gone; used = takes.uses.used; most = takes.most }

talk_used : (plan : TalkPlan) (s n : Around) (opened closed : Moment) (answer : Result TalkEnd NoMemory)
    → IsTalk plan (record { line = opened; client = s.client; body = s.body }) (record { line = closed; client = n.client; body = n.body }) answer → IsUsed s.body n.body
talk_used plan s n opened closed (Ok (ends.Done told reuse moved)) done = used_by s.body n.body done.taken done.takes
talk_used plan s n opened closed (Ok (ends.Failed stage cause told moved)) (inl failed) = used_by s.body n.body failed.taken failed.takes
talk_used plan s n opened closed (Ok (ends.Failed stage cause told moved)) (inr silent) = same_used s.body n.body silent.body
talk_used plan s n opened closed (Ok (ends.ClientGone truncated keep moved)) gone = gone.broken.body
talk_used plan s n opened closed (Ok (ends.BadBody status told passed moved)) bad = bad.body
talk_used plan s n opened closed (Err e) (inl wanted) = wanted.broken.body
talk_used plan s n opened closed (Err e) (inr early) = same_used s.body n.body early.body

one_used : (lb member : ℕ) (endpoint : Endpoint) (plan : TalkPlan) (fresh : Bool) (s n : Around) (answer : Result TalkEnd NoMemory)
    → IsOneTalk lb member endpoint plan fresh s n answer → IsUsed s.body n.body
one_used lb member endpoint plan fresh s n answer (inl held) = talk_used _ s n held.opened held.closed answer held.talk
one_used lb member endpoint plan fresh s n answer (inr (inl linkless)) = same_used s.body n.body linkless.1.body
one_used lb member endpoint plan fresh s n answer (inr (inr wanted)) = same_used s.body n.body wanted.2.body

failed_used : (lb member : ℕ) (endpoint : Endpoint) (head : Head) (plan : TalkPlan) (fresh : Bool) (s : Around) (past : List TalkEnd) (n : Around)
    → HaveFailed lb member endpoint head plan fresh s past n → IsUsed s.body n.body
failed_used lb member endpoint head plan fresh s [] n same = same_used s.body n.body (ap (λ (x : Around). x.body) same)
failed_used lb member endpoint head plan fresh s (end ∷ past) n (mid, before, talk, again) =
    used_twice s.body mid.body n.body (failed_used lb member endpoint head plan fresh s past mid before) (one_used lb member endpoint plan _ mid n (Ok end) talk)

run_used : (q : Errand) (first : List ℕ) (member : ℕ) (config : MemberConfig) (endpoint : Endpoint) (fresh : Bool) (s n : Around) (ran : Ran)
    → HasRun q first member config endpoint fresh s n ran → IsUsed s.body n.body
run_used q first member config endpoint fresh s n ran_is.TooLarge (inl (fits, run)) = absurd run
run_used q first member config endpoint fresh s n (ran_is.Wanted bytes) (inl (fits, (before, e, runs, told))) =
    used_twice s.body runs.mid.body n.body (failed_used q.lb member endpoint q.head (plan_for q first config endpoint) fresh s before runs.mid runs.failed)
    (one_used q.lb member endpoint (plan_for q first config endpoint) _ runs.mid n (Err e) runs.final)
run_used q first member config endpoint fresh s n (ran_is.Ended end bytes) (inl (fits, (before, runs, told))) =
    used_twice s.body runs.mid.body n.body (failed_used q.lb member endpoint q.head (plan_for q first config endpoint) fresh s before runs.mid runs.failed)
    (one_used q.lb member endpoint (plan_for q first config endpoint) _ runs.mid n (Ok end) runs.final)
run_used q first member config endpoint fresh s n ran (inr (inl (is, unfit, none))) = same_used s.body n.body (ap (λ (x : Around). x.body) none)
run_used q first member config endpoint fresh s n ran (inr (inr (is, none))) = same_used s.body n.body (ap (λ (x : Around). x.body) none)

round_used : (q : Errand) (first : List ℕ) (tried : ℕ) (fresh : Bool) (s n : Scene) (r : Round) (stray : Option Stray) → IsRound q first tried fresh s n r stray
    → IsUsed s.around.body n.around.body
round_used q first tried fresh s n r stray round = run_used q first r.member r.config r.endpoint fresh s.around n.around r.ran round.talked

rounds_used : (q : Errand) (first : List ℕ) (s : Scene) (past : List Round) (n : Scene) → HaveGoneOn q first s past n → IsUsed s.around.body n.around.body
rounds_used q first s [] n same = same_used s.around.body n.around.body (ap (λ (x : Scene). x.around.body) same)
rounds_used q first s (r ∷ past) n (mid, before, round, next) =
    used_twice s.around.body mid.around.body n.around.body (rounds_used q first s past mid before) (round_used q first _ _ mid n r None round)

unchosen_used : (a m : Scene) → m.around ≡ a.around → IsUsed a.around.body m.around.body
unchosen_used a m same = same_used a.around.body m.around.body (ap (λ (x : Around). x.body) same)

own_used : (q : Errand) (first : List ℕ) (past : List Round) (a m n : Scene) (status : ℕ) → IsOwnCause q first past a m status
    → n ≡ record m { around = record m.around { client = n.around.client } } → IsUsed a.around.body n.around.body
own_used q first past a m n status cause rest =
    used_twice a.around.body m.around.body n.around.body (by_cause cause) (same_used m.around.body n.around.body (ap (λ (x : Scene). x.around.body) rest))
  where
    by_cause : IsOwnCause q first past a m status → IsUsed a.around.body m.around.body
    by_cause (inl none) = unchosen_used a m none.1.around
    by_cause (inr (inl forced)) = unchosen_used a m forced.1.around
    by_cause (inr (inr (inl full))) = unchosen_used a m full.1.around
    by_cause (inr (inr (inr (r, round, why)))) = round_used q first _ _ a m r None round

then_same : (a m n : Scene) → IsUsed a.around.body m.around.body → n ≡ m → IsUsed a.around.body n.around.body
then_same a m n used rest = subst (λ (x : Scene). IsUsed a.around.body x.around.body) (sym rest) used

end_used : (q : Errand) (first : List ℕ) (past : List Round) (a m n : Scene) (end : ExchangeEnd) → EndsIn q first past a m n end → IsUsed a.around.body n.around.body
end_used q first past a m n (exchange_end.Done member told) (r, round, is, reply, rest) = then_same a m n (round_used q first _ _ a m r None round) rest
end_used q first past a m n (exchange_end.Own status) (cause, writes) = own_used q first past a m n status cause writes.rest
end_used q first past a m n (exchange_end.Cut member told) (r, round, is, rest, why) = then_same a m n (round_used q first _ _ a m r None round) rest
end_used q first past a m n exchange_end.ClientFault (inl (r, round, gone, rest)) = then_same a m n (round_used q first _ _ a m r None round) rest
end_used q first past a m n exchange_end.ClientFault (inr (status, cause, breaks, rose)) = own_used q first past a m n status cause breaks.rest
end_used q first past a m n exchange_end.Truncated (r, round, gone, rest) = then_same a m n (round_used q first _ _ a m r None round) rest
end_used q first past a m n (exchange_end.Stray ticket returned_at) (r, stray, round, is, at, rest) = then_same a m n (round_used q first _ _ a m r (Some stray) round) rest
end_used q first past a m n exchange_end.NoMemory (inl (none, rest)) = then_same a m n (unchosen_used a m none.around) rest
end_used q first past a m n exchange_end.NoMemory (inr (inl (r, bytes, round, is, rest))) = then_same a m n (round_used q first _ _ a m r None round) rest
end_used q first past a m n exchange_end.NoMemory (inr (inr (status, cause, breaks))) = own_used q first past a m n status cause breaks.rest

pub uses_all : (q : Errand) (s n : Scene) (end : ExchangeEnd) → IsExchange q s n end → IsUsed s.around.body n.around.body
uses_all q s n end (inl none) = none.used
uses_all q s n end (inr rounds) =
    used_twice s.around.body rounds.body n.around.body (used_by s.around.body rounds.body rounds.first rounds.took.takes)
    (used_twice rounds.body rounds.through.asked.around.body n.around.body (rounds_used q rounds.first _ rounds.through.past rounds.through.asked rounds.through.gone_on)
    (end_used q rounds.first rounds.through.past rounds.through.asked rounds.through.ruled n end rounds.through.ends_in))
