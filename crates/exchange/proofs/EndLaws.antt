-- How an exchange ends, by what its last round came to.
use Rattle.std.proofs.Common.{◌≡◌, ℕ, ◌≤◌, Bool, true, false, List, Option, Some, None, refl, sym, ap, ◌∙◌, subst, inl, inr, if◌then◌else◌}
use Rattle.jk_io.specs.Told.{appended, PutsFront}
use Rattle.ajp_talk.specs.declared.ending.Cause.{Cause}
use Rattle.ajp_reply.specs.declared.stage.Stage.{Stage}
use Rattle.ajp_talk.specs.declared.ending.TalkEnd.TheVariants as ends
use Rattle.ajp_talk.specs.declared.ending.Told.{Told}
use Rattle.http_out.specs.Own.{own_bytes, own_with, status_of}
use Rattle.http_out.specs.declared.own_answers.Own.{Own}
use Rattle.exchange.specs.Ends.{is_status, status_for}
use Rattle.exchange.specs.Deliveries.{PutsShort}
use Rattle.exchange.specs.Exchanges.{EndsIn, IsLast, IsOwnAfter, IsOwnCause, WritesOwn}
use Rattle.exchange.specs.OneTalk.{Around}
use Rattle.exchange.specs.Requests.{Errand, allows, own_kind}
use Rattle.exchange.specs.Rounds.{MayGoOn, Round, Scene, is_later, tried_in}
use Rattle.exchange.specs.Talks.{HasRun}
use Rattle.exchange.specs.Steps.{Concludes, IsNoChoice, IsStep, IsWritten, after_failure, verdict_for}
use Rattle.exchange.specs.declared.ending.ExchangeEnd.{ExchangeEnd}
use Rattle.exchange.specs.declared.ending.ExchangeEnd.TheVariants as exchange_end
use Rattle.exchange.specs.declared.ending.Ran.{Ran}
use Rattle.exchange.specs.declared.ending.Ran.TheVariants as ran_is
use Rattle.exchange.specs.declared.ending.RoundVerdict.{RoundVerdict}
use Rattle.exchange.specs.declared.ending.RoundVerdict.TheVariants as verdict
use Rattle.exchange.proofs.OwnLaws.{bad_own, failed_status, of_own}

-- ---- another round

failed_again : (b : Bool) (m member : ℕ) (cause : Cause) (told : Option Told)
    → verdict.Again m ≡ (if b then verdict.Again member else after_failure member cause told) → (m ≡ member) × (b ≡ true)
failed_again true m member cause told is = (cc, refl)
failed_again false m member cause None is = absurd cc
failed_again false m member cause (Some told) is = absurd cc

-- another round follows a talk that failed, where the options allow it, and nothing else
pub goes_on_after : (q : Errand) (r : Round) (m : ℕ) (ran : Ran) → r.ran ≡ ran → verdict.Again m ≡ verdict_for r.endpoint q.head r.member ran → (m ≡ r.member) × MayGoOn q r
goes_on_after q r m ran_is.TooLarge ran is = absurd cc
goes_on_after q r m (ran_is.Wanted bytes) ran is = absurd cc
goes_on_after q r m (ran_is.Ended (ends.Done told reuse n) bytes) ran is = absurd cc
goes_on_after q r m (ran_is.Ended (ends.Failed stage cause told n) bytes) ran is =
    let both : (m ≡ r.member) × (allows r.endpoint q.head stage ≡ true) = failed_again (allows r.endpoint q.head stage) m r.member cause told is in
    (both.0, record { stage = stage; cause = cause; told = told; moved = n; ended = (bytes, ran); allowed = both.1 })
goes_on_after q r m (ran_is.Ended (ends.ClientGone true keep n) bytes) ran is = absurd cc
goes_on_after q r m (ran_is.Ended (ends.ClientGone false keep n) bytes) ran is = absurd cc
goes_on_after q r m (ran_is.Ended (ends.BadBody status None passed n) bytes) ran is = absurd cc
goes_on_after q r m (ran_is.Ended (ends.BadBody status (Some told) passed n) bytes) ran is = absurd cc

-- ---- an own answer

failed_own : (q : Errand) (r : Round) (b : Bool) (own : Own) (n bytes : ℕ) (stage : Stage) (cause : Cause) (told : Option Told)
    → r.ran ≡ ran_is.Ended (ends.Failed stage cause told n) bytes → allows r.endpoint q.head stage ≡ b
    → verdict.Answer own ≡ (if b then verdict.Again r.member else after_failure r.member cause told) → IsOwnAfter q r (status_of own)
failed_own q r true own n bytes stage cause told ran forbidden is = absurd cc
failed_own q r false own n bytes stage cause (Some told) ran forbidden is = absurd cc
failed_own q r false own n bytes stage cause None ran forbidden is =
    let known : own ≡ own_with (status_for cause) = cc in
    inr (inl (cause, record { stage = stage; moved = n; ended = (bytes, ran); forbidden = forbidden }, ap status_of known ∙ failed_status (is_status cause)))

own_after : (q : Errand) (first : List ℕ) (fresh : Bool) (s n : Around) (r : Round) (own : Own) (ran : Ran) → HasRun q first r.member r.config r.endpoint fresh s n ran → r.ran ≡ ran
    → verdict.Answer own ≡ verdict_for r.endpoint q.head r.member ran → IsOwnAfter q r (status_of own)
own_after q first fresh s n r own ran_is.TooLarge run ran is = let known : own ≡ Own.ContentTooLarge = cc in inl (ran, ap status_of known)
own_after q first fresh s n r own (ran_is.Wanted bytes) run ran is = absurd cc
own_after q first fresh s n r own (ran_is.Ended (ends.Done told reuse moved) bytes) run ran is = absurd cc
own_after q first fresh s n r own (ran_is.Ended (ends.Failed stage cause told moved) bytes) run ran is =
    failed_own q r (allows r.endpoint q.head stage) own moved bytes stage cause told ran refl is
own_after q first fresh s n r own (ran_is.Ended (ends.ClientGone true keep moved) bytes) run ran is = absurd cc
own_after q first fresh s n r own (ran_is.Ended (ends.ClientGone false keep moved) bytes) run ran is = absurd cc
own_after q first fresh s n r own (ran_is.Ended (ends.BadBody bad (Some told) passed moved) bytes) run ran is = absurd cc
own_after q first fresh s n r own (ran_is.Ended (ends.BadBody bad None passed moved) bytes) run ran is =
    let known : own ≡ own_with bad = cc in
    let same : bad ≡ status_of own = sym (ap status_of known ∙ bad_own q first r.member r.config r.endpoint fresh s n bad None passed moved bytes run) in
    inr (inr (record { passed = passed; moved = moved; ended = (bytes, ran ∙ ap (λ (k : ℕ). ran_is.Ended (ends.BadBody k None passed moved) bytes) same) }))

none_own : (q : Errand) (first : List ℕ) (past : List Round) (s m : Scene) (own : Own) → IsNoChoice q (tried_in past) s m (verdict.Answer own) → IsOwnCause q first past s m (status_of own)
none_own q first past s m own (inl none) =
    let is : verdict.Answer own ≡ verdict.Answer Own.ServiceUnavailable = none.0 in let known : own ≡ Own.ServiceUnavailable = cc in inl (ap status_of known, none.1)
none_own q first past s m own (inr (inl forced)) =
    let is : verdict.Answer own ≡ verdict.Answer Own.InternalServerError = forced.0 in let known : own ≡ Own.InternalServerError = cc in inr (inl (ap status_of known, forced.1))
none_own q first past s m own (inr (inr (inl full))) =
    let is : verdict.Answer own ≡ verdict.Answer Own.InternalServerError = full.0 in let known : own ≡ Own.InternalServerError = cc in inr (inr (inl (ap status_of known, full.1)))
none_own q first past s m own (inr (inr (inr wanted))) =
    let is : verdict.Answer own ≡ verdict.End exchange_end.NoMemory = wanted.0 in absurd cc

own_cause : (q : Errand) (first : List ℕ) (past : List Round) (s m : Scene) (own : Own)
    → IsStep q first (tried_in past) (is_later past) s m (verdict.Answer own) → IsOwnCause q first past s m (status_of own)
own_cause q first past s m own (inl none) = none_own q first past s m own none
own_cause q first past s m own (inr (inl (r, round, is))) =
    inr (inr (inr (r, round, own_after q first (is_later past) s.around m.around r own r.ran round.talked refl is)))
own_cause q first past s m own (inr (inr (r, stray, round, is))) = absurd cc

-- ---- an end with the round

-- the exchange ended as the round did
abbrev IsEnd : Errand → List ℕ → List Round → Scene → Scene → ExchangeEnd → Type 0
IsEnd q first past s m end = EndsIn q first past s m m end

known_end : (q : Errand) (first : List ℕ) (past : List Round) (s m : Scene) (end known : ExchangeEnd) → verdict.End end ≡ verdict.End known
    → IsEnd q first past s m known → IsEnd q first past s m end
known_end q first past s m end known is done = let same : known ≡ end = cc in subst (IsEnd q first past s m) same done

failed_end : (q : Errand) (first : List ℕ) (past : List Round) (s m : Scene) (end : ExchangeEnd) (r : Round) (b : Bool) (n bytes : ℕ) (stage : Stage) (cause : Cause)
    (told : Option Told) → IsLast q first past s m r → r.ran ≡ ran_is.Ended (ends.Failed stage cause told n) bytes → allows r.endpoint q.head stage ≡ b
    → verdict.End end ≡ (if b then verdict.Again r.member else after_failure r.member cause told) → IsEnd q first past s m end
failed_end q first past s m end r true n bytes stage cause told round ran forbidden is = absurd cc
failed_end q first past s m end r false n bytes stage cause None round ran forbidden is = absurd cc
failed_end q first past s m end r false n bytes stage cause (Some told) round ran forbidden is =
    known_end q first past s m end (exchange_end.Cut r.member told) is
    (r, round, refl, refl, inl (cause, record { stage = stage; moved = n; ended = (bytes, ran); forbidden = forbidden }))

end_after : (q : Errand) (first : List ℕ) (past : List Round) (s m : Scene) (end : ExchangeEnd) (r : Round) (ran : Ran) → IsLast q first past s m r → r.ran ≡ ran
    → verdict.End end ≡ verdict_for r.endpoint q.head r.member ran → IsEnd q first past s m end
end_after q first past s m end r ran_is.TooLarge round ran is = absurd cc
end_after q first past s m end r (ran_is.Wanted bytes) round ran is =
    known_end q first past s m end exchange_end.NoMemory is (inr (inl (r, bytes, round, ran, refl)))
end_after q first past s m end r (ran_is.Ended (ends.Done told reuse n) bytes) round ran is =
    known_end q first past s m end (exchange_end.Done r.member told) is (r, round, refl, record { reuse = reuse; moved = n; ended = (bytes, ran) }, refl)
end_after q first past s m end r (ran_is.Ended (ends.Failed stage cause told n) bytes) round ran is =
    failed_end q first past s m end r (allows r.endpoint q.head stage) n bytes stage cause told round ran refl is
end_after q first past s m end r (ran_is.Ended (ends.ClientGone true keep n) bytes) round ran is =
    known_end q first past s m end exchange_end.Truncated is (r, round, record { keep = keep; moved = n; ended = (bytes, ran) }, refl)
end_after q first past s m end r (ran_is.Ended (ends.ClientGone false keep n) bytes) round ran is =
    known_end q first past s m end exchange_end.ClientFault is (inl (r, round, record { keep = keep; moved = n; ended = (bytes, ran) }, refl))
end_after q first past s m end r (ran_is.Ended (ends.BadBody status None passed n) bytes) round ran is = absurd cc
end_after q first past s m end r (ran_is.Ended (ends.BadBody status (Some told) passed n) bytes) round ran is =
    known_end q first past s m end (exchange_end.Cut r.member told) is
    (r, round, refl, refl, inr (status, record { passed = passed; moved = n; ended = (bytes, ran) }))

none_end : (q : Errand) (first : List ℕ) (past : List Round) (s m : Scene) (end : ExchangeEnd) → IsNoChoice q (tried_in past) s m (verdict.End end) → IsEnd q first past s m end
none_end q first past s m end (inl none) = let is : verdict.End end ≡ verdict.Answer Own.ServiceUnavailable = none.0 in absurd cc
none_end q first past s m end (inr (inl forced)) = let is : verdict.End end ≡ verdict.Answer Own.InternalServerError = forced.0 in absurd cc
none_end q first past s m end (inr (inr (inl full))) = let is : verdict.End end ≡ verdict.Answer Own.InternalServerError = full.0 in absurd cc
none_end q first past s m end (inr (inr (inr wanted))) = known_end q first past s m end exchange_end.NoMemory wanted.0 (inl (wanted.1, refl))

step_end : (q : Errand) (first : List ℕ) (past : List Round) (s m : Scene) (end : ExchangeEnd)
    → IsStep q first (tried_in past) (is_later past) s m (verdict.End end) → IsEnd q first past s m end
step_end q first past s m end (inl none) = none_end q first past s m end none
step_end q first past s m end (inr (inl (r, round, is))) = end_after q first past s m end r r.ran round refl is
step_end q first past s m end (inr (inr (r, stray, round, is))) =
    known_end q first past s m end (exchange_end.Stray stray.ticket stray.returned_at) is (r, stray, round, refl, refl, refl)

-- ---- both

written_end : (q : Errand) (first : List ℕ) (past : List Round) (s m n : Scene) (own : Own) (end : ExchangeEnd) → IsOwnCause q first past s m (status_of own)
    → n ≡ record m { around = record m.around { client = n.around.client } } → m.around.client.faults ≤ n.around.client.faults → IsWritten own (own_kind q) m.around.client n.around.client end
    → EndsIn q first past s m n end
written_end q first past s m n own (exchange_end.Done member told) cause rest no_fewer written = absurd written
written_end q first past s m n own (exchange_end.Own other) cause rest no_fewer written =
    let same : status_of own ≡ other = sym written.0 in
    (subst (IsOwnCause q first past s m) same cause, subst (WritesOwn q m n) same (record { written = of_own (λ (o : Own). n.around.client.sent ≡ appended m.around.client.sent (own_bytes o (own_kind q))) own written.1; steady = written.2; rest = rest }))
written_end q first past s m n own (exchange_end.Cut member told) cause rest no_fewer written = absurd written
written_end q first past s m n own exchange_end.ClientFault cause rest no_fewer written =
    inr (status_of own, cause, record { written = of_own (λ (o : Own). PutsFront m.around.client.sent n.around.client.sent (own_bytes o (own_kind q))) own written.1; no_fewer = no_fewer; rest = rest }, written.0)
written_end q first past s m n own exchange_end.Truncated cause rest no_fewer written = absurd written
written_end q first past s m n own (exchange_end.Stray ticket returned_at) cause rest no_fewer written = absurd written
written_end q first past s m n own exchange_end.NoMemory cause rest no_fewer written =
    inr (inr (status_of own, cause, record { written = of_own (λ (o : Own). PutsShort m.around.client.sent n.around.client.sent (own_bytes o (own_kind q))) own written.0; steady = written.1; rest = rest }))

pub ends_in : (q : Errand) (first : List ℕ) (past : List Round) (s m n : Scene) (v : RoundVerdict) (end : ExchangeEnd)
    → IsStep q first (tried_in past) (is_later past) s m v → Concludes (own_kind q) v m n end → EndsIn q first past s m n end
ends_in q first past s m n (verdict.Again member) end step concluded = absurd concluded
ends_in q first past s m n (verdict.Answer own) end step concluded =
    written_end q first past s m n own end (own_cause q first past s m own step) concluded.0 concluded.1 concluded.2
ends_in q first past s m n (verdict.End ended) end step concluded =
    subst (λ (x : Scene). EndsIn q first past s m x end) (sym concluded.1)
    (subst (IsEnd q first past s m) (sym concluded.0) (step_end q first past s m ended step))
