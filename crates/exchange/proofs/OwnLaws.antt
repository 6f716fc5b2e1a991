-- The own answers that an exchange gives.
use Rattle.std.proofs.Common.{◌≡◌, ◌⊎◌, ℕ, Bool, true, false, List, Option, Some, None, IfSome, IsSome, Ok, Err, refl, sym, subst, inl, inr, if◌then◌else◌}
use Rattle.lb_model.specs.declared.member.MemberConfig.{MemberConfig}
use Rattle.ajp_talk.specs.declared.ending.Cause.TheVariants as cause_is
use Rattle.ajp_talk.specs.declared.ending.TalkEnd.TheVariants as ends
use Rattle.ajp_talk.specs.declared.ending.Told.{Told}
use Rattle.ajp_talk.specs.declared.plan.TalkPlan.{TalkPlan}
use Rattle.http_out.specs.Own.{own_of, own_with, status_of}
use Rattle.http_out.specs.declared.own_answers.Own.{Own}
use Rattle.site_config.specs.declared.endpoint.Endpoint.{Endpoint}
use Rattle.exchange.specs.OneTalk.{Around, IsOneTalk}
use Rattle.exchange.specs.Requests.{Errand}
use Rattle.exchange.specs.Talks.{HasRun}
use Rattle.exchange.specs.declared.ending.Ran.TheVariants as ran_is

pub is_own : (status known : ℕ) → status ≡ known → IsSome (own_of known) → IsSome (own_of status)
is_own status known is some = subst (λ (n : ℕ). IsSome (own_of n)) (sym is) some

-- each answer is the one with its status
known_own : (own : Own) → own_of (status_of own) ≡ Some own
known_own Own.BadRequest = refl
known_own Own.Forbidden = refl
known_own Own.NotFound = refl
known_own Own.ContentTooLarge = refl
known_own Own.FieldsTooLarge = refl
known_own Own.InternalServerError = refl
known_own Own.NotImplemented = refl
known_own Own.BadGateway = refl
known_own Own.ServiceUnavailable = refl

pub of_own : (P : Own → Type 0) (own : Own) → P own → IfSome (own_of (status_of own)) P
of_own P own is = subst (λ (o : Option Own). IfSome o P) (sym (known_own own)) is

-- a body is bad with 400 or 413
bad_is : (lb member : ℕ) (endpoint : Endpoint) (plan : TalkPlan) (fresh : Bool) (s n : Around) (status : ℕ) (told : Option Told) (passed : Bool) (bytes : ℕ)
    → IsOneTalk lb member endpoint plan fresh s n (Ok (ends.BadBody status told passed bytes)) → (status ≡ 400) ⊎ (status ≡ 413)
bad_is lb member endpoint plan fresh s n status told passed bytes (inl held) =
    elim held.talk.why [
      | inl line ↦ inl line.0
      | inr limit ↦ inr limit.0
    ]
bad_is lb member endpoint plan fresh s n status told passed bytes (inr (inl linkless)) =
    absurd (let is : Ok (ends.BadBody status told passed bytes) ≡ Ok (ends.Failed (record { got = false; headers = false; passed = false; beyond = false }) cause_is.NoLink None 0) = linkless.0 in cc)
bad_is lb member endpoint plan fresh s n status told passed bytes (inr (inr wanted)) =
    absurd (let is : Ok (ends.BadBody status told passed bytes) ≡ Err wanted.0 = wanted.1 in cc)

some_bad : (status : ℕ) → (status ≡ 400) ⊎ (status ≡ 413) → IsSome (own_of status)
some_bad status (inl is) = is_own status 400 is refl
some_bad status (inr is) = is_own status 413 is refl

pub bad_status : (lb member : ℕ) (endpoint : Endpoint) (plan : TalkPlan) (fresh : Bool) (s n : Around) (status : ℕ) (told : Option Told) (passed : Bool) (bytes : ℕ)
    → IsOneTalk lb member endpoint plan fresh s n (Ok (ends.BadBody status told passed bytes)) → IsSome (own_of status)
bad_status lb member endpoint plan fresh s n status told passed bytes talk = some_bad status (bad_is lb member endpoint plan fresh s n status told passed bytes talk)

same_bad : (status : ℕ) → (status ≡ 400) ⊎ (status ≡ 413) → status_of (own_with status) ≡ status
same_bad status (inl is) = subst (λ (n : ℕ). status_of (own_with n) ≡ n) (sym is) refl
same_bad status (inr is) = subst (λ (n : ℕ). status_of (own_with n) ≡ n) (sym is) refl

-- the answer to a bad body has the status that the talk found
pub bad_own : (q : Errand) (first : List ℕ) (member : ℕ) (config : MemberConfig) (endpoint : Endpoint) (fresh : Bool) (s n : Around) (status : ℕ) (told : Option Told) (passed : Bool)
    (moved bytes : ℕ) → HasRun q first member config endpoint fresh s n (ran_is.Ended (ends.BadBody status told passed moved) bytes) → status_of (own_with status) ≡ status
bad_own q first member config endpoint fresh s n status told passed moved bytes (inl (fits, (before, runs, counted))) =
    same_bad status (bad_is _ _ _ _ _ _ _ status told passed moved runs.final)
bad_own q first member config endpoint fresh s n status told passed moved bytes (inr (inl (ended, unfit, same))) = absurd cc
bad_own q first member config endpoint fresh s n status told passed moved bytes (inr (inr (ended, same))) = absurd cc

-- the answer to a talk that failed has the status of its cause
pub failed_status : (b : Bool) → status_of (own_with (if b then 503 else 502)) ≡ (if b then 503 else 502)
failed_status true = refl
failed_status false = refl

pub or_other : (b : Bool) (status : ℕ) → status ≡ (if b then 503 else 502) → IsSome (own_of status)
or_other true status is = is_own status 503 is refl
or_other false status is = is_own status 502 is refl
