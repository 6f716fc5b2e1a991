-- An own answer by its status, and the one that a refused head gets.
use Rattle.std.proofs.Common.{◌≡◌, ◌==◌, ℕ, Bool, true, false, List, Option, Some, None, IfSome, IsSome, refl, sym, subst, ◌∙◌, eqb-true, if◌then◌else◌, unwrap_or}
use Rattle.http_front.specs.Refusal.{status_of as form_status}
use Rattle.http_front.specs.declared.answers.Form.{Form}
use Rattle.http_front.specs.declared.answers.Form.TheVariants as form_is
use Rattle.http_out.specs.Own.{own_body, own_bytes, own_of, own_with, status_of}
use Rattle.http_out.specs.declared.own_answers.Own.{Own}
use Rattle.http_out.specs.declared.own_answers.OwnKind.{OwnKind}
use Rattle.client_session.specs.Answers.{own_body_of, own_bytes_of, own_for}

-- each answer is the one with its status
own_at : (own : Own) → own_of (status_of own) ≡ Some own
own_at Own.BadRequest = refl
own_at Own.Forbidden = refl
own_at Own.NotFound = refl
own_at Own.ContentTooLarge = refl
own_at Own.FieldsTooLarge = refl
own_at Own.InternalServerError = refl
own_at Own.NotImplemented = refl
own_at Own.BadGateway = refl
own_at Own.ServiceUnavailable = refl

pub own_there : (own : Own) (status : ℕ) → status ≡ status_of own → IsSome (own_of status)
own_there own status is = subst (λ (k : ℕ). IsSome (own_of k)) (sym is) (subst (λ (o : Option Own). IsSome o) (sym (own_at own)) refl)

pub bytes_at : (own : Own) (kind : OwnKind) → own_bytes own kind ≡ own_for (status_of own) kind
bytes_at own kind = subst (λ (o : Option Own). own_bytes own kind ≡ own_bytes_of o kind) (sym (own_at own)) refl

-- the answer to a refused head has the status of its form
pub form_own : (form : Form) (status : ℕ) (own : Own) → status ≡ form_status form → own ≡ own_with status → status_of own ≡ form_status form
form_own form status own number is =
    subst (λ (k : ℕ). own ≡ own_with k → status_of own ≡ form_status form) (sym number)
    (λ same. subst (λ (o : Own). status_of o ≡ form_status form) (sym same) (known form)) is
  where
    known : (f : Form) → status_of (own_with (form_status f)) ≡ form_status f
    known form_is.BadHead = refl
    known form_is.TooBig = refl
    known form_is.BadHost = refl
    known form_is.TwoFramings = refl
    known form_is.BadLength = refl
    known form_is.OldChunked = refl
    known form_is.BadCoding = refl
    known form_is.Connect = refl
    known form_is.TooLong = refl
    known form_is.BadPath = refl

-- ---- a status that an answer has

at_test : (test : Bool) (status known : ℕ) (own : Own) (rest : Option Own) → (test ≡ true → status ≡ known) → status_of own ≡ known
    → (IsSome rest → status_of (unwrap_or rest Own.InternalServerError) ≡ status)
    → IsSome (if test then Some own else rest) → status_of (unwrap_or (if test then Some own else rest) Own.InternalServerError) ≡ status
at_test true status known own rest is of more some = of ∙ sym (is refl)
at_test false status known own rest is of more some = more some

no_more : (status : ℕ) → IsSome {T = Own} None → status_of (unwrap_or None Own.InternalServerError) ≡ status
no_more status some = absurd cc

pub status_at : (status : ℕ) → IsSome (own_of status) → status_of (own_with status) ≡ status
status_at status =
    at_test (status == 400) status 400 Own.BadRequest _ (eqb-true status 400) refl
    (at_test (status == 403) status 403 Own.Forbidden _ (eqb-true status 403) refl
    (at_test (status == 404) status 404 Own.NotFound _ (eqb-true status 404) refl
    (at_test (status == 413) status 413 Own.ContentTooLarge _ (eqb-true status 413) refl
    (at_test (status == 431) status 431 Own.FieldsTooLarge _ (eqb-true status 431) refl
    (at_test (status == 500) status 500 Own.InternalServerError _ (eqb-true status 500) refl
    (at_test (status == 501) status 501 Own.NotImplemented _ (eqb-true status 501) refl
    (at_test (status == 502) status 502 Own.BadGateway _ (eqb-true status 502) refl
    (at_test (status == 503) status 503 Own.ServiceUnavailable _ (eqb-true status 503) refl (no_more status)))))))))

-- ---- its body

pub body_at : (own : Own) (status : ℕ) (bytes : List ℕ) → status ≡ status_of own → IfSome (own_of status) (λ o. bytes ≡ own_body o)
    → bytes ≡ own_body_of (own_of (status_of own))
body_at own status bytes is told =
    let there : IfSome (own_of (status_of own)) (λ o. bytes ≡ own_body o) = subst (λ (k : ℕ). IfSome (own_of k) (λ o. bytes ≡ own_body o)) is told in
    let same : bytes ≡ own_body own = subst (λ (found : Option Own). IfSome found (λ o. bytes ≡ own_body o)) (own_at own) there in
    subst (λ (found : Option Own). bytes ≡ own_body_of found) (sym (own_at own)) same
