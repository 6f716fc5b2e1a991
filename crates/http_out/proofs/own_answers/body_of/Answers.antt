use Rattle.std.proofs.Common.{refl}
use Rattle.std.specs.Fmt.{digits}
use Rattle.http_out.proofs.own_answers.body_of.Goals as goal

pub returns-in-BadRequest-clause-value : goal.returns-in-BadRequest-clause-value
unfolding digits
returns-in-BadRequest-clause-value c = rw c.in-BadRequest.is refl

pub returns-in-Forbidden-clause-value : goal.returns-in-Forbidden-clause-value
unfolding digits
returns-in-Forbidden-clause-value c = rw c.in-Forbidden.is refl

pub returns-in-NotFound-clause-value : goal.returns-in-NotFound-clause-value
unfolding digits
returns-in-NotFound-clause-value c = rw c.in-NotFound.is refl

pub returns-in-ContentTooLarge-clause-value : goal.returns-in-ContentTooLarge-clause-value
unfolding digits
returns-in-ContentTooLarge-clause-value c = rw c.in-ContentTooLarge.is refl

pub returns-in-FieldsTooLarge-clause-value : goal.returns-in-FieldsTooLarge-clause-value
unfolding digits
returns-in-FieldsTooLarge-clause-value c = rw c.in-FieldsTooLarge.is refl

pub returns-in-InternalServerError-clause-value : goal.returns-in-InternalServerError-clause-value
unfolding digits
returns-in-InternalServerError-clause-value c = rw c.in-InternalServerError.is refl

pub returns-in-NotImplemented-clause-value : goal.returns-in-NotImplemented-clause-value
unfolding digits
returns-in-NotImplemented-clause-value c = rw c.in-NotImplemented.is refl

pub returns-in-BadGateway-clause-value : goal.returns-in-BadGateway-clause-value
unfolding digits
returns-in-BadGateway-clause-value c = rw c.in-BadGateway.is refl

pub returns-in-ServiceUnavailable-clause-value : goal.returns-in-ServiceUnavailable-clause-value
unfolding digits
returns-in-ServiceUnavailable-clause-value c = rw c.in-ServiceUnavailable.is refl
